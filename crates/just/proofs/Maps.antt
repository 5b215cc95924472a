-- The maps of long names and letters find the place that the rules find.
use Rattle.std.proofs.Common.{◌≡◌, ℕ, zero, suc, ◌+◌, Bool, true, false, cond, not, ◌&&◌, ◌||◌, eqb, List, [], ◌∷◌, map, is_some, Some, None, Option, sym, refl, ap, ◌∙◌, zero-add, arith}
use Rattle.std.specs.Option.{option_map}
use Rattle.std.specs.List.{slice_get}
use Rattle.std.specs.Str.{bytes_eq}
use Rattle.std.proofs.lemmas.Bool.{true≢false}
use Rattle.text.specs.Identifier.{Text}
use Rattle.text.proofs.Splits.{either_way}
use Rattle.register.specs.Meaning.{ParameterMeaning}
use Rattle.register.specs.Parameters.{place_of, Passes, AtMostOne, Apart, is_text, is_code, has_long_name, has_letter_code, long_place, letter_place}
use Rattle.register.proofs.Places.{place_found, place_never, passing}
use Rattle.reading.specs.Signature as rules
use Rattle.just.specs.Table.{Entry, Map, find, collected, is_empty}
use Rattle.just.specs.Parameter.{Parameter}
use Rattle.just.specs.InvocationParser.{entry_of, entries_by, long_of, short_of}
use Rattle.just.proofs.Meaning.{meaning}

pub clash : {X : Type 0} → true ≡ false → X
clash e = absurd (true≢false e)

pub place_map : {X Y : Type 0} (f : X → Y) (test : Y → Bool) (xs : List X) → place_of test (map f xs) ≡ place_of (λ x. test (f x)) xs
place_map f test [] = refl
place_map f test (x ∷ xs) = ap (λ (o : Option ℕ). cond (test (f x)) (Some 0) (option_map suc o)) (place_map f test xs)

pub nth_mapped : {X Y : Type 0} (f : X → Y) (xs : List X) (i : ℕ) → slice_get (map f xs) i ≡ option_map f (slice_get xs i)
nth_mapped f [] i = refl
nth_mapped f (x ∷ xs) zero = refl
nth_mapped f (x ∷ xs) (suc i) = nth_mapped f xs i

-- whether a key is the one looked for
abbrev keyed : {K : Type 0} → (K → K → Bool) → K → Option K → Bool
keyed same t None = false
keyed same t (Some s) = same s t

module _ {K : Type 0} (same : K → K → Bool) (t : K) (name : Parameter → Option K) where
  abbrev test : Parameter → Bool
  test p = keyed same t (name p)

  abbrev NoneOf : List Parameter → Type 0
  NoneOf ps = (j : ℕ) (p : Parameter) → slice_get ps j ≡ Some p → test p ≡ false

  passed : (o : Option K) (m : Map K ℕ) (i : ℕ) (es : List (Entry K ℕ)) → keyed same t o ≡ false → ((n : Map K ℕ) → find same (collected n es) t ≡ find same n t) → find same (collected m (entry_of o i es)) t ≡ find same m t
  passed None m i es f go = go m
  passed (Some s) m i es f go = go (record { key = s; value = i } ∷ m) ∙ rw f

  map_passes : (ps : List Parameter) → NoneOf ps → (m : Map K ℕ) (i : ℕ) → find same (collected m (entries_by name i ps)) t ≡ find same m t
  map_passes [] no! m i = refl
  map_passes (p ∷ ps) no! m i = passed (name p) m i (entries_by name (suc i) ps) (no! 0 p refl) (λ n. map_passes ps (λ j q e. no! (suc j) q e) n (suc i))

  found : (o : Option K) (m : Map K ℕ) (i : ℕ) (es : List (Entry K ℕ)) → keyed same t o ≡ true → ((n : Map K ℕ) → find same (collected n es) t ≡ find same n t) → find same (collected m (entry_of o i es)) t ≡ Some i
  found None m i es f go = clash (sym f)
  found (Some s) m i es f go = go (record { key = s; value = i } ∷ m) ∙ rw f

  skipped : (o : Option K) (m : Map K ℕ) (i : ℕ) (es : List (Entry K ℕ)) (r : Option ℕ) → ((n : Map K ℕ) → find same (collected n es) t ≡ r) → find same (collected m (entry_of o i es)) t ≡ r
  skipped None m i es r go = go m
  skipped (Some s) m i es r go = go (record { key = s; value = i } ∷ m)

  map_finds : (ps : List Parameter) (k : ℕ) (q : Parameter) → slice_get ps k ≡ Some q → test q ≡ true → ((j : ℕ) (p : Parameter) → slice_get ps j ≡ Some p → (j ≡ k → ⊥) → test p ≡ false) → (m : Map K ℕ) (i : ℕ) → find same (collected m (entries_by name i ps)) t ≡ Some (i + k)
  map_finds [] k q at yes! others m i = let z : ◌≡◌ {A = ℕ} 0 1 = cc in absurd (omega arith)
  map_finds (p ∷ ps) zero q at yes! others m i =
      let same! : p ≡ q = cc in
      let h : i ≡ i + 0 = omega arith in
      found (name p) m i (entries_by name (suc i) ps) (ap test same! ∙ yes!) (λ n. map_passes ps (λ j r e. others (suc j) r e (λ z. omega arith)) n (suc i)) ∙ ap (λ (x : ℕ). Some x) h
  map_finds (p ∷ ps) (suc k) q at yes! others m i =
      let h : suc i + k ≡ i + suc k = omega arith in
      skipped (name p) m i (entries_by name (suc i) ps) (Some (i + suc k))
      (λ n. map_finds ps k q at yes! (λ j r e apart. others (suc j) r e (λ z. apart (omega arith))) n (suc i) ∙ ap (λ (x : ℕ). Some x) h)

  pub map_is : (ps : List Parameter) → AtMostOne test ps → find same (collected [] (entries_by name 0 ps)) t ≡ place_of test ps
  map_is ps one = go (place_of test ps) refl
    where
      pass : (j : ℕ) (p : Parameter) → slice_get ps j ≡ Some p → test p ≡ true → Passes test ps j
      pass j p e h = ap (option_map test) e ∙ ap (λ (b : Bool). Some b) h

      found_at : (k : ℕ) (q : Parameter) → slice_get ps k ≡ Some q → test q ≡ true → find same (collected [] (entries_by name 0 ps)) t ≡ Some k
      found_at k q e h = map_finds ps k q e h (λ j p f apart. either_way (test p) (λ y. absurd (apart (one j k (pass j p f y) (pass k q e h)))) (λ n. n)) [] 0 ∙ ap (λ (x : ℕ). Some x) (zero-add k)

      go : (o : Option ℕ) → place_of test ps ≡ o → find same (collected [] (entries_by name 0 ps)) t ≡ o
      go None e = map_passes ps (λ j p f. either_way (test p) (λ y. absurd (place_never test ps j (pass j p f y) e)) (λ n. n)) [] 0
      go (Some k) e = let w = passing test ps k (place_found test ps k e) in found_at k w.0 w.1 w.2

text_keyed : (t : Text) (o : Option Text) → is_text t o ≡ keyed bytes_eq t o
text_keyed t None = refl
text_keyed t (Some s) = refl

code_keyed : (c : ℕ) (o : Option ℕ) → is_code c o ≡ keyed eqb c o
code_keyed c None = refl
code_keyed c (Some d) = refl

alike_place : {X : Type 0} (f g : X → Bool) → ((x : X) → f x ≡ g x) → (xs : List X) → place_of f xs ≡ place_of g xs
alike_place f g h [] = refl
alike_place f g h (x ∷ xs) = rw (h x, alike_place f g h xs)

-- at most one of the parameters, as just has them
alike_one : (f : ParameterMeaning → Bool) (g : Parameter → Bool) → ((p : Parameter) → f (meaning p) ≡ g p) → (ps : List Parameter) → AtMostOne f (map meaning ps) → AtMostOne g ps
alike_one f g h ps one i j a b = one i j (to i a) (to j b)
  where
    by : (o : Option Parameter) → option_map g o ≡ Some true → option_map f (option_map meaning o) ≡ Some true
    by None e = e
    by (Some p) e = ap (λ (b : Bool). Some b) (h p) ∙ e

    to : (k : ℕ) → Passes g ps k → Passes f (map meaning ps) k
    to k e = ap (option_map f) (nth_mapped meaning ps k) ∙ by (slice_get ps k) e

module _ (ps : List Parameter) (apart : Apart (map meaning ps)) where
  pub long_is : (t : Text) → find bytes_eq (long_of ps) t ≡ long_place (map meaning ps) t
  long_is t =
      map_is bytes_eq t (λ p. p.long) ps (alike_one (has_long_name t) (λ p. keyed bytes_eq t p.long) (λ p. text_keyed t p.long) ps (apart.longs t))
      ∙ sym (place_map meaning (has_long_name t) ps ∙ alike_place (λ p. has_long_name t (meaning p)) (λ p. keyed bytes_eq t p.long) (λ p. text_keyed t p.long) ps)

  pub short_is : (c : ℕ) → find eqb (short_of ps) c ≡ letter_place (map meaning ps) c
  short_is c =
      map_is eqb c (λ p. p.short) ps (alike_one (has_letter_code c) (λ p. keyed eqb c p.short) (λ p. code_keyed c p.short) ps (apart.letters c))
      ∙ sym (place_map meaning (has_letter_code c) ps ∙ alike_place (λ p. has_letter_code c (meaning p)) (λ p. keyed eqb c p.short) (λ p. code_keyed c p.short) ps)

-- no map has an entry exactly where no parameter is an option
full_stays : {K : Type 0} (e : Entry K ℕ) (m : Map K ℕ) (es : List (Entry K ℕ)) → is_empty (collected (e ∷ m) es) ≡ false
full_stays e m [] = refl
full_stays e m (x ∷ es) = full_stays x (e ∷ m) es

collected_empty : {K : Type 0} (es : List (Entry K ℕ)) → is_empty (collected [] es) ≡ is_empty es
collected_empty [] = refl
collected_empty (e ∷ es) = full_stays e [] es

entry_empty : {K : Type 0} (o : Option K) (i : ℕ) (es : List (Entry K ℕ)) → is_empty (entry_of o i es) ≡ (not (is_some o) && is_empty es)
entry_empty None i es = refl
entry_empty (Some k) i es = refl

four : (a b c d e : Bool) → (c && d) ≡ not e → ((not a && c) && (not b && d)) ≡ not ((a || b) || e)
four true b c d e h = refl
four false true true d e h = refl
four false true false d e h = refl
four false false c d e h = h

none_empty : (i : ℕ) (ps : List Parameter) → (is_empty (entries_by (λ p. p.long) i ps) && is_empty (entries_by (λ p. p.short) i ps)) ≡ not (rules.any_option (map meaning ps))
none_empty i [] = refl
none_empty i (p ∷ ps) =
    rw (entry_empty p.long i (entries_by (λ p. p.long) (suc i) ps), entry_empty p.short i (entries_by (λ p. p.short) (suc i) ps))
    (four (is_some p.long) (is_some p.short) (is_empty (entries_by (λ p. p.long) (suc i) ps)) (is_empty (entries_by (λ p. p.short) (suc i) ps)) (rules.any_option (map meaning ps)) (none_empty (suc i) ps))

pub no_options : (ps : List Parameter) → (is_empty (long_of ps) && is_empty (short_of ps)) ≡ not (rules.any_option (map meaning ps))
no_options ps = rw (collected_empty (entries_by (λ p. p.long) 0 ps), collected_empty (entries_by (λ p. p.short) 0 ps)) (none_empty 0 ps)
