-- A word with colons, by just and by the rules.
use Rattle.std.proofs.Common.{◌≡◌, ℕ, Bool, true, false, cond, ◌&&◌, ◌||◌, eqb, List, [], ◌∷◌, ◌++◌, is_some, Some, None, Ok, Err, Option, unwrap_or, sym, refl, ap, ◌∙◌, subst, arith}
use Rattle.std.specs.Option.{option_map}
use Rattle.std.specs.List.{AllByRecursion}
use Rattle.std.specs.Str.{bytes_eq}
use Rattle.std.proofs.lemmas.Slice.Eq.{bytes_eq-Decides}
use Rattle.std.proofs.lemmas.Bool.{and_parts, or_left, ne_eqb, true≢false, false≢true}
use Rattle.text.specs.Identifier.{Text, starts, follows, all_follow, identifier}
use Rattle.text.specs.Pieces.{has_colon, split, onto, identifiers, well_formed, Unclosed, unclosed}
use Rattle.text.proofs.Splits.{either_way, split_some}
use Rattle.text.proofs.Joins.{unclosed_is}
use Rattle.just.specs.Str as str
use Rattle.just.specs.Modulepath.{is_name, all_names, try_from}

pub colon_is : (w : Text) → str.contains (58 ∷ []) w ≡ has_colon w
colon_is [] = refl
colon_is (b ∷ t) = rw (colon_is t) (either_way (eqb b 58) (λ e. rw e) (λ e. rw e))

prepend_is : (b : ℕ) (ps : List Text) → str.prepend b ps ≡ onto b ps
prepend_is b [] = refl
prepend_is b (p ∷ ps) = refl

pub split_is : (w : Text) → str.split_colons w ≡ split w
split_is [] = refl
split_is (b ∷ []) = refl
split_is (b ∷ c ∷ t) = rw (split_is t, split_is (c ∷ t), prepend_is b (split (c ∷ t)))

-- a closing `::`

abbrev Strips : Text → Text → Option Text → Type 0
Strips s t None = (v : Text) → t ≡ v ++ s → ⊥
Strips s t (Some u) = t ≡ u ++ s

none_later : (s : Text) (b : ℕ) (t : Text) → bytes_eq (b ∷ t) s ≡ false → ((v : Text) → t ≡ v ++ s → ⊥) → (v : Text) → b ∷ t ≡ v ++ s → ⊥
none_later s b t no! h [] e = true≢false (sym ((bytes_eq-Decides (b ∷ t) s).1 e) ∙ no!)
none_later s b t no! h (x ∷ v) e = h v (let r : t ≡ v ++ s = cc in r)

strips_later : (s : Text) (b : ℕ) (t : Text) → bytes_eq (b ∷ t) s ≡ false → (o : Option Text) → Strips s t o → Strips s (b ∷ t) (option_map (λ (u : Text). b ∷ u) o)
strips_later s b t no! (Some u) h = ap (λ (x : Text). b ∷ x) h
strips_later s b t no! None h = none_later s b t no! h

strips : (s t : Text) → Strips s t (str.strip_suffix s t)
strips s [] = either_way (bytes_eq [] s) (λ e. rw e ((bytes_eq-Decides [] s).0 e)) (λ e. rw e (none e))
  where
    none : bytes_eq [] s ≡ false → (v : Text) → [] ≡ v ++ s → ⊥
    none e [] h = true≢false (sym ((bytes_eq-Decides [] s).1 h) ∙ e)
    none e (x ∷ v) h = let z : ◌≡◌ {A = ℕ} 0 1 = cc in omega arith
strips s (b ∷ t) = either_way (bytes_eq (b ∷ t) s) (λ e. rw e ((bytes_eq-Decides (b ∷ t) s).0 e)) (λ e. rw e (strips_later s b t e (str.strip_suffix s t) (strips s t)))

pub closing_is : (w : Text) → unwrap_or (str.strip_suffix (58 ∷ 58 ∷ []) w) w ≡ unclosed w
closing_is w = go (str.strip_suffix (58 ∷ 58 ∷ []) w) (strips (58 ∷ 58 ∷ []) w)
  where
    go : (o : Option Text) → Strips (58 ∷ 58 ∷ []) w o → unwrap_or o w ≡ unclosed w
    go None h = sym (unclosed_is (Unclosed.bare h))
    go (Some u) h = sym (unclosed_is (Unclosed.closed h))

-- identifiers have no colon at an end and no three in a row

abbrev ends : Text → Bool
ends [] = false
ends (b ∷ []) = eqb b 58
ends (b ∷ c ∷ t) = ends (c ∷ t)

and_nil : (x : Bool) → (x && false) ≡ false
and_nil true = refl
and_nil false = refl

some_same : (b : ℕ) (o : Option Text) → is_some (option_map (λ (u : Text). b ∷ u) o) ≡ is_some o
some_same b None = refl
some_same b (Some u) = refl

ends_is : (w : Text) → str.ends_with (58 ∷ []) w ≡ ends w
ends_is [] = refl
ends_is (b ∷ []) = either_way (eqb b 58) (λ e. rw e) (λ e. rw e)
ends_is (b ∷ c ∷ t) = rw (and_nil (eqb b 58)) (some_same b (str.strip_suffix (58 ∷ []) (c ∷ t)) ∙ ends_is (c ∷ t))

abbrev three : Text → Bool
three t = str.starts_with (58 ∷ 58 ∷ 58 ∷ []) t

abbrev has3 : Text → Bool
has3 t = str.contains (58 ∷ 58 ∷ 58 ∷ []) t

-- a text that starts with another byte, or whose second or third is another
three_first : (b : ℕ) (t : Text) → eqb b 58 ≡ false → three (b ∷ t) ≡ false
three_first b t e = rw e

three_second : (b c : ℕ) (t : Text) → eqb c 58 ≡ false → three (b ∷ c ∷ t) ≡ false
three_second b c t e = either_way (eqb b 58) (λ f. rw (f, e)) (λ f. rw f)

three_third : (b c d : ℕ) (t : Text) → eqb d 58 ≡ false → three (b ∷ c ∷ d ∷ t) ≡ false
three_third b c d t e = either_way (eqb b 58) (λ f. rw f (either_way (eqb c 58) (λ g. rw (g, e)) (λ g. rw g))) (λ f. rw f)

follows_apart : (b : ℕ) → follows b ≡ true → eqb b 58 ≡ false
follows_apart b e = ne_eqb b 58 (λ h. false≢true (sym (ap follows h) ∙ e))

starts_follows : (b : ℕ) → starts b ≡ true → follows b ≡ true
starts_follows b e = or_left (starts b) _ e

-- names behind the first piece, and a first piece that may go on with any
abbrev rest_ok : List Text → Bool
rest_ok [] = true
rest_ok (q ∷ qs) = identifiers (q ∷ qs)

abbrev partial : List Text → Bool
partial [] = true
partial (p ∷ ps) = all_follow p && rest_ok ps

identifier_follows : (p : Text) → identifier p ≡ true → all_follow p ≡ true
identifier_follows [] e = absurd (false≢true e)
identifier_follows (b ∷ t) e = let h = and_parts (starts b) (all_follow t) e in rw (starts_follows b h.0) h.1

whole_partial : (ps : List Text) → identifiers ps ≡ true → partial ps ≡ true
whole_partial [] e = refl
whole_partial (p ∷ []) e = rw (identifier_follows p e)
whole_partial (p ∷ q ∷ ps) e = let h = and_parts (identifier p) (identifiers (q ∷ ps)) e in rw (identifier_follows p h.0) h.1

-- the first byte of identifiers
first_name : (p : Text) (ps : List Text) → identifiers (p ∷ ps) ≡ true → identifier p ≡ true
first_name p [] e = e
first_name p (q ∷ ps) e = (and_parts (identifier p) (identifiers (q ∷ ps)) e).0

first_apart : (d : ℕ) (u : Text) → identifiers (split (d ∷ u)) ≡ true → eqb d 58 ≡ false
first_apart d [] e = let h = and_parts (starts d) true e in follows_apart d (starts_follows d h.0)
first_apart d (c ∷ u) e =
    either_way (eqb d 58 && eqb c 58)
    (λ f. let s = split_some u in
    let bad : identifiers ([] ∷ s.0 ∷ s.1) ≡ true = sym (ap (λ (l : List Text). identifiers ([] ∷ l)) s.2) ∙ (rw f at e) in
    absurd (false≢true bad))
    (λ f. let s = split_some (c ∷ u) in
    let good : identifiers ((d ∷ s.0) ∷ s.1) ≡ true = sym (ap (λ (l : List Text). identifiers (onto d l)) s.2) ∙ (rw f at e) in
    follows_apart d (starts_follows d (and_parts (starts d) (all_follow s.0) (first_name (d ∷ s.0) s.1 good)).0))

record Bare (w : Text) : Type 0 where
  no_end : ends w ≡ false
  no_three : has3 w ≡ false

rest_of : (p : Text) (ps : List Text) → partial (p ∷ ps) ≡ true → rest_ok ps ≡ true
rest_of p ps e = (and_parts (all_follow p) (rest_ok ps) e).1

bare : (w : Text) → partial (split w) ≡ true → Bare w
bare [] e = record { no_end = refl; no_three = refl }
bare (b ∷ []) e =
    let h = follows_apart b (and_parts (follows b) true (and_parts (follows b && true) true e).0).0 in
    record { no_end = h; no_three = rw h }
bare (b ∷ c ∷ t) e =
    either_way (eqb b 58 && eqb c 58)
    (λ f. apart t (let s = split_some t in
    let r : rest_ok (split t) ≡ true = rest_of [] (split t) (rw f at e) in
    ap identifiers s.2 ∙ sym (ap rest_ok s.2) ∙ r)
    (bare t))
    (λ f. let s = split_some (c ∷ t) in
    let g : partial ((b ∷ s.0) ∷ s.1) ≡ true = sym (ap (λ (l : List Text). partial (onto b l)) s.2) ∙ (rw f at e) in
    let k = and_parts (follows b && all_follow s.0) (rest_ok s.1) g in
    let j = and_parts (follows b) (all_follow s.0) k.0 in
    let next : partial (split (c ∷ t)) ≡ true = ap partial s.2 ∙ (let q : (all_follow s.0 && rest_ok s.1) ≡ true = rw j.1 k.1 in q) in
    onward (follows_apart b j.0) (bare (c ∷ t) next))
  where
    onward : eqb b 58 ≡ false → Bare (c ∷ t) → Bare (b ∷ c ∷ t)
    onward n r = record { no_end = r.no_end; no_three = rw (three_first b (c ∷ t) n) r.no_three }

    apart : (t' : Text) → identifiers (split t') ≡ true → (partial (split t') ≡ true → Bare t') → Bare (b ∷ c ∷ t')
    apart [] i go = absurd (false≢true i)
    apart (d ∷ u) i go =
        let r = go (whole_partial (split (d ∷ u)) i) in
        let n = first_apart d u i in
        record { no_end = r.no_end; no_three = rw (three_third b c d u n, three_second c d u n) r.no_three }

-- Names.

-- each piece of a word is a name by its characters where it is an identifier by its bytes
abbrev pub Named : Text → Type 0
Named w = AllByRecursion (λ p. is_name (str.chars p) ≡ identifier p) (split w)

names_are : (p : Text) (ps : List Text) → AllByRecursion (λ p. is_name (str.chars p) ≡ identifier p) (p ∷ ps) → all_names (p ∷ ps) ≡ identifiers (p ∷ ps)
names_are p [] h = rw h.0 (last (identifier p))
  where
    last : (b : Bool) → (b && true) ≡ b
    last true = refl
    last false = refl
names_are p (q ∷ ps) h = rw (h.0, names_are q ps h.1)

all_names_lem : (w : Text) → Named w → all_names (str.split_colons w) ≡ well_formed w
all_names_lem w h =
    let s = split_some w in
    ap all_names (split_is w ∙ s.2) ∙ names_are s.0 s.1 (subst (AllByRecursion (λ p. is_name (str.chars p) ≡ identifier p)) s.2 h) ∙ ap identifiers (sym s.2)

colon_first : (w : Text) → well_formed w ≡ true → str.starts_with (58 ∷ []) w ≡ false
colon_first [] e = refl
colon_first (b ∷ t) e = rw (first_apart b t e)

pub try_is : (w : Text) → Named w → try_from (w ∷ []) ≡ cond (well_formed w) (Ok (record { components = split w; spaced = false })) (Err tt)
try_is w named =
    either_way (well_formed w)
    (λ e. let b = bare w (whole_partial (split w) e) in
    rw (colon_first w e, ends_is w, b.no_end, b.no_three, all_names_lem w named, e) (ap (λ (l : List Text). Ok (record { components = l; spaced = false })) (split_is w)))
    (λ e. rw (all_names_lem w named, e) (either_way (str.starts_with (58 ∷ []) w || (str.ends_with (58 ∷ []) w || has3 w)) (λ f. rw f) (λ f. rw f)))
