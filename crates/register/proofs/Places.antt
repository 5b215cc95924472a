-- The first place that passes a test. Assumes nothing.
use Rattle.std.proofs.Common.{◌≡◌, ℕ, zero, suc, Bool, true, false, cond, List, [], ◌∷◌, is_some, Some, None, Option, refl, ap, ◌∙◌, arith}
use Rattle.std.specs.Option.{option_map, option_flatten}
use Rattle.std.specs.List.{slice_get}
use Rattle.std.proofs.lemmas.Slice.Eq.{bytes_eq-Decides}
use Rattle.std.proofs.lemmas.Bool.{eqb-true, eq-eqb}
use Rattle.text.specs.Identifier.{Text}
use Rattle.register.specs.Meaning.{ParameterMeaning}
use Rattle.register.specs.Parameters.{place_of, Passes, AtMostOne, has_long_name, has_letter_code, is_text, is_code, long_at, letter_at}

module _ {X : Type 0} (test : X → Bool) where
  none_by : (x : X) (xs : List X) (b : Bool) → test x ≡ b → ((i : ℕ) → Passes test (x ∷ xs) i → ⊥) → place_of test xs ≡ None → place_of test (x ∷ xs) ≡ None
  none_by x xs true e n later = absurd (n 0 (ap (λ w. Some w) e))
  none_by x xs false e n later = ap (λ b. cond b (Some 0) (option_map suc (place_of test xs))) e ∙ ap (option_map suc) later

  pub place_none : (xs : List X) → ((i : ℕ) → Passes test xs i → ⊥) → place_of test xs ≡ None
  place_none [] n = refl
  place_none (x ∷ xs) n = none_by x xs (test x) refl n (place_none xs (λ i. n (suc i)))

  only_by : (x : X) (xs : List X) (i : ℕ) (b : Bool) → test x ≡ b → AtMostOne test (x ∷ xs) → Passes test xs i → place_of test xs ≡ Some i → place_of test (x ∷ xs) ≡ Some (suc i)
  only_by x xs i true e one h later = let z : 0 ≡ suc i = one 0 (suc i) (ap (λ w. Some w) e) h in absurd (omega arith)
  only_by x xs i false e one h later = ap (λ b. cond b (Some 0) (option_map suc (place_of test xs))) e ∙ ap (option_map suc) later

  pub place_only : (xs : List X) (i : ℕ) → AtMostOne test xs → Passes test xs i → place_of test xs ≡ Some i
  place_only [] i one h = let z : ◌≡◌ {A = ℕ} 0 1 = cc in absurd (omega arith)
  place_only (x ∷ xs) zero one h = let e : test x ≡ true = cc in ap (λ b. cond b (Some 0) (option_map suc (place_of test xs))) e
  place_only (x ∷ xs) (suc i) one h =
      only_by x xs i (test x) refl one h (place_only xs i (λ p q a b. let z : suc p ≡ suc q = one (suc p) (suc q) a b in omega arith) h)

  found_later : (x : X) (xs : List X) (o : Option ℕ) (i : ℕ) → option_map suc o ≡ Some i → ((j : ℕ) → o ≡ Some j → Passes test xs j) → Passes test (x ∷ xs) i
  found_later x xs None i m later = let z : ◌≡◌ {A = ℕ} 0 1 = cc in absurd (omega arith)
  found_later x xs (Some j) zero m later = let z : suc j ≡ 0 = cc in absurd (omega arith)
  found_later x xs (Some j) (suc i) m later = later i (cc)

  found_by : (x : X) (xs : List X) (i : ℕ) (b : Bool) → test x ≡ b → cond b (Some 0) (option_map suc (place_of test xs)) ≡ Some i → ((j : ℕ) → place_of test xs ≡ Some j → Passes test xs j) → Passes test (x ∷ xs) i
  found_by x xs zero true e h later = ap (λ w. Some w) e
  found_by x xs (suc i) true e h later = let z : 0 ≡ suc i = cc in absurd (omega arith)
  found_by x xs i false e h later = found_later x xs (place_of test xs) i h later

  pub place_found : (xs : List X) (i : ℕ) → place_of test xs ≡ Some i → Passes test xs i
  place_found [] i h = let z : ◌≡◌ {A = ℕ} 0 1 = cc in absurd (omega arith)
  place_found (x ∷ xs) i h = found_by x xs i (test x) refl h (λ j. place_found xs j)

  never_by : (x : X) (xs : List X) (i : ℕ) (b : Bool) → test x ≡ b → cond b (Some 0) (option_map suc (place_of test xs)) ≡ None → (place_of test xs ≡ None → ⊥) → ⊥
  never_by x xs i true e h later = let z : ◌≡◌ {A = ℕ} 0 1 = cc in omega arith
  never_by x xs i false e h later = later (emptied (place_of test xs) h)
    where
      emptied : (o : Option ℕ) → option_map suc o ≡ None → o ≡ None
      emptied None m = refl
      emptied (Some j) m = let z : ◌≡◌ {A = ℕ} 0 1 = cc in absurd (omega arith)

  -- where no place is found none passes
  pub place_never : (xs : List X) (i : ℕ) → Passes test xs i → place_of test xs ≡ None → ⊥
  place_never [] i h e = let z : ◌≡◌ {A = ℕ} 0 1 = cc in omega arith
  place_never (x ∷ xs) zero h e =
      let t : test x ≡ true = cc in
      let f : place_of test (x ∷ xs) ≡ Some 0 = ap (λ b. cond b (Some 0) (option_map suc (place_of test xs))) t in
      let z : ◌≡◌ {A = ℕ} 0 1 = cc in omega arith
  place_never (x ∷ xs) (suc i) h e = never_by x xs i (test x) refl e (place_never xs i h)

  -- some place is found exactly where one passes
  pub some_passes : (xs : List X) → is_some (place_of test xs) ≡ true → (i : ℕ) × Passes test xs i
  some_passes xs h = at (place_of test xs) refl h
    where
      at : (o : Option ℕ) → place_of test xs ≡ o → is_some o ≡ true → (i : ℕ) × Passes test xs i
      at None e m = let z : ◌≡◌ {A = ℕ} 0 1 = cc in absurd (omega arith)
      at (Some i) e m = (i, place_found xs i e)

  pub passes_some : (xs : List X) (i : ℕ) → Passes test xs i → is_some (place_of test xs) ≡ true
  passes_some xs i h = at (place_of test xs) refl
    where
      at : (o : Option ℕ) → place_of test xs ≡ o → is_some (place_of test xs) ≡ true
      at None e = absurd (place_never xs i h e)
      at (Some j) e = ap is_some e

  -- the item of a place that passes
  pub passing : (xs : List X) (i : ℕ) → Passes test xs i → (x : X) × (slice_get xs i ≡ Some x) × (test x ≡ true)
  passing xs i h = at (slice_get xs i) refl h
    where
      at : (o : Option X) → slice_get xs i ≡ o → option_map test o ≡ Some true → (x : X) × (slice_get xs i ≡ Some x) × (test x ≡ true)
      at None e m = let z : ◌≡◌ {A = ℕ} 0 1 = cc in absurd (omega arith)
      at (Some x) e m = (x, e, cc)

pub text_has : (t : Text) (o : Option Text) → is_text t o ≡ true → o ≡ Some t
text_has t None h = let z : ◌≡◌ {A = ℕ} 0 1 = cc in absurd (omega arith)
text_has t (Some s) h = ap (λ w. Some w) ((bytes_eq-Decides s t).0 h)

pub code_has : (c : ℕ) (o : Option ℕ) → is_code c o ≡ true → o ≡ Some c
code_has c None h = let z : ◌≡◌ {A = ℕ} 0 1 = cc in absurd (omega arith)
code_has c (Some d) h = ap (λ w. Some w) (eqb-true d c h)

module _ (ps : List ParameterMeaning) where
  pub long_passes : (t : Text) (i : ℕ) → long_at ps i ≡ Some t → Passes (has_long_name t) ps i
  long_passes t i h = at (slice_get ps i) h
    where
      at : (o : Option ParameterMeaning) → option_flatten (option_map (λ p. p.long) o) ≡ Some t → option_map (has_long_name t) o ≡ Some true
      at None m = let z : ◌≡◌ {A = ℕ} 0 1 = cc in absurd (omega arith)
      at (Some p) m = ap (λ w. Some (is_text t w)) m ∙ ap (λ w. Some w) ((bytes_eq-Decides t t).1 refl)

  pub passes_long : (t : Text) (i : ℕ) → Passes (has_long_name t) ps i → long_at ps i ≡ Some t
  passes_long t i h = at (slice_get ps i) h
    where
      at : (o : Option ParameterMeaning) → option_map (has_long_name t) o ≡ Some true → option_flatten (option_map (λ p. p.long) o) ≡ Some t
      at None m = let z : ◌≡◌ {A = ℕ} 0 1 = cc in absurd (omega arith)
      at (Some p) m = text_has t p.long (cc)

  pub letter_passes : (c i : ℕ) → letter_at ps i ≡ Some c → Passes (has_letter_code c) ps i
  letter_passes c i h = at (slice_get ps i) h
    where
      at : (o : Option ParameterMeaning) → option_flatten (option_map (λ p. p.letter) o) ≡ Some c → option_map (has_letter_code c) o ≡ Some true
      at None m = let z : ◌≡◌ {A = ℕ} 0 1 = cc in absurd (omega arith)
      at (Some p) m = ap (λ w. Some (is_code c w)) m ∙ ap (λ w. Some w) (eq-eqb c c refl)

  pub passes_letter : (c i : ℕ) → Passes (has_letter_code c) ps i → letter_at ps i ≡ Some c
  passes_letter c i h = at (slice_get ps i) h
    where
      at : (o : Option ParameterMeaning) → option_map (has_letter_code c) o ≡ Some true → option_flatten (option_map (λ p. p.letter) o) ≡ Some c
      at None m = let z : ◌≡◌ {A = ℕ} 0 1 = cc in absurd (omega arith)
      at (Some p) m = code_has c p.letter (cc)
