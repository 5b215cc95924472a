-- The parts of a switch word. Assumes nothing.
use Rattle.std.proofs.Common.{◌≡◌, ℕ, suc, ◌+◌, ◌-◌, ◌<◌, ◌≤◌, Bool, true, false, cond, eqb, ltb, ◌⊎◌, List, [], ◌∷◌, length, take, drop, Some, None, Option, sym, refl, ap, ◌∙◌, inl, inr, add-one, arith, length-drop, length-take}
use Rattle.std.proofs.lemmas.List.{drop-drop, drop-take, take_all}
use Rattle.std.proofs.lemmas.Bool.{lt-ltb, le-ltb, ltb-true, ltb-false, cond-true, cond-false, cases_lt}
use Rattle.std.proofs.lemmas.Option.{cond_some}
use Rattle.std.proofs.lemmas.List.Recursion.{is_position_or_len}
use Rattle.std.specs.List.{position_or_len}
use Rattle.text.specs.Identifier.{Text}
use Rattle.text.specs.Spans.{text_at}
use Rattle.text.specs.declared.span.Span.{Span}
use Rattle.reading.specs.Switches.{is_dashed, two_dashes, undashed, up_to_equals, behind_equals, name, attached}

-- the place of the first `=`, or the end
abbrev equals_at : Text → ℕ
equals_at [] = 0
equals_at (b ∷ t) = cond (eqb b 61) 0 (suc (equals_at t))

-- the text behind the byte at a place, if one stands there
abbrev behind_byte : ℕ → Text → Option Text
behind_byte at t = cond (ltb at (length t)) (Some (drop (at + 1) t)) None

pub span_room : (bytes : List ℕ) (span : Span) (t : Text) (at : ℕ) → t ≡ text_at bytes span → at < length t → (span.start + (at + 1) ≤ length bytes) × (at + 1 ≤ span.len)
span_room bytes span t at e h =
    let l = ap length e ∙ length-take span.len (drop span.start bytes) in
    let d = length-drop span.start bytes in
    (omega arith, omega arith)

behind_is : (bytes : List ℕ) (span : Span) (t : Text) (at : ℕ) → t ≡ text_at bytes span → at < length t → Some (text_at bytes (record { start = span.start + (at + 1); len = span.len - (at + 1) })) ≡ behind_byte at (text_at bytes span)
behind_is bytes span t at e h =
    let r = span_room bytes span t at e h in
    let u : (at + 1) + (span.len - (at + 1)) ≡ span.len = let q = r.1 in omega arith in
    let there : take (span.len - (at + 1)) (drop (span.start + (at + 1)) bytes) ≡ drop (at + 1) (text_at bytes span) =
    ap (take (span.len - (at + 1))) (sym (drop-drop (at + 1) span.start bytes))
    ∙ sym (drop-take (at + 1) (span.len - (at + 1)) (drop span.start bytes))
    ∙ ap (λ (k : ℕ). drop (at + 1) (take k (drop span.start bytes))) u
    in
    ap Some there ∙ sym (cond-true _ _ _ (lt-ltb at (length (text_at bytes span)) (let l = ap length e in omega arith)))

-- up to and behind the first `=`
pub up_to_is : (t : Text) → up_to_equals t ≡ take (equals_at t) t
up_to_is [] = refl
up_to_is (b ∷ t) = elim (eqb b 61) as (λ x. cond x [] (b ∷ up_to_equals t) ≡ take (cond x 0 (suc (equals_at t))) (b ∷ t)) [ true ↦ refl | false ↦ ap (λ (x : Text). b ∷ x) (up_to_is t) ]

pub behind_equals_is : (t : Text) → behind_equals t ≡ behind_byte (equals_at t) t
behind_equals_is [] = refl
behind_equals_is (b ∷ t) =
    elim (eqb b 61) as (λ x. cond x (Some t) (behind_equals t) ≡ behind_byte (cond x 0 (suc (equals_at t))) (b ∷ t)) [
      | true ↦ sym (cond-true _ _ _ (lt-ltb 0 (suc (length t)) (omega arith)))
      | false ↦ behind_equals_is t ∙ behind_more (equals_at t)
    ]
  where
    behind_more : (n : ℕ) → behind_byte n t ≡ behind_byte (suc n) (b ∷ t)
    behind_more n = go (cases_lt n (length t))
      where
        go : (n < length t) ⊎ (length t ≤ n) → behind_byte n t ≡ behind_byte (suc n) (b ∷ t)
        go (inl h) =
            cond-true _ _ _ (lt-ltb n (length t) h) ∙ ap (λ (k : ℕ). Some (drop k t)) (add-one n)
            ∙ sym (cond-true _ _ _ (lt-ltb (suc n) (suc (length t)) (omega arith)) ∙ ap (λ (k : ℕ). Some (drop k (b ∷ t))) (add-one (suc n)))
        go (inr h) = cond-false _ _ _ (le-ltb n (length t) h) ∙ sym (cond-false _ _ _ (le-ltb (suc n) (suc (length t)) (omega arith)))

-- a word without its dashes
pub undashed_two : (w : Text) → two_dashes w ≡ true → undashed w ≡ drop 2 w
undashed_two [] h = refl
undashed_two (a ∷ []) h = refl
undashed_two (a ∷ b ∷ w) h = cond-true _ _ _ h

pub undashed_one : (w : Text) → two_dashes w ≡ false → undashed w ≡ drop 1 w
undashed_one [] h = refl
undashed_one (a ∷ []) h = refl
undashed_one (a ∷ b ∷ w) h = cond-false _ _ _ h

pub dashed_long : (w : Text) → is_dashed w ≡ true → 2 ≤ length w
dashed_long [] h = absurd (let z : ◌≡◌ {A = ℕ} 0 1 = cc in omega arith)
dashed_long (a ∷ []) h = absurd (let z : ◌≡◌ {A = ℕ} 0 1 = cc in omega arith)
dashed_long (a ∷ b ∷ w) h = omega arith

pub undash : (text w rest : Text) (long : Bool) (dashes : ℕ) → text ≡ w → long ≡ two_dashes text → rest ≡ drop dashes text → dashes ≡ cond long 2 1 → rest ≡ undashed w
undash text w rest true dashes e t r d = r ∙ ap (λ (k : ℕ). drop k text) d ∙ sym (undashed_two text (sym t)) ∙ ap undashed e
undash text w rest false dashes e t r d = r ∙ ap (λ (k : ℕ). drop k text) d ∙ sym (undashed_one text (sym t)) ∙ ap undashed e

pub behind_shift : (d e : ℕ) (w : Text) → behind_byte (d + e) w ≡ behind_byte e (drop d w)
behind_shift d e w = go (cases_lt e (length (drop d w)))
  where
    go : (e < length (drop d w)) ⊎ (length (drop d w) ≤ e) → behind_byte (d + e) w ≡ behind_byte e (drop d w)
    go (inl h) =
        let l = length-drop d w in
        let s : d + e + 1 ≡ d + (e + 1) = omega arith in
        cond-true _ _ _ (lt-ltb (d + e) (length w) (omega arith)) ∙ ap (λ (k : ℕ). Some (drop k w)) s ∙ ap Some (sym (drop-drop (e + 1) d w))
        ∙ sym (cond-true _ _ _ (lt-ltb e (length (drop d w)) h))
    go (inr h) = let l = length-drop d w in cond-false _ _ _ (le-ltb (d + e) (length w) (omega arith)) ∙ sym (cond-false _ _ _ (le-ltb e (length (drop d w)) h))

-- where the first `=` is found
abbrev pub is_equals : ℕ → Bool
is_equals b = eqb b 61

abbrev pub first_equals : Text → Option ℕ
first_equals t = cond (ltb (position_or_len is_equals t) (length t)) (Some (position_or_len is_equals t)) None

equals_is : (t : Text) → equals_at t ≡ position_or_len is_equals t
equals_is t = is_position_or_len equals_at is_equals refl (λ b t. ap (cond (eqb b 61) 0) (omega arith)) t

equals_first : (t : Text) → first_equals t ≡ cond (ltb (equals_at t) (length t)) (Some (equals_at t)) None
equals_first t = ap (λ (n : ℕ). cond (ltb n (length t)) (Some n) None) (sym (equals_is t))

module _ (bytes : List ℕ) (span : Span) (text rest : Text) (long : Bool) (dashes : ℕ) (e : text ≡ text_at bytes span) (l : long ≡ two_dashes text) (r : rest ≡ drop dashes text) (d : dashes ≡ cond long 2 1) (o : Option ℕ) (p : o ≡ first_equals rest) where
  is_rest : rest ≡ undashed (text_at bytes span)
  is_rest = undash text (text_at bytes span) rest long dashes e l r d

  module _ (n : ℕ) (s : o ≡ Some n) where
    found : (ltb (equals_at rest) (length rest) ≡ true) × (equals_at rest ≡ n)
    found = cond_some (ltb (equals_at rest) (length rest)) (equals_at rest) n (sym (equals_first rest) ∙ sym p ∙ s)

    pub found_name : take n rest ≡ name (text_at bytes span)
    found_name = ap (λ (k : ℕ). take k rest) (sym found.1) ∙ sym (up_to_is rest) ∙ ap up_to_equals is_rest

    pub found_within : dashes + n < length text
    found_within = let h = ltb-true (equals_at rest) (length rest) found.0 in let q = found.1 in let m = ap length r ∙ length-drop dashes text in omega arith

    pub found_value : Some (text_at bytes (record { start = span.start + (dashes + n + 1); len = span.len - (dashes + n + 1) })) ≡ attached (text_at bytes span)
    found_value =
        behind_is bytes span text (dashes + n) e found_within
        ∙ behind_shift dashes n (text_at bytes span)
        ∙ ap (λ (t : Text). behind_byte n (drop dashes t)) (sym e) ∙ ap (behind_byte n) (sym r) ∙ ap (λ (k : ℕ). behind_byte k rest) (sym found.1)
        ∙ sym (behind_equals_is rest) ∙ ap behind_equals is_rest

  module _ (s : o ≡ None) where
    missed : ltb (equals_at rest) (length rest) ≡ false
    missed = by (ltb (equals_at rest) (length rest)) refl (sym (equals_first rest) ∙ sym p ∙ s)
      where
        by : (b : Bool) → ltb (equals_at rest) (length rest) ≡ b → cond b (Some (equals_at rest)) None ≡ None → b ≡ false
        by true h g = absurd (let z : ◌≡◌ {A = ℕ} 0 1 = cc in omega arith)
        by false h g = refl

    pub missed_name : rest ≡ name (text_at bytes span)
    missed_name = sym (take_all (equals_at rest) rest (ltb-false _ _ missed)) ∙ sym (up_to_is rest) ∙ ap up_to_equals is_rest

    pub missed_value : None ≡ attached (text_at bytes span)
    missed_value = sym (cond-false _ _ _ missed) ∙ sym (behind_equals_is rest) ∙ ap behind_equals is_rest
