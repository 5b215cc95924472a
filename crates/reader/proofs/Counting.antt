-- Steps of the counts of an order. Assumes nothing.
use Rattle.std.proofs.Common.{◌≡◌, ℕ, suc, Bool, true, false, cond, not, ◌&&◌, ◌||◌, eqb, List, [], ◌∷◌, map, length, Some, None, Option, sym, refl, ap, ◌∙◌, arith}
use Rattle.std.proofs.lemmas.Bool.{cond-true, cond-false}
use Rattle.refusal.specs.declared.Refusal.{Refusal}
use Rattle.refusal.specs.declared.Refusal.TheVariants.{ArgumentPatternMismatch, MissingOption, ArgumentTooFewValues, ArgumentTooManyValues}
use Rattle.register.specs.Meaning.{ParameterMeaning}
use Rattle.register.specs.Parameters.{without_texts}
use Rattle.register.specs.declared.parameter.Parameter.{Parameter}
use Rattle.judge.specs.Meaning.{JudgeMeaning}
use Rattle.reading.specs.Signature.{is_option}
use Rattle.reading.specs.Reading.{Value, group, filled, is_missing, is_checked, at_least, at_most}
use Rattle.reading.specs.Model.{else!, first_of, check_option, check_pattern, check_group, check_sound, any_missing}
use Rattle.reader.specs.Bare.{bare_option, bare_may_be_empty}
use Rattle.reader.specs.Meaning.{source_text, value_of, any_to}
use Rattle.reader.specs.Counts.{count_to, first_rejected, missing_row}
use Rattle.reader.specs.declared.source.ValueRow.{ValueRow}
use Rattle.reader.proofs.Applies.{any_filled}
use Rattle.reader.specs.Signatures.{called_from}
use Rattle.reader.specs.declared.called.Called as code
use Rattle.reader.proofs.Places.{Ahead}
use Rattle.std.specs.List.{list_any, find}
use Rattle.std.specs.Option.{option_map}
use Rattle.std.proofs.lemmas.Iterator.Adapters.{option_map_id}

-- Rows.

pub count_is : (bytes : List ℕ) (k : ℕ) (rows : List ValueRow) → count_to k rows ≡ length (group k (map (value_of bytes) rows))
count_is bytes k [] = refl
count_is bytes k (row ∷ rows) =
    elim (eqb k row.parameter) as (λ b. cond b (suc (count_to k rows)) (count_to k rows) ≡ length (cond b (value_of bytes row ∷ group k (map (value_of bytes) rows)) (group k (map (value_of bytes) rows)))) [
      | true ↦ ap suc (count_is bytes k rows)
      | false ↦ count_is bytes k rows
    ]

-- Patterns.

abbrev pub mismatch : ℕ → Option ℕ → Option Refusal
mismatch k None = None
mismatch k (Some word) = Some (ArgumentPatternMismatch word k)

pub no_pattern_lem : (judge : JudgeMeaning) (k : ℕ) (vs : List Value) → check_pattern judge k None vs ≡ None
no_pattern_lem judge k [] = refl
no_pattern_lem judge k (v ∷ vs) = no_pattern_lem judge k vs

pub pattern_is : (judge : JudgeMeaning) (pattern : ℕ) (bytes : List ℕ) (k : ℕ) (rows : List ValueRow) → mismatch k (first_rejected (judge pattern) bytes k rows) ≡ check_pattern judge k (Some pattern) (group k (map (value_of bytes) rows))
pattern_is judge pattern bytes k [] = refl
pattern_is judge pattern bytes k (row ∷ rows) = by (eqb k row.parameter) (judge pattern (source_text bytes row.source)) refl (pattern_is judge pattern bytes k rows)
  where
    by : (b a : Bool) → judge pattern (source_text bytes row.source) ≡ a → mismatch k (first_rejected (judge pattern) bytes k rows) ≡ check_pattern judge k (Some pattern) (group k (map (value_of bytes) rows)) → mismatch k (cond (b && not a) (Some row.word) (first_rejected (judge pattern) bytes k rows)) ≡ check_pattern judge k (Some pattern) (cond b (value_of bytes row ∷ group k (map (value_of bytes) rows)) (group k (map (value_of bytes) rows)))
    by true true e i = i ∙ sym (cond-true _ _ _ e)
    by true false e i = sym (cond-false _ _ _ e)
    by false a e i = i

-- Parameters.

pub missing_is : (bytes : List ℕ) (k : ℕ) (m : ParameterMeaning) (p : Parameter) (rows : List ValueRow) → without_texts m ≡ p → missing_row k p rows ≡ is_missing (map (value_of bytes) rows) k m
missing_is bytes k m p rows e = ap (λ (b : Bool). not b && not (bare_may_be_empty p)) (any_filled bytes k rows) ∙ ap (λ (q : Parameter). not (filled (group k (map (value_of bytes) rows))) && not (bare_may_be_empty q)) (sym e)

-- an option that is missing, and its fault
abbrev pub lacks : List ValueRow → code.Called → Bool
lacks rows c = bare_option c.parameter && missing_row c.place c.parameter rows

abbrev pub lacking : code.Called → Refusal
lacking c = MissingOption 0 c.place

first_missing_is : (bytes : List ℕ) (rows : List ValueRow) (k : ℕ) (ps : List ParameterMeaning) → option_map lacking (find (lacks rows) (called_from k ps)) ≡ first_of (check_option (map (value_of bytes) rows)) k ps
first_missing_is bytes rows k [] = refl
first_missing_is bytes rows k (p ∷ ps) =
    let others = find (lacks rows) (called_from (suc k) ps) in
    ap (λ (b : Bool). option_map lacking (cond (is_option p && b) (Some (record { place = k; parameter = without_texts p })) others)) (missing_is bytes k p (without_texts p) rows refl)
    ∙ by (is_option p) (is_missing (map (value_of bytes) rows) k p) (without_texts p) others
    ∙ ap (else! (check_option (map (value_of bytes) rows) k p)) (first_missing_is bytes rows (suc k) ps)
  where
    by : (b m : Bool) (q : Parameter) (o : Option code.Called) → option_map lacking (cond (b && m) (Some (record { place = k; parameter = q })) o) ≡ else! (cond b (cond m (Some (MissingOption 0 k)) None) None) (option_map lacking o)
    by true true q o = refl
    by true false q o = refl
    by false m q o = refl

pub first_lacking : (bytes : List ℕ) (rows : List ValueRow) (ps : List ParameterMeaning) (r o : Option code.Called) → r ≡ o → option_map (λ x. x) r ≡ find (lacks rows) (called_from 0 ps) → option_map lacking o ≡ first_of (check_option (map (value_of bytes) rows)) 0 ps
first_lacking bytes rows ps r o is e = ap (option_map lacking) (sym is ∙ sym (option_map_id r) ∙ e) ∙ first_missing_is bytes rows 0 ps

pub any_missing_is : (bytes : List ℕ) (rows : List ValueRow) (k : ℕ) (ps : List ParameterMeaning) → list_any (λ (c : code.Called). missing_row c.place c.parameter rows) (called_from k ps) ≡ any_missing (map (value_of bytes) rows) k ps
any_missing_is bytes rows k [] = refl
any_missing_is bytes rows k (p ∷ ps) =
    ap (λ (b : Bool). b || list_any (λ (c : code.Called). missing_row c.place c.parameter rows) (called_from (suc k) ps)) (missing_is bytes k p (without_texts p) rows refl)
    ∙ ap (λ (b : Bool). is_missing (map (value_of bytes) rows) k p || b) (any_missing_is bytes rows (suc k) ps)

-- the first fault of the parameters that are left
pub first_none : (check : ℕ → ParameterMeaning → Option Refusal) (k : ℕ) (ps : List ParameterMeaning) → called_from k ps ≡ [] → None ≡ first_of check k ps
first_none check k [] e = refl
first_none check k (p ∷ ps) e = absurd (let z : ◌≡◌ {A = ℕ} 0 1 = cc in omega arith)

-- without values no parameter has any to check
pub none_to_check : (judge : JudgeMeaning) (bytes : List ℕ) (rows : List ValueRow) (k : ℕ) (ps : List ParameterMeaning) → rows ≡ [] → None ≡ first_of (check_sound judge (map (value_of bytes) rows)) k ps
none_to_check judge bytes rows k ps e = by k ps ∙ ap (λ (vs : List ValueRow). first_of (check_sound judge (map (value_of bytes) vs)) k ps) (sym e)
  where
    by : (k : ℕ) (ps : List ParameterMeaning) → None ≡ first_of (check_sound judge []) k ps
    by k [] = refl
    by k (p ∷ ps) = elim p.value as (λ b. None ≡ else! (cond (not b && false) (check_group judge k p []) None) (first_of (check_sound judge []) (suc k) ps)) [ true ↦ by (suc k) ps | false ↦ by (suc k) ps ]

module _ (check : ℕ → ParameterMeaning → Option Refusal) (k : ℕ) (ps : List ParameterMeaning) (c : code.Called) (cs : List code.Called) (t : Ahead k ps c cs) where
  here : first_of check k ps ≡ else! (check c.place t.meaning) (first_of check (suc k) t.others)
  here = ap (first_of check k) t.here ∙ ap (λ (n : ℕ). else! (check n t.meaning) (first_of check (suc k) t.others)) (sym t.place)

  pub first_pass : check c.place t.meaning ≡ None → first_of check (suc k) t.others ≡ first_of check k ps
  first_pass e = sym (here ∙ ap (λ (o : Option Refusal). else! o (first_of check (suc k) t.others)) e)

  pub first_hit : (f : Refusal) → check c.place t.meaning ≡ Some f → Some f ≡ first_of check k ps
  first_hit f e = sym (here ∙ ap (λ (o : Option Refusal). else! o (first_of check (suc k) t.others)) e)

-- One parameter's values.
module _ (judge : JudgeMeaning) (bytes : List ℕ) (rows : List ValueRow) (k : ℕ) (m : ParameterMeaning) (p : Parameter) (e : without_texts m ≡ p) where
  checked_is : (not p.value && any_to k rows) ≡ is_checked (map (value_of bytes) rows) k m
  checked_is = ap (λ (b : Bool). not p.value && b) (any_filled bytes k rows) ∙ ap (λ (q : Parameter). not q.value && filled (group k (map (value_of bytes) rows))) (sym e)

  pub unchecked : (not p.value && any_to k rows) ≡ false → None ≡ check_sound judge (map (value_of bytes) rows) k m
  unchecked h = sym (cond-false _ _ _ (sym checked_is ∙ h))

  module _ (h : (not p.value && any_to k rows) ≡ true) (found : ℕ) (n : found ≡ count_to k rows) where
    found_is : found ≡ length (group k (map (value_of bytes) rows))
    found_is = n ∙ count_is bytes k rows

    least_is : at_least p.min found ≡ at_least m.min (length (group k (map (value_of bytes) rows)))
    least_is = ap (at_least p.min) found_is ∙ ap (λ (q : Parameter). at_least q.min (length (group k (map (value_of bytes) rows)))) (sym e)

    most_is : at_most p.max found ≡ at_most m.max (length (group k (map (value_of bytes) rows)))
    most_is = ap (at_most p.max) found_is ∙ ap (λ (q : Parameter). at_most q.max (length (group k (map (value_of bytes) rows)))) (sym e)

    pub too_few : at_least p.min found ≡ false → Some (ArgumentTooFewValues 0 k found) ≡ check_sound judge (map (value_of bytes) rows) k m
    too_few l = ap (λ (x : ℕ). Some (ArgumentTooFewValues 0 k x)) found_is ∙ sym (cond-true _ _ _ (sym checked_is ∙ h) ∙ cond-false _ _ _ (sym least_is ∙ l))

    pub too_many : at_least p.min found ≡ true → at_most p.max found ≡ false → Some (ArgumentTooManyValues 0 k found) ≡ check_sound judge (map (value_of bytes) rows) k m
    too_many l u = ap (λ (x : ℕ). Some (ArgumentTooManyValues 0 k x)) found_is ∙ sym (cond-true _ _ _ (sym checked_is ∙ h) ∙ cond-true _ _ _ (sym least_is ∙ l) ∙ cond-false _ _ _ (sym most_is ∙ u))

    pub pattern_left : at_least p.min found ≡ true → at_most p.max found ≡ true → (o : Option Refusal) → o ≡ check_pattern judge k p.pattern (group k (map (value_of bytes) rows)) → o ≡ check_sound judge (map (value_of bytes) rows) k m
    pattern_left l u o c =
        c ∙ ap (λ (q : Parameter). check_pattern judge k q.pattern (group k (map (value_of bytes) rows))) (sym e)
        ∙ sym (cond-true _ _ _ (sym checked_is ∙ h) ∙ cond-true _ _ _ (sym least_is ∙ l) ∙ cond-true _ _ _ (sym most_is ∙ u))
