-- Steps of applying one switch. Assumes nothing.
use Rattle.std.proofs.Common.{◌≡◌, ℕ, Bool, true, false, cond, not, ◌&&◌, ◌||◌, eqb, List, [], ◌∷◌, ◌++◌, map, is_some, Some, None, Option, sym, refl, ap, ◌∙◌, arith}
use Rattle.std.specs.Option.{option_map}
use Rattle.std.proofs.lemmas.Bool.{cond-true, cond-false, and_right}
use Rattle.refusal.specs.declared.Refusal.TheVariants.{DuplicateOption}
use Rattle.text.specs.Identifier.{Text}
use Rattle.text.specs.Spans.{text_at}
use Rattle.text.specs.declared.span.Span.{Span}
use Rattle.register.specs.Meaning.{ParameterMeaning}
use Rattle.register.specs.Parameters.{parameter_at, without_texts}
use Rattle.register.specs.declared.parameter.Parameter.{Parameter}
use Rattle.reading.specs.Signature.{is_variadic, takes_true, holds_several}
use Rattle.reading.specs.Switches.{Called, called_at}
use Rattle.reading.specs.Reading.{Value, true_text, group, filled, is_full}
use Rattle.reading.specs.Reading.Waiting.{Nobody}
use Rattle.reading.specs.Model.{Did, give, last_step}
use Rattle.reading.specs.Model.Did.{Gave, Wrong}
use Rattle.reader.specs.Meaning.{source_text, value_of, any_to}
use Rattle.reader.specs.Answers.{Shows, full_rows, gave_row, applied}
use Rattle.reader.specs.declared.called.Called as code
use Rattle.reader.specs.declared.source.Source.{Source}
use Rattle.reader.specs.declared.source.Source.TheVariants.{True}
use Rattle.reader.specs.declared.source.ValueRow.{ValueRow}

pub called_there : (ps : List ParameterMeaning) (o : Option ℕ) (k : ℕ) (p : Parameter) → o ≡ Some k → option_map without_texts (parameter_at ps k) ≡ Some p → (c : Called) × (called_at ps o ≡ Some c) × Shows ps c (record { place = k; parameter = p })
called_there ps o k p e f = go (parameter_at ps k) refl f
  where
    go : (q : Option ParameterMeaning) → parameter_at ps k ≡ q → option_map without_texts q ≡ Some p → (c : Called) × (called_at ps o ≡ Some c) × Shows ps c (record { place = k; parameter = p })
    go None is h = absurd (let z : ◌≡◌ {A = ℕ} 0 1 = cc in omega arith)
    go (Some m) is h = (record { place = k; parameter = m }, ap (called_at ps) e ∙ ap (option_map (λ (q : ParameterMeaning). record { place = k; parameter = q })) is, record { at = is; place = refl; parameter = cc })

pub any_filled : (bytes : List ℕ) (k : ℕ) (rows : List ValueRow) → any_to k rows ≡ filled (group k (map (value_of bytes) rows))
any_filled bytes k [] = refl
any_filled bytes k (row ∷ rows) =
    elim (eqb k row.parameter) as (λ b. cond b true (any_to k rows) ≡ filled (cond b (value_of bytes row ∷ group k (map (value_of bytes) rows)) (group k (map (value_of bytes) rows)))) [
      | true ↦ refl
      | false ↦ any_filled bytes k rows
    ]

pub map_more_row : (bytes : List ℕ) (rows : List ValueRow) (row : ValueRow) → map (value_of bytes) (rows ++ row ∷ []) ≡ map (value_of bytes) rows ++ value_of bytes row ∷ []
map_more_row bytes [] row = refl
map_more_row bytes (r ∷ rows) row = ap (λ (x : List Value). value_of bytes r ∷ x) (map_more_row bytes rows row)

module _ (ps : List ParameterMeaning) (c : Called) (shown : code.Called) (s : Shows ps c shown) where
  pub several_is : (is_variadic shown.parameter.kind || shown.parameter.multiple) ≡ holds_several c.parameter
  several_is = sym (ap (λ (p : Parameter). is_variadic p.kind || p.multiple) s.parameter)

  pub takes_true_is : (shown.parameter.flag || shown.parameter.value) ≡ takes_true c.parameter
  takes_true_is = sym (ap (λ (p : Parameter). p.flag || p.value) s.parameter)

  pub full_is : (bytes : List ℕ) (rows : List ValueRow) → full_rows shown rows ≡ is_full c (map (value_of bytes) rows)
  full_is bytes rows =
      ap (λ (b : Bool). not b && any_to shown.place rows) several_is
      ∙ ap (λ (b : Bool). not (holds_several c.parameter) && b) (any_filled bytes shown.place rows ∙ ap (λ (k : ℕ). filled (group k (map (value_of bytes) rows))) (sym s.place))

  pub gave_is : (bytes : List ℕ) (word letter : ℕ) (source : Source) (rows : List ValueRow) → gave_row bytes word letter shown source rows ≡ give word letter c (source_text bytes source) (map (value_of bytes) rows)
  gave_is bytes word letter source rows =
      let there : ℕ → List Value → Did = λ k vs. Gave (vs ++ record { parameter = k; text = source_text bytes source; word = word } ∷ []) Nobody in
      ap (λ (b : Bool). cond b (Wrong (DuplicateOption word letter)) (Gave (map (value_of bytes) (rows ++ record { parameter = shown.place; source = source; word = word } ∷ [])) Nobody)) (full_is bytes rows)
      ∙ ap (λ (d : Did). cond (is_full c (map (value_of bytes) rows)) (Wrong (DuplicateOption word letter)) d) (ap (λ (vs : List Value). Gave vs Nobody) (map_more_row bytes rows _) ∙ ap (λ (k : ℕ). there k (map (value_of bytes) rows)) (sym s.place))

apply_true : (last : Bool) (at j : ℕ) (c : Called) (value : Option Text) (vs : List Value) → takes_true c.parameter ≡ true → (last && is_some value) ≡ false → applied last at j (Some c) value vs ≡ give at j c true_text vs
apply_true true at j c None vs t h = cond-true _ _ _ t
apply_true true at j c (Some v) vs t h = absurd (let z : ◌≡◌ {A = ℕ} 0 1 = cc in omega arith)
apply_true false at j c value vs t h = cond-true _ _ _ t

pub applies_true : (ps : List ParameterMeaning) (known : Option Called) (shown : code.Called) (c : Called) → known ≡ Some c → Shows ps c shown → (bytes : List ℕ) (last : Bool) (word letter : ℕ) (value : Option Text) (rows : List ValueRow) (d : Did) → (shown.parameter.flag || shown.parameter.value) ≡ true → (last && is_some value) ≡ false → d ≡ gave_row bytes word letter shown True rows → d ≡ applied last word letter known value (map (value_of bytes) rows)
applies_true ps known shown c e s bytes last word letter value rows d t h g =
    g ∙ gave_is ps c shown s bytes word letter True rows
    ∙ sym (ap (λ (k : Option Called). applied last word letter k value (map (value_of bytes) rows)) e ∙ apply_true last word letter c value (map (value_of bytes) rows) (sym (takes_true_is ps c shown s) ∙ t) h)

pub applies_value : (ps : List ParameterMeaning) (known : Option Called) (shown : code.Called) (c : Called) → known ≡ Some c → Shows ps c shown → (bytes : List ℕ) (last : Bool) (word letter : ℕ) (value : Option Text) (source : Source) (rows : List ValueRow) (d : Did) → (shown.parameter.flag || shown.parameter.value) ≡ false → last ≡ true → value ≡ Some (source_text bytes source) → d ≡ gave_row bytes word letter shown source rows → d ≡ applied last word letter known value (map (value_of bytes) rows)
applies_value ps known shown c e s bytes last word letter value source rows d t h v g =
    let vs = map (value_of bytes) rows in
    g ∙ gave_is ps c shown s bytes word letter source rows
    ∙ sym (ap (λ (k : Option Called). applied last word letter k value vs) e
    ∙ ap (λ (b : Bool). applied b word letter (Some c) value vs) h
    ∙ ap (λ (o : Option Text). last_step word letter (Some c) o vs) v
    ∙ cond-false _ _ _ (sym (takes_true_is ps c shown s) ∙ t))

pub no_value : (last : Bool) (bytes : List ℕ) (o : Option Span) → is_some o ≡ false → (last && is_some (option_map (text_at bytes) o)) ≡ false
no_value last bytes None h = and_right _ _ refl
no_value last bytes (Some s) h = absurd (let z : ◌≡◌ {A = ℕ} 0 1 = cc in omega arith)
