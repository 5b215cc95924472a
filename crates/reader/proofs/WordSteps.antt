-- Steps of reading one word of an order. Assumes nothing.
use Rattle.std.proofs.Common.{◌≡◌, ℕ, suc, ◌+◌, true, false, List, [], ◌∷◌, ◌++◌, map, sym, ap, ◌∙◌, add-one}
use Rattle.std.proofs.lemmas.Bool.{cond-true, cond-false}
use Rattle.refusal.specs.declared.Refusal.TheVariants.{DuplicateOption}
use Rattle.text.specs.Spans.{text_at}
use Rattle.text.specs.declared.span.Span.{Span}
use Rattle.register.specs.Meaning.{ParameterMeaning}
use Rattle.reading.specs.Switches.{Called}
use Rattle.reading.specs.Reading.{Value}
use Rattle.reading.specs.Reading.Waiting.{Nobody}
use Rattle.reading.specs.Model.{Next, value_step}
use Rattle.reading.specs.Model.Next.{Go, Fail}
use Rattle.reading.specs.declared.role.Role.{Role}
use Rattle.reading.specs.declared.role.Role.TheVariants.{SwitchValue}
use Rattle.reader.specs.Meaning.{value_of, values_of}
use Rattle.reader.specs.Answers.{Shows, full_rows}
use Rattle.reader.specs.Steps.{state_of}
use Rattle.reader.specs.declared.called.Called as code
use Rattle.reader.specs.declared.source.Source.TheVariants.{Part}
use Rattle.reader.specs.declared.source.ValueRow.{ValueRow}
use Rattle.reader.specs.declared.values.Values.{Values}
use Rattle.reader.specs.declared.invocation.Invocation.{Invocation}
use Rattle.reader.proofs.Applies.{map_more_row, full_is}

push_is : (bytes : List ℕ) (before after : Values) (row : ValueRow) → after.rows.items ≡ before.rows.items ++ row ∷ [] → values_of bytes after ≡ values_of bytes before ++ value_of bytes row ∷ []
push_is bytes before after row e = ap (map (value_of bytes)) e ∙ map_more_row bytes before.rows.items row

module _ (ps : List ParameterMeaning) (bytes : List ℕ) (roles : List Role) (before : Invocation) (values : Values) (span : Span) where
  module _ (c : Called) (shown : code.Called) (s : Shows ps c shown) (at j : ℕ) where
    pub value_full : full_rows shown before.values.rows.items ≡ true → Fail (DuplicateOption at j) ≡ value_step (state_of ps bytes before roles) (text_at bytes span) c at j
    value_full h = sym (cond-true _ _ _ (sym (full_is ps c shown s bytes before.values.rows.items) ∙ h))

    pub value_next : full_rows shown before.values.rows.items ≡ false → values.rows.items ≡ before.values.rows.items ++ record { parameter = shown.place; source = Part span; word = before.words } ∷ [] → Go SwitchValue (record { words = before.words + 1; ended = before.ended; plains = before.plains; values = values_of bytes values; waiting = Nobody; roles = roles ++ SwitchValue ∷ [] }) ≡ value_step (state_of ps bytes before roles) (text_at bytes span) c at j
    value_next h e =
        let f : ℕ → List Value → Next = λ n vs. Go SwitchValue (record { words = n; ended = before.ended; plains = before.plains; values = vs; waiting = Nobody; roles = roles ++ SwitchValue ∷ [] }) in
        ap (λ (n : ℕ). f n (values_of bytes values)) (add-one before.words)
        ∙ ap (f (suc before.words)) (push_is bytes before.values values _ e)
        ∙ ap (λ (k : ℕ). f (suc before.words) (values_of bytes before.values ++ record { parameter = k; text = text_at bytes span; word = before.words } ∷ [])) (sym s.place)
        ∙ sym (cond-false _ _ _ (sym (full_is ps c shown s bytes before.values.rows.items) ∙ h))
