-- What the reader's steps answer, in the model of the reading. Assumes nothing.
use Rattle.std.specs.Prelude.{◌≡◌, ℕ, Bool, true, false, cond, not, ◌&&◌, ◌||◌, List, [], ◌∷◌, ◌++◌, map, Some, None, Ok, Err, Option, Result}
use Rattle.refusal.specs.declared.Refusal.{Refusal}
use Rattle.refusal.specs.declared.Refusal.TheVariants.{DuplicateOption, InvalidOption}
use Rattle.text.specs.Identifier.{Text}
use Rattle.register.specs.Meaning.{ParameterMeaning}
use Rattle.register.specs.Parameters.{parameter_at, without_texts}
use Rattle.reading.specs.Signature.{is_variadic}
use Rattle.reading.specs.Switches.{Called, called_at, name, attached, switches}
use Rattle.reading.specs.Reading.{Value}
use Rattle.reading.specs.Reading.Waiting.{Nobody, For}
use Rattle.reading.specs.Reading as reading
use Rattle.reading.specs.Model.{Did, last_step, then_step, run, is_nil}
use Rattle.reading.specs.Model.Did.{Gave, Wrong}
use Rattle.reader.specs.Meaning.{value_of, values_of, any_to}
use Rattle.reader.specs.declared.called.Called as code
use Rattle.reader.specs.declared.source.Source.{Source}
use Rattle.reader.specs.declared.source.ValueRow.{ValueRow}
use Rattle.reader.specs.declared.values.Values.{Values}
use Rattle.reader.specs.declared.waiting.Waiting.{Waiting}

-- the parameter that is called, with its texts left out
pub record Shows (ps : List ParameterMeaning) (c : Called) (shown : code.Called) : Type 0 where
  pub at : parameter_at ps shown.place ≡ Some c.parameter
  pub place : c.place ≡ shown.place
  pub parameter : without_texts c.parameter ≡ shown.parameter

-- what is known to be called, or nothing is
abbrev pub Calls : List ParameterMeaning → Option Called → Option code.Called → Type 0
Calls ps known None = known ≡ None
Calls ps known (Some shown) = (c : Called) × (known ≡ Some c) × Shows ps c shown

-- who waits: the parameter that stands at the place
abbrev pub wait_at : ℕ → ℕ → Option Called → reading.Waiting
wait_at word letter None = Nobody
wait_at word letter (Some c) = For c word letter

abbrev pub waiting_of : List ParameterMeaning → Option Waiting → reading.Waiting
waiting_of ps None = Nobody
waiting_of ps (Some waiting) = wait_at waiting.word waiting.letter (called_at ps (Some waiting.place))

-- a switch or a word of switches: the values behind it and who waits, or a fault
abbrev pub did_of : List ParameterMeaning → List ℕ → Result (Option Waiting) Refusal → Values → Did
did_of ps bytes (Ok who) values = Gave (values_of bytes values) (waiting_of ps who)
did_of ps bytes (Err refusal) values = Wrong refusal

-- an option that holds one switch value has it already
abbrev pub full_rows : code.Called → List ValueRow → Bool
full_rows c rows = not (is_variadic c.parameter.kind || c.parameter.multiple) && any_to c.place rows

-- one more value, unless the option is full
abbrev pub gave_row : List ℕ → ℕ → ℕ → code.Called → Source → List ValueRow → Did
gave_row bytes word letter c source rows =
    cond (full_rows c rows) (Wrong (DuplicateOption word letter))
    (Gave (map (value_of bytes) (rows ++ record { parameter = c.place; source = source; word = word } ∷ [])) Nobody)

-- the last switch of a word, or another alone
abbrev pub applied : Bool → ℕ → ℕ → Option Called → Option Text → List Value → Did
applied true at j known value vs = last_step at j known value vs
applied false at j known value vs = then_step at j known vs (λ hs. Gave hs Nobody)

-- a word of switches
abbrev pub word_did : List ParameterMeaning → ℕ → List Value → Text → Did
word_did ps at vs w = cond (is_nil (name w)) (Wrong (InvalidOption at)) (run ps at (attached w) vs 0 (switches w))
