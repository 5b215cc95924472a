-- What the counts of an order come to, in the model of the reading. Assumes nothing.
use Rattle.std.specs.Prelude.{ℕ, suc, Bool, cond, not, ◌&&◌, List, [], ◌∷◌, Some, None, Ok, Err, Option, Result, ◌==◌}
use Rattle.refusal.specs.declared.Refusal.{Refusal}
use Rattle.text.specs.Identifier.{Text}
use Rattle.register.specs.declared.parameter.Parameter.{Parameter}
use Rattle.reader.specs.Bare.{bare_may_be_empty}
use Rattle.reader.specs.Meaning.{source_text, any_to}
use Rattle.reader.specs.declared.source.ValueRow.{ValueRow}

-- how many rows give to the parameter at a place
abbrev pub count_to : ℕ → List ValueRow → ℕ
count_to k [] = 0
count_to k (row ∷ rows) = cond (k == row.parameter) (suc (count_to k rows)) (count_to k rows)

-- the word of the first value of a parameter that is not accepted
abbrev pub first_rejected : (Text → Bool) → List ℕ → ℕ → List ValueRow → Option ℕ
first_rejected accepts bytes k [] = None
first_rejected accepts bytes k (row ∷ rows) = cond (k == row.parameter && not (accepts (source_text bytes row.source))) (Some row.word) (first_rejected accepts bytes k rows)

-- a parameter without a value that needs one
abbrev pub missing_row : ℕ → Parameter → List ValueRow → Bool
missing_row k p rows = not (any_to k rows) && not (bare_may_be_empty p)

-- the fault that is found, if one is
abbrev pub fault_of : {U : Type 0} → Result U Refusal → Option Refusal
fault_of (Ok u) = None
fault_of (Err refusal) = Some refusal
