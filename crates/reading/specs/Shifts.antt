-- The words of a line counted from another word: only word numbers change. Assumes nothing.
use Rattle.std.specs.Prelude.{◌≡◌, ℕ, ◌+◌, List, map}
use Rattle.refusal.specs.declared.Refusal.{Refusal}
use Rattle.refusal.specs.Shift.{shifted_by}
use Rattle.text.specs.Identifier.{Text}
use Rattle.register.specs.Meaning.{NameMeaning, SignatureMeaning}
use Rattle.judge.specs.Meaning.{JudgeMeaning}
use Rattle.reading.specs.Line.{Taken, Order, shifted_value, orders_of, FaultFrom}

abbrev pub shifted_order : ℕ → Order → Order
shifted_order by o = record { recipe = o.recipe; first = by + o.first; words = o.words; groups = map (map (shifted_value by)) o.groups }

pub record ReadingsShift : Type 0 where
  pub orders : (signatures : SignatureMeaning) (by first : ℕ) (ts : List Taken) → orders_of signatures (by + first) ts ≡ map (shifted_order by) (orders_of signatures first ts)
  pub faults : (names : NameMeaning) (signatures : SignatureMeaning) (judge : JudgeMeaning) (by first : ℕ) (words : List Text) (f : Refusal) → FaultFrom names signatures judge first words f → FaultFrom names signatures judge (by + first) words (shifted_by by f)
