-- What a reading tells of an order is what the laws of this crate speak of. Assumes nothing.
use Rattle.std.specs.Prelude.{◌≡◌, ℕ, List, map, Some}
use Rattle.std.specs.Option.{option_map}
use Rattle.std.specs.List.{slice_get}
use Rattle.text.specs.Identifier.{Text}
use Rattle.register.specs.Meaning.{NameMeaning, ParameterMeaning, SignatureMeaning}
use Rattle.judge.specs.Meaning.{JudgeMeaning}
use Rattle.reading.specs.Reading.{LawfulOrder}
use Rattle.reading.specs.Line.{Taken, Order, Reading, Lawful}
use Rattle.manual.specs.Orders.{text_of, At, texts_of}

-- an order that a reading tells comes from lawful words, and the texts of each group told are those that the words give
pub record Told (signatures : SignatureMeaning) (judge : JudgeMeaning) (order : Order) : Type 0 where
  pub taken : Taken
  pub words : List Text
  pub rest : List Text
  pub recipe : order.recipe ≡ taken.recipe
  pub lawful : LawfulOrder (signatures.parameters taken.recipe) judge taken.path words taken.given rest
  pub texts : (k : ℕ) (p : ParameterMeaning) → At (signatures.parameters taken.recipe) k p → option_map (map text_of) (slice_get order.groups k) ≡ Some (texts_of (signatures.parameters taken.recipe) taken.path taken.given k)

pub record GroupsStand : Type 0 where
  -- each order of a lawful reading is a lawful order, and its groups have the texts that its words give
  pub each_order_lawful : (names : NameMeaning) (signatures : SignatureMeaning) (judge : JudgeMeaning) (words : List Text) (reading : Reading) → Lawful names signatures judge words reading → (i : ℕ) (order : Order) → slice_get reading.orders i ≡ Some order → Told signatures judge order
