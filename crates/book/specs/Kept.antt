-- What a book keeps: orders with every value in sequence, and how that is the reading of a line. Assumes nothing.
use Rattle.std.specs.Prelude.{◌≡◌, ℕ, ◌-◌, ◌≤◌, ◌⊎◌, List, map, take, drop, Ok, Err, Result}
use Rattle.std.specs.List.{AllByRecursion}
use Rattle.refusal.specs.declared.Refusal.{Refusal}
use Rattle.text.specs.Identifier.{Text}
use Rattle.text.specs.Line.{Within, Oversteps}
use Rattle.register.specs.Meaning.{NameMeaning, SignatureMeaning}
use Rattle.judge.specs.Meaning.{JudgeMeaning}
use Rattle.reading.specs.Reading.{Value}
use Rattle.reading.specs.Line.{Order, OnlyReading, shifted_value, groups_from}
use Rattle.reading.specs.declared.role.Role.{Role}
use Rattle.reader.specs.Meaning.{value_of}
use Rattle.reader.specs.declared.source.ValueRow.{ValueRow}
use Rattle.book.specs.declared.order_row.OrderRow.{OrderRow}
use Rattle.book.specs.declared.tables.Book.{Book}

-- an order as it is kept: its values in sequence, their words counted in the line
pub record KeptOrder : Type 0 where
  pub recipe : ℕ
  pub first : ℕ
  pub words : ℕ
  pub values : List Value

abbrev pub row_kept : List ℕ → List ValueRow → OrderRow → KeptOrder
row_kept bytes values row = record {
  recipe = row.recipe;
  first = row.first;
  words = row.words;
  values = map (shifted_value row.first) (map (value_of bytes) (take (row.to - row.from) (drop row.from values)));
}

abbrev pub kept_orders : Book → List KeptOrder
kept_orders book = map (row_kept (take book.fill.bytes book.bytes) book.values) (take book.fill.orders book.orders)

-- a kept order as a reading tells it: a group for each parameter
abbrev pub told_as : SignatureMeaning → KeptOrder → Order
told_as s k = record { recipe = k.recipe; first = k.first; words = k.words; groups = groups_from 0 (s.parameters k.recipe) k.values }

-- the role of each word
abbrev pub kept_roles : Book → List Role
kept_roles book = take book.fill.words book.roles

-- what reading a line comes to: its only lawful reading is kept, or it oversteps a limit, or its first fault is told
abbrev pub Reads : {U : Type 0} → NameMeaning → SignatureMeaning → JudgeMeaning → List ℕ → List KeptOrder → List Role → Result U Refusal → Type 0
Reads names signatures judge line kept roles (Ok u) = (words : List Text) × Within line words × OnlyReading names signatures judge words (Ok (record { orders = map (told_as signatures) kept; roles = roles }))
Reads names signatures judge line kept roles (Err f) = Oversteps line f ⊎ ((words : List Text) × Within line words × OnlyReading names signatures judge words (Err f))

-- the rows that are kept lie in the tables: the line's bytes, one order at least, and each order's values
abbrev pub RowWithin : OrderRow → Type 0
RowWithin row = (row.from ≤ row.to) × (row.to ≤ 1024)

abbrev pub Rows : {U : Type 0} → List ℕ → Book → Result U Refusal → Type 0
Rows line book (Ok u) = (take book.fill.bytes book.bytes ≡ line) × (book.fill.bytes ≤ 1024) × (1 ≤ book.fill.orders) × (book.fill.orders ≤ 128) × (book.fill.words ≤ 128) × AllByRecursion RowWithin (take book.fill.orders book.orders)
Rows line book (Err f) = Unit {0}
