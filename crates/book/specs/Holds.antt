-- What the tables of a book hold, by the orders that it was told. Assumes nothing.
use Rattle.std.specs.Prelude.{◌≡◌, ℕ, ◌+◌, List, [], ◌∷◌, ◌++◌, length, take}
use Rattle.reader.specs.Told.{ToldOrder, all_roles_told, values_told}
use Rattle.reader.specs.declared.source.ValueRow.{ValueRow}
use Rattle.book.specs.declared.order_row.OrderRow.{OrderRow}
use Rattle.book.specs.declared.tables.Book.{Book}

-- the row of an order whose values start at a row
abbrev pub row_at : ℕ → ToldOrder → OrderRow
row_at from o = record { recipe = o.recipe; first = o.first; words = o.words; from = from; to = from + length o.values }

abbrev pub rows_from : ℕ → List ToldOrder → List OrderRow
rows_from from [] = []
rows_from from (o ∷ os) = row_at from o ∷ rows_from (from + length o.values) os

abbrev pub all_values : List ToldOrder → List ValueRow
all_values [] = []
all_values (o ∷ os) = o.values ++ all_values os

-- up to its fill, a book holds a line with these bytes and the orders that it was told
pub record Holds (book : Book) (bytes : List ℕ) (os : List ToldOrder) : Type 0 where
  pub line : take book.fill.bytes book.bytes ≡ bytes
  pub size : book.fill.bytes ≡ length bytes
  pub roles : take book.fill.words book.roles ≡ all_roles_told os
  pub words : book.fill.words ≡ length (all_roles_told os)
  pub values : take book.fill.values book.values ≡ all_values os
  pub count : book.fill.values ≡ values_told os
  pub orders : take book.fill.orders book.orders ≡ rows_from 0 os
  pub many : book.fill.orders ≡ length os
