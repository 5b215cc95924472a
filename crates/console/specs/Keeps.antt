-- What a console keeps. Assumes nothing.
use Rattle.std.specs.Prelude.{ℕ, ◌+◌, Bool, cond, List, [], ◌∷◌, map, take, Some, None, Option, ◌==◌, nat_lt, slice_index, slice_index_or}
use Rattle.std.specs.List.{range_with_len}
use Rattle.reader.specs.declared.source.ValueRow.{ValueRow}
use Rattle.book.specs.Kept.{KeptOrder, row_kept}
use Rattle.book.specs.declared.order_row.OrderRow.{OrderRow}
use Rattle.console.specs.declared.console.Console.{Console}

-- a kept order: its serial, its recipe, first word, words and every value, and how often it was issued, counted to 255
pub record Kept : Type 0 where
  pub serial : ℕ
  pub order : KeptOrder
  pub earlier : ℕ

-- what is kept under a serial
abbrev pub at_serial : ℕ → List Kept → Option Kept
at_serial serial [] = None
at_serial serial (k ∷ ks) = cond (serial == k.serial) (Some k) (at_serial serial ks)

-- the parts of a console; rows behind the fill are free
pub record View : Type 0 where
  pub number : ℕ
  pub first : ℕ
  pub base : ℕ
  pub total : ℕ
  pub at : ℕ
  pub out : Bool
  pub count : ℕ
  pub rows : List OrderRow
  pub bytes : List ℕ
  pub values : List ValueRow
  pub shown : List ℕ

abbrev pub view : Console → View
view c = record {
  number = c.number;
  first = c.first;
  base = c.base;
  total = c.total;
  at = c.at;
  out = c.out;
  count = c.book.fill.orders;
  rows = c.book.orders;
  bytes = take c.book.fill.bytes c.book.bytes;
  values = c.book.values;
  shown = c.shown;
}

abbrev pub no_row : OrderRow
no_row = record { recipe = 0; first = 0; words = 0; from = 0; to = 0 }

-- the order in a row of the kept line
abbrev pub order_at : View → ℕ → KeptOrder
order_at v i = row_kept v.bytes v.values (slice_index_or v.rows i no_row)

abbrev pub kept_at : View → ℕ → Kept
kept_at v i = record { serial = v.first + v.base + i; order = order_at v i; earlier = slice_index v.shown i }

-- what is kept: the orders of the line, or nothing where none of them is out or waits
abbrev pub kept_in : View → List Kept
kept_in v = cond (nat_lt v.at v.count) (map (kept_at v) (range_with_len 0 v.count)) []

-- the meaning of a console: the orders that it keeps
abbrev pub kept : Console → List Kept
kept c = kept_in (view c)
