-- What reading a count and its rows answers that leaves a row to a closure, by what its calls may give. Assumes nothing.
use Rattle.std.specs.Prelude.{◌≡◌, ℕ, ◌≤◌, Bool, true, false, List, length, take, Ok, Err, Result}
use Rattle.std.specs.Result.{result_map_both}
use Rattle.refusal.specs.declared.Refusal.{Refusal}
use Rattle.format.specs.Fields.{within}
use Rattle.format.specs.Reads.{Reads, itself}
use Rattle.format.specs.Calls.{Fills}
use Rattle.format.specs.declared.cursor.Cursor.{Cursor}

-- the rows behind a count that was read
abbrev pub RowsBehind : {V : Type 0} → (Cursor → Result V Refusal → Cursor → Type 0) → List V → Cursor → Result ℕ Refusal → Cursor → Result ℕ Refusal → Type 0
RowsBehind Read rows m out d (Ok n) = (n ≤ length rows) × ((r : Result (Unit {0}) Refusal) × Fills (λ _. Read) (take n rows) m r d × (out ≡ result_map_both (λ _. n) (λ e. e) r))
RowsBehind Read rows m out d (Err e) = (out ≡ Err e) × (d ≡ m)

-- a count, and that many rows
pub record CountsRows {V : Type 0} (Read : Cursor → Result V Refusal → Cursor → Type 0) (least most : ℕ) (rows : List V) (c : Cursor) (out : Result ℕ Refusal) (d : Cursor) : Type 0 where
  pub count : Result ℕ Refusal
  pub mid : Cursor
  pub counts : Reads (within least most 1) itself c count mid
  pub rest : RowsBehind Read rows mid out d count

-- the same if a bit is set, and no row without it
pub record CountsRowsIf {V : Type 0} (Read : Cursor → Result V Refusal → Cursor → Type 0) (least most : ℕ) (b : Bool) (rows : List V) (c : Cursor) (out : Result ℕ Refusal) (d : Cursor) : Type 0 where
  pub absent : b ≡ false → (out ≡ Ok 0) × (d ≡ c)
  pub present : b ≡ true → CountsRows Read least most rows c out d
