-- What a number that was read stands for. Assumes nothing.
use Rattle.std.specs.Prelude.{◌≡◌, ℕ, Ok, Err, Result}
use Rattle.std.specs.Result.{result_or}
use Rattle.refusal.specs.declared.Refusal.{Refusal}
use Rattle.refusal.specs.declared.Refusal.TheVariants.{OutOfRange}
use Rattle.format.specs.Format.{number}
use Rattle.format.specs.Reads.{Reads, itself}
use Rattle.format.specs.declared.cursor.Cursor.{Cursor}

-- what a number gives, or a refusal at its place where it gives nothing
abbrev pub Given : {V E : Type 0} → (ℕ → Result V E → Type 0) → ℕ → Result V Refusal → Result ℕ Refusal → Type 0
Given {V = V} {E = E} Gives at out (Ok n) = (k : Result V E) × Gives n k × (out ≡ result_or k (Err (OutOfRange at)))
Given Gives at out (Err e) = out ≡ Err e

-- a byte was read, and what it gives
pub record ReadsAs {V E : Type 0} (Gives : ℕ → Result V E → Type 0) (c : Cursor) (out : Result V Refusal) (d : Cursor) : Type 0 where
  pub got : Result ℕ Refusal
  pub reads : Reads (number 1) itself c got d
  pub given : Given Gives c.at out got
