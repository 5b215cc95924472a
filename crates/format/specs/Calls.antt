-- What a reading answers that leaves a step to closures, by what their calls may give. Assumes nothing.
use Rattle.std.specs.Prelude.{◌≡◌, ℕ, Bool, true, false, ◌⊎◌, List, [], ◌∷◌, Some, None, Ok, Err, Option, Result}
use Rattle.std.specs.Result.{result_map_both}
use Rattle.refusal.specs.declared.Refusal.{Refusal}
use Rattle.format.specs.declared.cursor.Cursor.{Cursor}

-- a part that stands only if its bit does: with the bit what Read gives, and nothing without it
pub record ReadsIf {V : Type 0} (Read : Cursor → Result V Refusal → Cursor → Type 0) (b : Bool) (c : Cursor) (out : Result (Option V) Refusal) (d : Cursor) : Type 0 where
  pub absent : b ≡ false → (out ≡ Ok None) × (d ≡ c)
  pub present : b ≡ true → (r : Result V Refusal) × Read c r d × (out ≡ result_map_both Some (λ e. e) r)

-- what was read passes the test, or is told as a refusal at its place
abbrev pub Tested : {V : Type 0} → (V → Bool → Type 0) → (ℕ → Refusal → Type 0) → ℕ → Result V Refusal → Result V Refusal → Type 0
Tested Test Tell at out (Ok v) = (b : Bool) × Test v b × ((b ≡ true → out ≡ Ok v) × (b ≡ false → (x : Refusal) × Tell at x × (out ≡ Err x)))
Tested Test Tell at out (Err e) = out ≡ Err e

-- a part behind a test
pub record Checks {V : Type 0} (Read : Cursor → Result V Refusal → Cursor → Type 0) (Test : V → Bool → Type 0) (Tell : ℕ → Refusal → Type 0) (c : Cursor) (out : Result V Refusal) (d : Cursor) : Type 0 where
  pub got : Result V Refusal
  pub reads : Read c got d
  pub tested : Tested Test Tell c.at out got

-- rows that are read end to end behind the row last, each with the row before it at hand
abbrev pub FillsFrom : {V : Type 0} → (Option V → Cursor → Result V Refusal → Cursor → Type 0) → Option V → List V → Cursor → Result (Unit {0}) Refusal → Cursor → Type 0
FillsFrom Read last [] c out d = (out ≡ Ok tt) × (d ≡ c)
FillsFrom Read last (v ∷ vs) c out d = ((m : Cursor) × Read last c (Ok v) m × FillsFrom Read (Some v) vs m out d) ⊎ ((e : Refusal) × Read last c (Err e) d × (out ≡ Err e))

-- the same from the first row on
pub record Fills {V : Type 0} (Read : Option V → Cursor → Result V Refusal → Cursor → Type 0) (rows : List V) (c : Cursor) (out : Result (Unit {0}) Refusal) (d : Cursor) : Type 0 where
  pub run : FillsFrom Read None rows c out d
