-- A row among rows that ascend: definitions for the contracts of inner functions alone. Assumes nothing.
use Rattle.std.specs.Prelude.{◌≡◌, ℕ, ◌+◌, ◌≤◌, List, take, drop}
use Rattle.std.specs.List.{insert}
use Rattle.whole.specs.Places.{Among}
use Rattle.table.specs.Order.{Key, Ascending}

module _ {X : Type 0} (key : X → Key) (rows : List X) where
  -- the row stands among the filled ones, which ascend; its key was free, and what lies behind stays
  pub record Inserted (filled : ℕ) (row : X) (after : List X) : Type 0 where
    pub place : ℕ
    pub free : Among (λ x. key x ≡ key row) (take filled rows) → ⊥
    pub within : place ≤ filled
    pub holds : take (filled + 1) after ≡ insert (take filled rows) place row
    pub ascending : Ascending key (take (filled + 1) after)
    pub behind : drop (filled + 1) after ≡ drop (filled + 1) rows
