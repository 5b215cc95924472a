-- How a reading in millimetres becomes whole centimetres. Assumes nothing.
use Rattle.std.specs.Prelude.{ℕ, ◌+◌, ◌*◌, ◌/◌, ◌<◌, ◌≤◌}

-- the nearest centimetre, and the higher one from the half on: the centimetres lie at most half a centimetre
-- above the reading, and less than half a centimetre below it
pub record Rounded (millimetres centimetres : ℕ) : Type 0 where
  pub up : 10 * centimetres ≤ millimetres + 5
  pub down : millimetres < 10 * centimetres + 5

-- the same as a number
abbrev pub rounded : ℕ → ℕ
rounded millimetres = (millimetres + 5) / 10
