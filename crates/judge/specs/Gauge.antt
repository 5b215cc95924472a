-- The texts that a gauge accepts. Assumes nothing.
use Rattle.std.specs.Prelude.{ℕ, ◌+◌, ◌*◌, ◌≤◌, Bool, true, false, cond, not, ◌&&◌, [], ◌∷◌, length, take, drop, Some, None, Option, ◌==◌, nat_le}
use Rattle.std.specs.Bool.{then_some}
use Rattle.std.specs.Char.{is_ascii_digit}
use Rattle.std.specs.List.{prefix_len}
use Rattle.std.specs.Str.{all_ascii_digits}
use Rattle.text.specs.Identifier.{Text}
use Rattle.judge.specs.Metres.{Metres, decimal, thousandths, value_of}
use Rattle.judge.specs.Rounding.{Rounded, rounded}

-- a reading in metres that, in whole centimetres, lies from low to high
pub record OnGauge (low high : ℕ) (text : Text) : Type 0 where
  pub whole : Text
  pub fraction : Text
  pub centimetres : ℕ
  pub reading : Metres text whole fraction
  pub rounding : Rounded (value_of whole fraction) centimetres
  pub above : low ≤ centimetres
  pub below : centimetres ≤ high

-- The same as a test.

-- digits that may stand before the point, and behind it
abbrev pub is_whole : Text → Bool
is_whole [] = false
is_whole (digit ∷ []) = true
is_whole (digit ∷ next ∷ more) = not (digit == 48) && nat_le (length (digit ∷ next ∷ more)) 4

abbrev pub is_fraction : Text → Bool
is_fraction text = (nat_le 1 (length text) && nat_le (length text) 3) && all_ascii_digits text

-- the millimetres of a text, by its metres and what follows their digits
abbrev pub following : ℕ → Text → Option ℕ
following metres [] = Some (metres * 1000)
following metres (point ∷ more) = then_some (point == 46 && is_fraction more) (metres * 1000 + thousandths more)

abbrev pub leading_digits : Text → ℕ
leading_digits text = prefix_len is_ascii_digit text

abbrev pub reading_of : Text → Option ℕ
reading_of text =
    cond (is_whole (take (leading_digits text) text)) (following (decimal (take (leading_digits text) text)) (drop (leading_digits text) text)) None

abbrev pub from_to : ℕ → ℕ → Option ℕ → Bool
from_to low high None = false
from_to low high (Some millimetres) = nat_le low (rounded millimetres) && nat_le (rounded millimetres) high

abbrev pub on_gauge : ℕ → ℕ → Text → Bool
on_gauge low high text = from_to low high (reading_of text)
