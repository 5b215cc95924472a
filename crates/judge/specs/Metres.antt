-- Readings in metres, as texts such as `0`, `3.45` and `1200.5`. Assumes nothing.
use Rattle.std.specs.Prelude.{◌≡◌, ℕ, ◌+◌, ◌-◌, ◌*◌, ◌^◌, ◌≤◌, true, [], ◌∷◌, ◌++◌, length, fold, slice_index_or}
use Rattle.std.specs.Str.{all_ascii_digits}
use Rattle.text.specs.Identifier.{Text}

-- the number that digits write
abbrev pub decimal : Text → ℕ
decimal digits = fold (λ number digit. number * 10 + (digit - 48)) 0 digits

-- before the point: one to four digits, of which a zero leads only where it stands alone
pub record Whole (digits : Text) : Type 0 where
  pub written : all_ascii_digits digits ≡ true
  pub some : 1 ≤ length digits
  pub few : length digits ≤ 4
  pub needed : slice_index_or digits 0 0 ≡ 48 → length digits ≡ 1

-- behind the point: one to three digits
pub record Fraction (digits : Text) : Type 0 where
  pub written : all_ascii_digits digits ≡ true
  pub some : 1 ≤ length digits
  pub few : length digits ≤ 3

-- the text is a reading, with these digits before its point and these behind it
pub data Metres : Text → Text → Text → Type 0 where
  round : {whole : Text} → Whole whole → Metres whole whole []
  pointed : {whole fraction : Text} → Whole whole → Fraction fraction → Metres (whole ++ (46 ∷ fraction)) whole fraction

-- digits behind the point, in millimetres
abbrev pub thousandths : Text → ℕ
thousandths fraction = decimal fraction * 10 ^ (3 - length fraction)

-- a reading, in millimetres
abbrev pub value_of : Text → Text → ℕ
value_of whole fraction = decimal whole * 1000 + thousandths fraction
