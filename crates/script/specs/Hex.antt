-- Bytes as pairs of hexadecimal digits.
use Rattle.std.specs.Prelude.{◌≡◌, ℕ, ◌+◌, ◌-◌, ◌*◌, ◌/◌, ◌%◌, ◌<◌, cond, ◌&&◌, List, [], ◌∷◌, Some, None, Option, nat_le, nat_lt, codes}
use Rattle.std.specs.List.{AllByRecursion}
use Rattle.script.specs.declared.hex.HexFault.{HexFault}
use Rattle.script.specs.declared.hex.HexFault.TheVariants.{NotHex, NoMemory}

-- the lower-case digit of a number below 16
abbrev pub digit_of : ℕ → ℕ
digit_of n = cond (nat_lt n 10) (48 + n) (97 + (n - 10))

-- two digits for each byte, the higher first
abbrev pub hex_of : List ℕ → List ℕ
hex_of [] = []
hex_of (b ∷ t) = digit_of (b / 16) ∷ digit_of (b % 16) ∷ hex_of t

-- the value of a digit, in either case
abbrev pub value_of : ℕ → Option ℕ
value_of c =
    cond (nat_le 48 c && nat_le c 57) (Some (c - 48))
    (cond (nat_le 97 c && nat_le c 102) (Some (c - 97 + 10))
    (cond (nat_le 65 c && nat_le c 70) (Some (c - 65 + 10)) None))

-- the digits spell the bytes
pub data Spells : List ℕ → List ℕ → Type 0 where
  none : Spells [] []
  more : {a b x y : ℕ} {digits bytes : List ℕ} → value_of a ≡ Some x → value_of b ≡ Some y → Spells digits bytes → Spells (a ∷ b ∷ digits) ((x * 16 + y) ∷ bytes)

-- what is printed of it
abbrev pub fault_text : HexFault → List ℕ
fault_text NotHex = codes "not the digits of bytes"
fault_text NoMemory = codes "no memory"

-- why there are no bytes: the digits spell none, or memory is wanting
abbrev pub Unspelled : List ℕ → HexFault → Type 0
Unspelled digits NotHex = (bytes : List ℕ) → Spells digits bytes → ⊥
Unspelled digits NoMemory = Unit {0}

pub record HexStands : Type 0 where
  pub back : (bytes : List ℕ) → AllByRecursion (λ b. b < 256) bytes → Spells (hex_of bytes) bytes
  pub only : (digits bytes others : List ℕ) → Spells digits bytes → Spells digits others → bytes ≡ others
