-- UTF-8 by the grammar of RFC 3629, section 4: each production is one constructor of its rule.
use Rattle.std.specs.Prelude.{ℕ, ◌≤◌, List, [], ◌∷◌, ◌++◌}

-- a byte from low to high
pub record From (low high b : ℕ) : Type 0 where
  pub least : low ≤ b
  pub most : b ≤ high

-- UTF8-tail
abbrev pub Tail : ℕ → Type 0
Tail b = From 0x80 0xBF b

-- UTF8-char: UTF8-1, UTF8-2, UTF8-3 and UTF8-4
pub data Char : List ℕ → Type 0 where
  one : {a : ℕ} → From 0x00 0x7F a → Char (a ∷ [])
  two : {a b : ℕ} → From 0xC2 0xDF a → Tail b → Char (a ∷ b ∷ [])
  three_E0 : {b c : ℕ} → From 0xA0 0xBF b → Tail c → Char (0xE0 ∷ b ∷ c ∷ [])
  three_E1 : {a b c : ℕ} → From 0xE1 0xEC a → Tail b → Tail c → Char (a ∷ b ∷ c ∷ [])
  three_ED : {b c : ℕ} → From 0x80 0x9F b → Tail c → Char (0xED ∷ b ∷ c ∷ [])
  three_EE : {a b c : ℕ} → From 0xEE 0xEF a → Tail b → Tail c → Char (a ∷ b ∷ c ∷ [])
  four_F0 : {b c d : ℕ} → From 0x90 0xBF b → Tail c → Tail d → Char (0xF0 ∷ b ∷ c ∷ d ∷ [])
  four_F1 : {a b c d : ℕ} → From 0xF1 0xF3 a → Tail b → Tail c → Tail d → Char (a ∷ b ∷ c ∷ d ∷ [])
  four_F4 : {b c d : ℕ} → From 0x80 0x8F b → Tail c → Tail d → Char (0xF4 ∷ b ∷ c ∷ d ∷ [])

-- UTF8-octets: characters end to end
pub data Utf8 : List ℕ → Type 0 where
  none : Utf8 []
  more : {char rest : List ℕ} → Char char → Utf8 rest → Utf8 (char ++ rest)
