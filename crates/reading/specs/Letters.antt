-- The letters of a text: its characters, as code points. Assumes nothing.
use Rattle.std.specs.Prelude.{◌≡◌, ℕ, zero, suc, ◌+◌, ◌-◌, ◌*◌, List, [], ◌∷◌, ◌++◌}
use Rattle.std.specs.Str.{continuation_len, lead_bits}
use Rattle.text.specs.Identifier.{Text}
use Rattle.text.specs.Utf8.{Char}

-- a letter whose bytes so far have the value c and of which n bytes are still to come, and the letters behind it
abbrev pub letters_from : ℕ → ℕ → Text → List ℕ
letters_from n c [] = c ∷ []
letters_from zero c (b ∷ t) = c ∷ letters_from (continuation_len b) (lead_bits b) t
letters_from (suc n) c (b ∷ t) = letters_from n (c * 64 + (b - 128)) t

abbrev pub letters : Text → List ℕ
letters [] = []
letters (b ∷ t) = letters_from (continuation_len b) (lead_bits b) t

-- the code point of the bytes of one character
abbrev pub code : List ℕ → ℕ
code [] = 0
code (a ∷ []) = a
code (a ∷ b ∷ []) = (a - 0xC0) * 64 + (b - 0x80)
code (a ∷ b ∷ c ∷ []) = ((a - 0xE0) * 64 + (b - 0x80)) * 64 + (c - 0x80)
code (a ∷ b ∷ c ∷ d ∷ t) = (((a - 0xF0) * 64 + (b - 0x80)) * 64 + (c - 0x80)) * 64 + (d - 0x80)

-- by the grammar: the first character is the first letter, and the rest has the other letters
abbrev pub LettersStand : Type 0
LettersStand = (char : List ℕ) → Char char → (rest : Text) → letters (char ++ rest) ≡ code char ∷ letters rest
