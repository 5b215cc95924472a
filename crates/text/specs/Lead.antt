-- A character of UTF-8 told by its lead byte: how a reader finds its length. The grammar is in Utf8; this serves the proof that the code follows it.
use Rattle.std.specs.Prelude.{ℕ, zero, suc, Bool, true, false, cond, ◌&&◌, List, [], ◌∷◌, length, drop, ◌==◌, nat_le, slice_index}

-- the length that a lead byte announces; 0 where no character starts with it
abbrev pub announced : ℕ → ℕ
announced b = cond (nat_le b 127) 1 (cond (nat_le b 193) 0 (cond (nat_le b 223) 2 (cond (nat_le b 239) 3 (cond (nat_le b 244) 4 0))))

abbrev pub tail : ℕ → Bool
tail b = nat_le 0x80 b && nat_le b 0xBF

-- the byte behind a lead byte of two to four
abbrev pub second : ℕ → ℕ → Bool
second a b = nat_le (cond (a == 0xE0) 0xA0 (cond (a == 0xF0) 0x90 0x80)) b && nat_le b (cond (a == 0xED) 0x9F (cond (a == 0xF4) 0x8F 0xBF))

-- whether the bytes that a lead byte announces follow
abbrev pub followed : ℕ → List ℕ → Bool
followed n s =
    cond (n == 1) true
    (cond (n == 2) (nat_le 2 (length s) && second (slice_index s 0) (slice_index s 1))
    (cond (n == 3) (nat_le 3 (length s) && (second (slice_index s 0) (slice_index s 1) && tail (slice_index s 2)))
    (cond (n == 4) (nat_le 4 (length s) && (second (slice_index s 0) (slice_index s 1) && (tail (slice_index s 2) && tail (slice_index s 3)))) false)))

-- the length of the character at the front, or 0 where none stands there
abbrev pub front : List ℕ → ℕ
front [] = 0
front (b ∷ t) = cond (followed (announced b) (b ∷ t)) (announced b) 0

-- whether so many characters at most, end to end, are the bytes
abbrev pub chars : ℕ → List ℕ → Bool
chars zero s = length s == 0
chars (suc n) s = cond (length s == 0) true (cond (front s == 0) false (chars n (drop (front s) s)))

-- UTF-8 by its lead bytes, as a test
abbrev pub valid : List ℕ → Bool
valid s = chars (length s) s

abbrev pub all_valid : List (List ℕ) → Bool
all_valid [] = true
all_valid (w ∷ ws) = valid w && all_valid ws
