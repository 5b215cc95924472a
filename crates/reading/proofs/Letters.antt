-- The letters of a text are its characters. Assumes nothing.
use Rattle.std.proofs.Common.{◌≡◌, ℕ, ◌<◌, ◌≤◌, List, [], ◌∷◌, ◌++◌, take, drop, sym, refl, ap, ◌∙◌, arith}
use Rattle.std.proofs.lemmas.List.{take_at, drop_at}
use Rattle.std.proofs.lemmas.Bool.{lt-ltb, le-ltb}
use Rattle.text.specs.Identifier.{Text}
use Rattle.text.specs.Utf8.{Char}
use Rattle.text.specs.Lead.{front}
use Rattle.text.proofs.Grammar.{front_char}
use Rattle.reading.specs.Letters.{letters_from, letters, code}

-- a finished letter, and what follows
done : (c : ℕ) (rest : Text) → letters_from 0 c rest ≡ c ∷ letters rest
done c [] = refl
done c (b ∷ t) = refl

one_byte : (a : ℕ) (rest : Text) → a ≤ 127 → letters (a ∷ rest) ≡ a ∷ letters rest
one_byte a rest h = rw (lt-ltb a 128 (omega arith)) (done a rest)

two_bytes : (a b : ℕ) (rest : Text) → 128 ≤ a → a < 224 → letters (a ∷ b ∷ rest) ≡ code (a ∷ b ∷ []) ∷ letters rest
two_bytes a b rest h k = rw (le-ltb a 128 h, lt-ltb a 224 k) (done _ rest)

three_bytes : (a b c : ℕ) (rest : Text) → 224 ≤ a → a < 240 → letters (a ∷ b ∷ c ∷ rest) ≡ code (a ∷ b ∷ c ∷ []) ∷ letters rest
three_bytes a b c rest h k = rw (le-ltb a 128 (omega arith), le-ltb a 224 h, lt-ltb a 240 k) (done _ rest)

four_bytes : (a b c d : ℕ) (rest : Text) → 240 ≤ a → letters (a ∷ b ∷ c ∷ d ∷ rest) ≡ code (a ∷ b ∷ c ∷ d ∷ []) ∷ letters rest
four_bytes a b c d rest h = rw (le-ltb a 128 (omega arith), le-ltb a 224 (omega arith), le-ltb a 240 h) (done _ rest)

pub letters_char : {char : List ℕ} → Char char → (rest : Text) → letters (char ++ rest) ≡ code char ∷ letters rest
letters_char (Char.one {a} f) rest = one_byte a rest f.most
letters_char (Char.two {a} {b} f t) rest = two_bytes a b rest (omega (arith, f.least)) (omega (arith, f.most))
letters_char (Char.three_E0 {b} {c} s t) rest = three_bytes 0xE0 b c rest (omega arith) (omega arith)
letters_char (Char.three_E1 {a} {b} {c} f s t) rest = three_bytes a b c rest (omega (arith, f.least)) (omega (arith, f.most))
letters_char (Char.three_ED {b} {c} s t) rest = three_bytes 0xED b c rest (omega arith) (omega arith)
letters_char (Char.three_EE {a} {b} {c} f s t) rest = three_bytes a b c rest (omega (arith, f.least)) (omega (arith, f.most))
letters_char (Char.four_F0 {b} {c} {d} s t u) rest = four_bytes 0xF0 b c d rest (omega arith)
letters_char (Char.four_F1 {a} {b} {c} {d} f s t u) rest = four_bytes a b c d rest (omega (arith, f.least))
letters_char (Char.four_F4 {b} {c} {d} s t u) rest = four_bytes 0xF4 b c d rest (omega arith)

-- the character at the front is the first letter
pub letters_front : (t : Text) → 0 < front t → letters t ≡ code (take (front t) t) ∷ letters (drop (front t) t)
letters_front t h =
    let f = front_char t h in
    let a : take (front t) t ≡ f.char = ap (take (front t)) f.whole ∙ take_at f.char f.rest (front t) f.long in
    let b : drop (front t) t ≡ f.rest = ap (drop (front t)) f.whole ∙ drop_at f.char f.rest (front t) f.long in
    ap letters f.whole ∙ letters_char f.is f.rest ∙ sym (ap (λ (x : List ℕ). code x ∷ letters (drop (front t) t)) a ∙ ap (λ (x : List ℕ). code f.char ∷ letters x) b)
