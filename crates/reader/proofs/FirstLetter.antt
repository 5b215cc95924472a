-- The first letter of a text, and the letters behind it. Assumes nothing.
use Rattle.std.proofs.Common.{◌≡◌, ℕ, zero, suc, ◌+◌, ◌-◌, ◌*◌, [], ◌∷◌, take, drop, refl}
use Rattle.text.specs.Identifier.{Text}
use Rattle.reading.specs.Letters.{letters_from, letters}
use Rattle.reader.specs.Meaning.{with_tail}

pub from_letter : (n c : ℕ) (t : Text) → letters_from n c t ≡ with_tail c (take n t) ∷ letters (drop n t)
from_letter zero c [] = refl
from_letter (suc n) c [] = refl
from_letter zero c (b ∷ t) = refl
from_letter (suc n) c (b ∷ t) = from_letter n (c * 64 + (b - 128)) t
