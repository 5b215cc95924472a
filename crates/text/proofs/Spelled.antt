-- A text that is read byte by byte.
use Rattle.std.proofs.Common.{◌≡◌, ℕ, ◌+◌, List, [], ◌∷◌, length, get_or, drop, ap, ◌∙◌, arith}
use Rattle.std.proofs.lemmas.List.{drop_more}
use Rattle.std.proofs.Math.ListN.{drop_of_length-le}

-- from place i on, the bytes are these
abbrev pub Reads : ℕ → List ℕ → List ℕ → Type 0
Reads i xs [] = Unit {0}
Reads i xs (y ∷ ys) = (get_or xs i 0 ≡ y) × Reads (i + 1) xs ys

spelled_from : (i : ℕ) (xs ys : List ℕ) → length xs ≡ i + length ys → Reads i xs ys → drop i xs ≡ ys
spelled_from i xs [] h r = drop_of_length-le xs (omega arith)
spelled_from i xs (y ∷ ys) h r = drop_more xs i 0 (omega arith) ∙ ap (λ b. b ∷ drop (i + 1) xs) r.0 ∙ ap (λ t. y ∷ t) (spelled_from (i + 1) xs ys (omega arith) r.1)

pub spelled : (xs ys : List ℕ) → length xs ≡ length ys → Reads 0 xs ys → xs ≡ ys
spelled xs ys h r = spelled_from 0 xs ys (omega arith) r
