-- What stands at a place of a list, and what a list has. Assumes nothing.
use Rattle.std.specs.Prelude.{ℕ, zero, suc, ◌⊎◌, List, [], ◌∷◌}

-- there is an item at this place, and P holds of it
abbrev pub Stands : {A : Type 0} → (A → Type 0) → List A → ℕ → Type 0
Stands P [] place = ⊥
Stands P (x ∷ xs) zero = P x
Stands P (x ∷ xs) (suc place) = Stands P xs place

-- P holds of some item
abbrev pub Among : {A : Type 0} → (A → Type 0) → List A → Type 0
Among P [] = ⊥
Among P (x ∷ xs) = P x ⊎ Among P xs
