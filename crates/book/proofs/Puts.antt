-- Path words put into a table. Assumes nothing.
use Rattle.std.proofs.Common.{◌≡◌, ℕ, zero, suc, ◌∷◌, List, replicate, refl, ap}
use Rattle.reading.specs.Line.{repeated}
use Rattle.reading.specs.declared.role.Role.{Role}

pub repeated_is : (n : ℕ) (r : Role) → replicate n r ≡ repeated n r
repeated_is zero r = refl
repeated_is (suc n) r = ap (λ (l : List Role). r ∷ l) (repeated_is n r)
