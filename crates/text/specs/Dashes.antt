-- A word taken apart by its leading dashes.
use Rattle.std.specs.Prelude.{◌≡◌, ◌∷◌, ◌≢◌}
use Rattle.text.specs.Identifier.{Text}
use Rattle.text.specs.declared.dashes.Dashes.{Dashes}
use Rattle.text.specs.declared.dashes.Dashes.TheVariants.{Two, One, Plain}

-- two dashes and the rest; one and the rest, where it does not start with two; or no dash in front
abbrev pub TakenApart : Text → Dashes → Type 0
TakenApart word (Two rest) = word ≡ 45 ∷ 45 ∷ rest.now
TakenApart word (One rest) = (word ≡ 45 ∷ rest.now) × ((more : Text) → rest.now ≢ 45 ∷ more)
TakenApart word Plain = (more : Text) → word ≢ 45 ∷ more
