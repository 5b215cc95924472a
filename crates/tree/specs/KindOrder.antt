-- Kinds stand in the order of their numbers. Assumes nothing.
use Rattle.std.specs.Prelude.{◌≡◌, refl}
use Rattle.std.specs.Ordering.{nat_cmp}
use Rattle.register.specs.Kinds.{kind_number}
use Rattle.register.specs.declared.kind.Kind.{Kind}
use Rattle.register.specs.declared.kind.Kind.TheVariants.{Module, ModuleAlias, Recipe, RecipeAlias, DisabledRecipe, DisabledAlias, AbsentModule}
use Rattle.register.specs.contracts.kind.KindOrd.TheImpl.{ghosts}

-- what holds of each kind
each : (P : Kind → Type 0) → P Module → P ModuleAlias → P Recipe → P RecipeAlias → P DisabledRecipe → P DisabledAlias → P AbsentModule → (k : Kind) → P k
each P a b c d e f g Module = a
each P a b c d e f g ModuleAlias = b
each P a b c d e f g Recipe = c
each P a b c d e f g RecipeAlias = d
each P a b c d e f g DisabledRecipe = e
each P a b c d e f g DisabledAlias = f
each P a b c d e f g AbsentModule = g

abbrev InOrder : Kind → Kind → Type 0
InOrder a b = ghosts.cmp a b ≡ nat_cmp (kind_number a) (kind_number b)

pub kinds_in_order : (a b : Kind) → InOrder a b
kinds_in_order Module = each (InOrder Module) refl refl refl refl refl refl refl
kinds_in_order ModuleAlias = each (InOrder ModuleAlias) refl refl refl refl refl refl refl
kinds_in_order Recipe = each (InOrder Recipe) refl refl refl refl refl refl refl
kinds_in_order RecipeAlias = each (InOrder RecipeAlias) refl refl refl refl refl refl refl
kinds_in_order DisabledRecipe = each (InOrder DisabledRecipe) refl refl refl refl refl refl refl
kinds_in_order DisabledAlias = each (InOrder DisabledAlias) refl refl refl refl refl refl refl
kinds_in_order AbsentModule = each (InOrder AbsentModule) refl refl refl refl refl refl refl
