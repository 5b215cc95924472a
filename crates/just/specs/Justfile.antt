-- just's justfiles (justfile.rs), one for each module. Where the Rust has a submodule inside its module, a table of modules tells the submodule's place in the list of all, whose first is the root. Assumes nothing.
use Rattle.std.specs.Prelude.{ℕ, zero, suc, List, [], ◌∷◌, length, Some, None, Option}
use Rattle.std.specs.List.{slice_get}
use Rattle.text.specs.Identifier.{Text}
use Rattle.just.specs.Results.{if_let}
use Rattle.just.specs.Table.{Table, get}
use Rattle.just.specs.Modulepath.{Modulepath}
use Rattle.just.specs.Recipe.{Recipe}

-- the target is a path from the root
pub record ModuleAlias : Type 0 where
  pub target : Modulepath

-- disabled and absent names have their labels
pub record Justfile : Type 0 where
  pub absent_modules : Table ℕ
  pub default : Option Recipe
  pub disabled_aliases : Table ℕ
  pub disabled_recipes : Table ℕ
  pub module_aliases : Table ModuleAlias
  pub module_path : Modulepath
  pub modules : Table ℕ
  pub recipe_aliases : Table Recipe
  pub recipes : Table Recipe

-- `recipe`
abbrev pub recipe_named : Justfile → Text → Option Recipe
recipe_named self name = if_let (get self.recipes name) (λ r. Some r) (get self.recipe_aliases name)

-- `submodule`: `again` is the same from the root, for the target of an alias
abbrev pub below : List Justfile → (Modulepath → Option Justfile) → Justfile → Text → Option Justfile
below all again self component =
    if_let (get self.modules component) (λ m. slice_get all m)
    (if_let (get self.module_aliases component) (λ alias. again alias.target) None)

abbrev pub submodule_from : List Justfile → (Modulepath → Option Justfile) → Option Justfile → List Text → Option Justfile
submodule_from all again self [] = self
submodule_from all again self (component ∷ rest) = submodule_from all again (if_let self (λ s. below all again s component) None) rest

-- with fuel for aliases that lead through aliases
abbrev pub submodule_by : List Justfile → ℕ → Modulepath → Option Justfile
submodule_by all zero path = None
submodule_by all (suc fuel) path = submodule_from all (submodule_by all fuel) (slice_get all 0) path.components

-- from the root; the targets that a tree tells lead through no alias, so that one turn suffices
abbrev pub submodule : List Justfile → Modulepath → Option Justfile
submodule all path = submodule_by all (length all) path
