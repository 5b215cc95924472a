-- What is found in a tree exists. Assumes nothing.
use Rattle.std.specs.Prelude.{◌≡◌, ℕ, ◌<◌, length, Some}
use Rattle.std.specs.List.{slice_get}
use Rattle.text.specs.Identifier.{Text}
use Rattle.tree.specs.Tree.{Tree, Module, Name}
use Rattle.register.specs.Kinds.{kind_number}
use Rattle.register.specs.declared.kind.Kind.{Kind}
use Rattle.register.specs.declared.kind.Kind.TheVariants as kinds
use Rattle.tree_register.specs.Names.{tree_names}

-- how many records a kind counts: modules, recipes, and name rows where it has labels
abbrev pub records : Tree → Kind → ℕ
records tree kinds.Module = length tree.modules
records tree kinds.ModuleAlias = length tree.modules
records tree kinds.Recipe = length tree.recipes
records tree kinds.RecipeAlias = length tree.recipes
records tree kinds.DisabledRecipe = length tree.names
records tree kinds.DisabledAlias = length tree.names
records tree kinds.AbsentModule = length tree.names

-- the numbers of a tree name records that exist
pub record NumbersExist (tree : Tree) : Type 0 where
  pub names : (place : ℕ) (n : Name) (kind : Kind) (x : ℕ) → slice_get tree.names place ≡ Some n → n.kind ≡ kind_number kind → n.number ≡ Some x → x < records tree kind
  pub defaults : (m : ℕ) (row : Module) (x : ℕ) → slice_get tree.modules m ≡ Some row → row.default ≡ Some x → x < length tree.recipes

-- then so does what is found: a module, a recipe, or the name row of a label; and each default recipe
pub record FoundExists (tree : Tree) : Type 0 where
  pub found : (m : ℕ) (kind : Kind) (t : Text) (x : ℕ) → (tree_names tree).find m kind t ≡ Some x → x < records tree kind
  pub default : (m x : ℕ) → (tree_names tree).default m ≡ Some x → x < length tree.recipes

abbrev pub FindsStand : Type 0
FindsStand = (tree : Tree) → NumbersExist tree → FoundExists tree
