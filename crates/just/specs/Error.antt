-- just's errors of parsing, without suggestions. A recipe is told by its number, a parameter by its place, a disabled or absent name by its label. Each also tells the parser's counters where it arose. Assumes nothing.
use Rattle.std.specs.Prelude.{ℕ}
use Rattle.text.specs.Identifier.{Text}
use Rattle.just.specs.Modulepath.{Modulepath}

-- a switch as it was written: `--name` or one letter of `-abc`
pub data Switch : Type 0 where
  Long : Text → Switch
  Short : ℕ → Switch

-- The counters: `next` where the invocation began, how many arguments its path took, `i` of the argument at hand, and `index` of the switch in it.
pub record Spot : Type 0 where
  pub next : ℕ
  pub path : ℕ
  pub i : ℕ
  pub index : ℕ

pub data Error : Type 0 where
  -- recipe
  UnknownRecipe : Spot → Text → Error
  -- path
  UnknownSubmodule : Spot → Text → Error
  ExpectedSubmoduleButFoundRecipe : Spot → Text → Error
  -- path, label
  RecipeDisabled : Spot → Modulepath → ℕ → Error
  AliasDisabled : Spot → Modulepath → ℕ → Error
  ModuleAbsent : Spot → Modulepath → ℕ → Error
  NoRecipes : Spot → Error
  NoDefaultRecipe : Spot → Error
  -- recipe, min_arguments
  DefaultRecipeRequiresArguments : Spot → ℕ → ℕ → Error
  -- argument
  InvalidOption : Spot → Text → Error
  -- recipe, switch
  UnknownOption : Spot → ℕ → Switch → Error
  FlagWithValue : Spot → ℕ → Switch → Error
  NonFinalOptionWithValue : Spot → ℕ → Switch → Error
  OptionMissingValue : Spot → ℕ → Switch → Error
  DuplicateOption : Spot → ℕ → Switch → Error
  -- recipe, switch, and the parameter that has it
  MissingOption : Spot → ℕ → Switch → ℕ → Error
  -- recipe, found, min, max
  PositionalArgumentCountMismatch : Spot → ℕ → ℕ → ℕ → ℕ → Error
  -- recipe, parameter, found, min
  ArgumentTooFewValues : Spot → ℕ → ℕ → ℕ → ℕ → Error
  -- recipe, parameter, found, max
  ArgumentTooManyValues : Spot → ℕ → ℕ → ℕ → ℕ → Error
  -- recipe, parameter, pattern, argument
  ArgumentPatternMismatch : Spot → ℕ → ℕ → ℕ → Text → Error
  -- the Rust would panic, by an index out of range or an `unwrap` of nothing; or the fuel of a loop is out
  Panicked : Error
