-- just's recipes (recipe.rs). Assumes nothing.
use Rattle.std.specs.Prelude.{ℕ, suc, Bool, cond, List, [], ◌∷◌, Ok, Err, Result, nat_lt}
use Rattle.just.specs.Error.{Error, Spot}
use Rattle.just.specs.Error.Error.{DefaultRecipeRequiresArguments}
use Rattle.just.specs.Parameter.{Parameter, is_required}

-- the number stands for the name
pub record Recipe : Type 0 where
  pub number : ℕ
  pub parameters : List Parameter

-- `filter(..).count()`
abbrev pub count_where : (Parameter → Bool) → List Parameter → ℕ
count_where test [] = 0
count_where test (p ∷ ps) = cond (test p) (suc (count_where test ps)) (count_where test ps)

-- `min_arguments`
abbrev pub min_arguments : Recipe → ℕ
min_arguments recipe = count_where is_required recipe.parameters

-- `check_can_be_default_recipe`
abbrev pub check_can_be_default_recipe : Spot → Recipe → Result (Unit {0}) Error
check_can_be_default_recipe spot recipe = cond (nat_lt 0 (min_arguments recipe)) (Err (DefaultRecipeRequiresArguments spot recipe.number (min_arguments recipe))) (Ok tt)
