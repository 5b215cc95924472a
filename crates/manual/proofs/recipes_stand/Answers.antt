use Rattle.manual.proofs.Recipes.{recipes_stand}
use Rattle.manual.proofs.recipes_stand.Goals as goal

pub returns : goal.returns
returns c = recipes_stand
