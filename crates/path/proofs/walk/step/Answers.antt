use Rattle.path.specs.Path.{Stops}
use Rattle.path.proofs.LookUps.{of_label, of_recipe}
use Rattle.path.proofs.Along.{nowhere_stops}
use Rattle.path.proofs.walk.step.Goals as goal

pub returns-in_default : goal.returns-in_default
returns-in_default g c = nowhere_stops c.args.name.followed c.unknown.result c.in_default.ensures c.unknown.ensures

pub returns-in-Recipe : goal.returns-in-Recipe
returns-in-Recipe g c = Stops.recipe_followed c.if-name.true (of_recipe _ _ _ c.in-Some.ensures c.in-Recipe.is)

pub returns-in-DisabledRecipe : goal.returns-in-DisabledRecipe
returns-in-DisabledRecipe g c = Stops.disabled_recipe (of_label _ _ _ c.in-Some.ensures c.in-DisabledRecipe.is c.from-label.ensures)

pub returns-in-DisabledAlias : goal.returns-in-DisabledAlias
returns-in-DisabledAlias g c = Stops.disabled_alias (of_label _ _ _ c.in-Some.ensures c.in-DisabledAlias.is c.from-label.ensures)

pub returns-in-AbsentModule : goal.returns-in-AbsentModule
returns-in-AbsentModule g c = Stops.absent_module (of_label _ _ _ c.in-Some.ensures c.in-AbsentModule.is c.from-label.ensures)
