use Rattle.std.proofs.Common.{map}
use Rattle.tree.specs.Rows.{recipe_at}
use Rattle.whole.proofs.Stepping.{Gone}
use Rattle.whole.proofs.derive.list_all.Given as goal

abbrev pub invariant-loop-recipe : goal.invariant-loop-recipe
invariant-loop-recipe g l = Gone (g.T.Listing.said l.image) g.T.Listing.name (map (recipe_at l.image) l.recipes) l.initial.rows l.recipe l.filled l.rows
