use Rattle.std.proofs.Common.{map}
use Rattle.tree.specs.Rows.{parameter_at}
use Rattle.whole.proofs.Stepping.{Far}
use Rattle.whole.proofs.derive.list_recipe.Given as goal

abbrev pub invariant-loop-place : goal.invariant-loop-place
invariant-loop-place g l = Far (g.T.Listing.said l.image) g.T.Listing.name l.number (map (parameter_at l.image) l.parameters) l.initial.rows l.filled l.place l.listed l.rows
