use Rattle.std.proofs.Common.{◌≤◌, length}
use Rattle.table.proofs.Sides.{LargerFrom}
use Rattle.table.proofs.search.Table.search_back.Given as goal

abbrev pub invariant-loop-place : goal.invariant-loop-place
invariant-loop-place g l =
    let s = l.self in
    (l.place ≤ length s.rows.now) × LargerFrom (g.T.Ranked.keyed s.image.now) s.rows.now (g.K.Parts.parts l.key) l.place

abbrev pub decreases-loop-place : goal.decreases-loop-place
decreases-loop-place g l = l.place
