use Rattle.std.proofs.Common.{◌-◌, ◌≤◌, length}
use Rattle.table.proofs.Sides.{SmallerTo, LargerFrom}
use Rattle.table.proofs.search.Table.search.Given as goal

abbrev pub invariant-loop-low : goal.invariant-loop-low
invariant-loop-low g l =
    let s = l.self in let key = g.T.Ranked.keyed s.image.now in let k = g.K.Parts.parts l.key in
    (l.low ≤ l.high) × (l.high ≤ length s.rows.now) × SmallerTo key s.rows.now k l.low × LargerFrom key s.rows.now k l.high

abbrev pub decreases-loop-low : goal.decreases-loop-low
decreases-loop-low g l = l.high - l.low
