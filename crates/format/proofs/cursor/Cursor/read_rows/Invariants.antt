use Rattle.std.proofs.Common.{◌≡◌}
use Rattle.format.proofs.Filling.{SoFar}
use Rattle.format.proofs.cursor.Cursor.read_rows.Given as goal

abbrev pub invariant-loop-row : goal.invariant-loop-row
invariant-loop-row g l = SoFar (λ last c r d. (p : _) × (q : _) × goal.R-post g l.read p last r q × (p.now ≡ c) × (q.now ≡ d)) l.rows l.row-index l.last l.initial.self l.self
