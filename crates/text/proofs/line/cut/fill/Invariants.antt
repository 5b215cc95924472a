use Rattle.text.proofs.Filling.{Sofar}
use Rattle.text.proofs.line.cut.fill.Given as goal

abbrev pub invariant-loop-i : goal.invariant-loop-i
invariant-loop-i l = Sofar l.bytes l.words l.i l.start l.count
