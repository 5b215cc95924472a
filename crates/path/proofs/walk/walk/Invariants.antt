use Rattle.std.proofs.Common.{length, take}
use Rattle.path.specs.Path.{Modulepath, Leads}
use Rattle.path.specs.Names.{Names}
use Rattle.path.proofs.walk.walk.Given as goal

abbrev pub invariant-loop-name : goal.invariant-loop-name
invariant-loop-name g l =
    let names = g.R.Register.names l.register in
    (goal.iterator-loop-name g).can_next l.name-iterator
    × (goal.iterator-loop-name g).is_finite l.name-iterator
    × ((path : Modulepath) → Names g.I.Iterator.next_gives l.fn.along path l.words → Leads names names.root (take (length l.yielded) path.components) l.«module»)
