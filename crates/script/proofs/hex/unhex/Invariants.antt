use Rattle.std.proofs.Common.{◌*◌, take, vec_items}
use Rattle.script.specs.Hex.{Spells}
use Rattle.script.proofs.hex.unhex.Given as goal

abbrev pub invariant-loop-high : goal.invariant-loop-high
invariant-loop-high l = Spells (take (l.high-index * 2) l.hex) (vec_items l.bytes)
