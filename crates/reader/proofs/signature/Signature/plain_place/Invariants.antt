use Rattle.std.proofs.Common.{◌≡◌}
use Rattle.reader.specs.Signatures.{parameters_of, left_of, called_from}
use Rattle.reader.proofs.Places.{taken_by}
use Rattle.reader.proofs.signature.Signature.plain_place.Given as goal

abbrev pub invariant-loop-called : goal.invariant-loop-called
invariant-loop-called g l = taken_by (left_of g.R.Register.signatures l.called-iterator) l.left ≡ taken_by (called_from 0 (parameters_of g.R.Register.signatures l.self)) l.fn.before
