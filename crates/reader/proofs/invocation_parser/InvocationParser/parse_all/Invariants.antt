use Rattle.std.proofs.Common.{◌-◌, length}
use Rattle.reader.specs.Told.{ToldSince}
use Rattle.reader.specs.Rest.{SoFar}
use Rattle.reader.proofs.invocation_parser.InvocationParser.parse_all.Given as goal

abbrev pub invariant-loop-next : goal.invariant-loop-next
invariant-loop-next g l =
    SoFar (g.R.Register.names l.register) (g.R.Register.signatures l.register) (g.J.Judge.accepts l.judge) (ToldSince g.T.Taker.told g.T.Taker.since l.fn.taker l.taker) l.bytes l.words l.next

abbrev pub decreases-loop-next : goal.decreases-loop-next
decreases-loop-next g l = length l.words - l.next
