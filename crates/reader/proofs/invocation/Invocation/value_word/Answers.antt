use Rattle.std.proofs.Common.{sym}
use Rattle.reader.proofs.WordSteps.{value_full, value_next}
use Rattle.reader.proofs.invocation.Invocation.value_word.Goals as goal

pub returns-then-is_full-clause-next : goal.returns-then-is_full-clause-next
returns-then-is_full-clause-next c = λ ps k bytes roles s. value_full ps bytes roles c.args.self.now c.args.self.now.values c.args.span k c.args.awaited.called s c.args.awaited.word c.args.awaited.letter (sym c.if-is_full.ensures)

pub returns-clause-next : goal.returns-clause-next
returns-clause-next c = λ ps k bytes roles s. value_next ps bytes roles c.args.self.now c.push.new.self c.args.span k c.args.awaited.called s c.args.awaited.word c.args.awaited.letter (sym c.if-is_full.ensures) c.push.ensures
