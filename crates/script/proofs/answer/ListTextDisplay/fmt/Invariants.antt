use Rattle.std.proofs.Common.{take}
use Rattle.std.specs.Fmt.{HasWritten, IsPlainFormatter}
use Rattle.text.specs.Spans.{texts_at}
use Rattle.script.specs.Answer.{listed}
use Rattle.script.proofs.answer.ListTextDisplay.fmt.Given as goal

abbrev pub invariant-loop-span : goal.invariant-loop-span
invariant-loop-span g l = IsPlainFormatter l.initial.f → HasWritten g.W.Write.write_str_gives l.initial.f (listed (texts_at l.self.bytes.now (take l.span-index l.span-items))) l.f
