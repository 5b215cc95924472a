use Rattle.std.proofs.Common.{ap, rules}
use Rattle.std.proofs.Output.{has_written_append, has_written_of_eq}
use Rattle.std.proofs.lemmas.List.{take_all}
use Rattle.script.specs.Hex.{hex_of}
use Rattle.script.proofs.Hexing.{hex_more}
use Rattle.script.proofs.hex.HexTextDisplay.fmt.Goals as goal

pub loop-b-preserved : goal.loop-b-preserved
loop-b-preserved g c = λ p.
    let bytes = c.args.self.now.bytes.now in
    has_written_of_eq _ _ _ _ _ (hex_more bytes c.loop-b.b-index c.loop-b-test.true (search rules)) (has_written_append _ _ _ _ _ _ (c.loop-b.invariant p) (search rules))

pub returns-clause-writes : goal.returns-clause-writes
returns-clause-writes g c = λ p _. has_written_of_eq _ _ _ _ _ (ap hex_of (take_all c.loop-b.b-index c.args.self.now.bytes.now c.loop-b-test.false)) (c.loop-b.invariant p)
