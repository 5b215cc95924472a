use Rattle.std.proofs.Common.{rules, ap, ◌∙◌}
use Rattle.text.specs.Left.{pieces_left}
use Rattle.text.proofs.Splits.{piece_given}
use Rattle.text.proofs.pieces.SplitIterator.next.Goals as goal

pub returns-clause-steps : goal.returns-clause-steps
returns-clause-steps c =
    ap (λ rest. pieces_left (record { rest = rest })) c.in_ok-text.was
    ∙ piece_given c.in_ok-text.text.now c.piece_length-len.result c.get-self.result c.piece_length-len.ensures.value c.get-self.ensures.lookup.0

pub returns-clause-goes : goal.returns-clause-goes
returns-clause-goes c =
    let k = piece_given c.in_ok-text.text.now c.piece_length-len.result c.get-self.result c.piece_length-len.ensures.value c.get-self.ensures.lookup.0 in
    search rules
