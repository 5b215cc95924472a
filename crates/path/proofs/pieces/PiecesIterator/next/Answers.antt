use Rattle.path.proofs.PieceSteps.{name_given}
use Rattle.path.proofs.pieces.PiecesIterator.next.Goals as goal

pub returns-clause-steps : goal.returns-clause-steps
returns-clause-steps c = name_given c.in_ok-text.text.now c.next.new.self.rest c.is_some.result c.is_some.ensures c.in_ok-text.ensures.steps
