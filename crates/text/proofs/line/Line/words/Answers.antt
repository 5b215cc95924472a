use Rattle.text.proofs.Kept.{within}
use Rattle.text.proofs.line.Line.words.Goals as goal

pub returns-clause-within : goal.returns-clause-within
returns-clause-within c = within c.args.self.now
