use Rattle.text.proofs.Lines.{line_stands}
use Rattle.text.proofs.line.cut.line_stands.Goals as goal

pub returns : goal.returns
returns c = line_stands
