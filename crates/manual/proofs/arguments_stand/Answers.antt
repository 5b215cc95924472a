use Rattle.manual.proofs.Arguments.{arguments_stand}
use Rattle.manual.proofs.arguments_stand.Goals as goal

pub returns : goal.returns
returns c = arguments_stand
