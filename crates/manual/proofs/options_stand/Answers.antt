use Rattle.manual.proofs.Options.{options_stand}
use Rattle.manual.proofs.options_stand.Goals as goal

pub returns : goal.returns
returns c = options_stand
