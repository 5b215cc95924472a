use Rattle.manual.proofs.Modules.{modules_stand}
use Rattle.manual.proofs.modules_stand.Goals as goal

pub returns : goal.returns
returns c = modules_stand
