use Rattle.whole.proofs.Paths.{each_reached}
use Rattle.whole.proofs.modules.paths_stand.Goals as goal

pub returns : goal.returns
returns c = each_reached
