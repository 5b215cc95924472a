use Rattle.manual.proofs.Ends.{ends_stand}
use Rattle.manual.proofs.ends_stand.Goals as goal

pub returns : goal.returns
returns c = ends_stand
