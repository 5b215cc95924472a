use Rattle.manual.proofs.Groups.{groups_stand}
use Rattle.manual.proofs.groups_stand.Goals as goal

pub returns : goal.returns
returns c = groups_stand
