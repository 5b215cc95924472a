use Rattle.just.proofs.Stands.{just_stands}
use Rattle.just.proofs.just_stands.Goals as goal

pub returns : goal.returns
returns c = just_stands
