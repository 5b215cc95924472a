use Rattle.path.proofs.Follows.{path_laws}
use Rattle.path.proofs.path_laws_stand.Goals as goal

pub returns : goal.returns
returns c = path_laws
