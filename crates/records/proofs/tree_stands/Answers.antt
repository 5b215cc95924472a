use Rattle.records.proofs.Certain.{tree_sure}
use Rattle.records.proofs.tree_stands.Goals as goal

pub returns : goal.returns
returns c = tree_sure
