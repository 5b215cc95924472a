use Rattle.judges.proofs.Places.{judges_of_tree}
use Rattle.judges.proofs.judges_of_tree_stand.Goals as goal

pub returns : goal.returns
returns c = judges_of_tree
