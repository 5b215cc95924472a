use Rattle.tree_register.proofs.Found.{found_exists, default_exists}
use Rattle.tree_register.proofs.finds_stand.Goals as goal

pub returns : goal.returns
returns c = λ tree exist. record { found = found_exists tree exist; default = default_exists tree exist }
