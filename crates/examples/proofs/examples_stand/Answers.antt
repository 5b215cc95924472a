use Rattle.examples.proofs.Examples.{examples_stand}
use Rattle.examples.proofs.examples_stand.Goals as goal

pub returns : goal.returns
returns c = examples_stand
