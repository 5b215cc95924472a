use Rattle.std.proofs.Common.{refl}
use Rattle.format.specs.Format.{both}
use Rattle.examples.proofs.example.Goals as goal

pub returns : goal.returns
unfolding both
returns c = refl
