use Rattle.std.proofs.Common.{refl}
use Rattle.just.proofs.examples_stand.Goals as goal

pub returns : goal.returns
returns c = λ judge. (refl, (refl, (refl, (refl, (refl, (refl, (refl, (refl, tt))))))))
