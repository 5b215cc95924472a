use Rattle.image.proofs.Stands.{image_stands}
use Rattle.image.proofs.check.image_stands.Goals as goal

pub returns : goal.returns
returns c = image_stands
