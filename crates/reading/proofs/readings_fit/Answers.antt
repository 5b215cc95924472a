use Rattle.reading.proofs.Bounds.{readings_fit}
use Rattle.reading.proofs.readings_fit.Goals as goal

pub returns : goal.returns
returns c = readings_fit
