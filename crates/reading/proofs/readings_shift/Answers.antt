use Rattle.reading.proofs.Shifts.{readings_shift}
use Rattle.reading.proofs.readings_shift.Goals as goal

pub returns : goal.returns
returns c = readings_shift
