use Rattle.reading.proofs.Lines.{model_only, line_unrolls}
use Rattle.reading.proofs.Unroll.{step_few}
use Rattle.reading.proofs.model_stands.Goals as goal

pub returns : goal.returns
returns c = record { only = model_only; unrolls = line_unrolls; few = step_few }
