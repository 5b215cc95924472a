use Rattle.format.proofs.Whole.{encoded}
use Rattle.records.specs.Records.{tree}
use Rattle.records.proofs.encoding_stands.Goals as goal

pub returns : goal.returns
returns c = encoded tree
