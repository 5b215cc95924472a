use Rattle.manual.proofs.Spellings.{spellings_stand}
use Rattle.manual.proofs.spellings_stand.Goals as goal

pub returns : goal.returns
returns c = spellings_stand
