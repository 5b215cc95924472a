use Rattle.console.proofs.Laws.{law_stands}
use Rattle.console.proofs.law.law_stands.Goals as goal

pub returns : goal.returns
returns c = law_stands
