use Rattle.script.proofs.Hexing.{hex_stands}
use Rattle.script.proofs.hex.hex_stands.Goals as goal

pub returns : goal.returns
returns c = hex_stands
