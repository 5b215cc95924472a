use Rattle.std.proofs.Common.{◌≡◌, codes, sym, ap, arith, rules}
use Rattle.text.proofs.Spelled.{spelled}
use Rattle.image_reader.specs.Choice.{choice_named}
use Rattle.image_reader.proofs.choice.JudgeChoice.named.Goals as goal

pub returns-in-either : goal.returns-in-either
returns-in-either c = ap choice_named (sym (spelled c.args.name.now (codes "either") (omega arith) (search rules)))
