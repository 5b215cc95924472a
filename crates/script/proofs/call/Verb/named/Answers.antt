use Rattle.std.proofs.Common.{codes, sym, ap, arith, rules}
use Rattle.script.specs.Call.{verb_of}
use Rattle.text.proofs.Spelled.{spelled}
use Rattle.script.proofs.call.Verb.named.Goals as goal

pub returns-in-wordsx : goal.returns-in-wordsx
returns-in-wordsx c = ap verb_of (sym (spelled c.args.name.now (codes "wordsx") (omega arith) (search rules)))

pub returns-in-recipe : goal.returns-in-recipe
returns-in-recipe c = ap verb_of (sym (spelled c.args.name.now (codes "recipe") (omega arith) (search rules)))
