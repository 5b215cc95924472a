use Rattle.std.proofs.Common.{eqb, Decides}
use Rattle.std.specs.List.{ContainsAt as Has}
use Rattle.std.proofs.lemmas.List.Elements.{contains_decides}
use Rattle.format.proofs.Rules.{plain_from}
use Rattle.format.proofs.texts.is_plain.Goals as goal
use Rattle.std.proofs.lemmas.Bool.Decides.{Decides-eqb}

pub returns-then-is_utf8 : goal.returns-then-is_utf8
returns-then-is_utf8 c =
    let t = c.args.text.now in
    let d : Decides c.contains.result (Has t 0) = contains_decides eqb Decides-eqb t 0 c.contains.result c.contains.ensures.cases in
    plain_from t c.contains.result (c.is_utf8.ensures.0 c.if-is_utf8.true) d
