use Rattle.std.proofs.Common.{◌≡◌, sym, subst, rules}
use Rattle.text.specs.Pieces.{Unclosed, unclosed}
use Rattle.text.proofs.Joins.{unclosed_does}
use Rattle.text.proofs.pieces.without_closing.Goals as goal

pub returns-clause-means : goal.returns-clause-means
returns-clause-means c =
    let w = c.args.word.now in
    let e : c.unwrap_or.result.now ≡ unclosed w = search rules in
    subst (Unclosed w) (sym e) (unclosed_does w)
