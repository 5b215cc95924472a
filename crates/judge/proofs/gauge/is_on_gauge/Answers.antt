use Rattle.std.proofs.Common.{◌≡◌, rules}
use Rattle.std.proofs.lemmas.Bool.Decides.{Decides-at}
use Rattle.judge.specs.Gauge.{on_gauge}
use Rattle.judge.proofs.Agreement.{gauge_decides}
use Rattle.judge.proofs.gauge.is_on_gauge.Goals as goal

pub returns-clause-means : goal.returns-clause-means
returns-clause-means c =
    let low = c.args.low in let high = c.args.high in let t = c.args.text.now in
    let e : c.is_some_and.result ≡ on_gauge low high t = search rules in
    Decides-at c.is_some_and.result (on_gauge low high t) e (gauge_decides low high t)
