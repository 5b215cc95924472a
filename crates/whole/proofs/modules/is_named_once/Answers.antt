use Rattle.std.proofs.Common.{sym, subst, Decides, map, ◌==◌}
use Rattle.tree.specs.Rows.{name_at}
use Rattle.whole.specs.Modules.{NamedOnce}
use Rattle.whole.proofs.Once.{named_once}
use Rattle.whole.proofs.modules.is_named_once.Goals as goal

pub returns : goal.returns
returns c image =
    let m = c.args.«module» in let rows = c.args.names.now in
    subst (λ n. Decides (n == 1) (NamedOnce (map (name_at image) rows) m)) (sym c.times_named.ensures) (named_once m image rows)
