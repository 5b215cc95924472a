use Rattle.std.proofs.Common.{rules, sym}
use Rattle.path.proofs.Along.{default_or_lacks}
use Rattle.path.proofs.walk.default_of.Goals as goal

pub returns : goal.returns
returns g c =
    let names = g.R.Register.names c.args.register.now in
    default_or_lacks names c.args.«module» c.default.result c.ok_or_else.result _ (sym c.default.ensures) c.ok_or_else.ensures.cases
    (λ f post. search rules)
