use Rattle.std.proofs.Common.{rules, ap, ◌∙◌, subst}
use Rattle.std.specs.Iterator.Runs.{ItemsMapTo}
use Rattle.path.proofs.LookUps.{looks_up}
use Rattle.path.proofs.walk.look_up.Goals as goal

pub returns : goal.returns
returns g c =
    let names = g.R.Register.names c.args.register.now in
    let run = c.find_map.ensures.runs in
    let gives = subst (λ rest. ItemsMapTo run.0 (λ y. y.now) rest) (ap (λ s. s.rest.now) run.1 ∙ c.iter.ensures.rest) (c.iter.ensures.runs run.0 run.0.seen) in
    looks_up names c.args.«module» c.args.name.now _ _ run.0 (λ y. y.now) c.find_map.result gives run.2
    (λ a r q k. search rules) (λ x k. search rules) (λ x y k. search rules)
