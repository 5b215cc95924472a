use Rattle.std.proofs.Common.{◌≡◌, [], sym, ap, length, subst, arith, rules}
use Rattle.std.specs.Iterator.{YieldsFirst}
use Rattle.reader.specs.Signatures.{parameters_of, left_of, called_from}
use Rattle.reader.proofs.Places.{there, gone, left_here}
use Rattle.reader.proofs.signature.ParametersIterator.next.Goals as goal

pub returns-in_err-parameter-clause-steps : goal.returns-in_err-parameter-clause-steps
returns-in_err-parameter-clause-steps g c =
    let s = c.args.self.now in
    let e : left_of g.R.Register.signatures s ≡ [] = ap (called_from s.place) (gone (parameters_of g.R.Register.signatures s.signature) s.place c.parameter.result c.in_err-parameter.was c.parameter.ensures) in
    subst (λ r. YieldsFirst (left_of g.R.Register.signatures) s r s) (sym c.from_residual.ensures) (e, e)

pub overflow_add-self : goal.overflow_add-self
overflow_add-self g c =
    let s = c.args.self.now in
    let ps = parameters_of g.R.Register.signatures s.signature in
    let few = g.R.Register.few s.signature.register.now s.signature.recipe in
    let t = there ps s.place c.in_ok-parameter.parameter c.in_ok-parameter.ensures in let within = t.within in
    search rules

pub returns-clause-steps : goal.returns-clause-steps
returns-clause-steps g c =
    let s = c.args.self.now in
    let ps = parameters_of g.R.Register.signatures s.signature in
    left_here ps s.place c.in_ok-parameter.parameter (there ps s.place c.in_ok-parameter.parameter c.in_ok-parameter.ensures)

pub returns-clause-goes : goal.returns-clause-goes
returns-clause-goes g c =
    let s = c.args.self.now in
    let ps = parameters_of g.R.Register.signatures s.signature in
    let e = ap length (left_here ps s.place c.in_ok-parameter.parameter (there ps s.place c.in_ok-parameter.parameter c.in_ok-parameter.ensures)) in
    record { on = λ _. (tt, tt, omega arith); keeps = tt; rests = λ _. tt }
