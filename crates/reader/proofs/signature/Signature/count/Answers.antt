use Rattle.std.proofs.Common.{◌∙◌, ap, length, inl, rules, tests, arith}
use Rattle.std.proofs.lemmas.Iterator.Consumers.{YieldsList-from_first, YieldsList-from_filter, YieldsList-at, count_from_yields_List}
use Rattle.reader.specs.Signatures.{parameters_of, left_of, called_from}
use Rattle.reader.specs.declared.called.Called as code
use Rattle.reader.proofs.Places.{counted_is, called_long}
use Rattle.reader.proofs.signature.Signature.count.Goals as goal

pub count-requires-clause-fits : goal.count-requires-clause-fits
count-requires-clause-fits g c =
    let ps = parameters_of g.R.Register.signatures c.args.self.now in
    let few = g.R.Register.few c.args.self.now.register.now c.args.self.now.recipe in
    let e = ap (λ x. length (left_of g.R.Register.signatures x)) c.filter.ensures.source ∙ ap length c.parameters.ensures ∙ called_long 0 ps in
    inl (omega (arith, few, e))

pub returns : goal.returns
returns g c = λ passes says.
    let ps = parameters_of g.R.Register.signatures c.args.self.now in
    count_from_yields_List c.filter.result _ c.count.ensures.ran (YieldsList-from_filter _ (λ (x : code.Called). passes x.parameter) (YieldsList-at c.filter.ensures.source (YieldsList-from_first (λ x. x) (left_of g.R.Register.signatures) {s = c.parameters.result} (called_from 0 ps) c.parameters.ensures)) c.filter.ensures.closure (λ x b q k. search (rules, tests)))
    ∙ counted_is passes 0 ps
