use Rattle.std.proofs.Common.{◌∙◌, rules, tests}
use Rattle.std.proofs.lemmas.Iterator.Consumers.{YieldsList-from_first}
use Rattle.std.proofs.lemmas.Iterator.Search.{any_from_yields_List}
use Rattle.reader.specs.Bare.{bare_option}
use Rattle.reader.specs.Signatures.{parameters_of, left_of, called_from}
use Rattle.reader.specs.declared.called.Called as code
use Rattle.reader.proofs.Places.{any_option_is}
use Rattle.reader.proofs.signature.Signature.has_options.Goals as goal

pub returns : goal.returns
returns g c =
    let ps = parameters_of g.R.Register.signatures c.args.self.now in
    any_from_yields_List (λ (x : code.Called). bare_option x.parameter) c.any.new.self _ _ c.any.ensures.ran (YieldsList-from_first (λ x. x) (left_of g.R.Register.signatures) {s = c.parameters.result} (called_from 0 ps) c.parameters.ensures) (λ x b q k. search (rules, tests))
    ∙ any_option_is 0 ps
