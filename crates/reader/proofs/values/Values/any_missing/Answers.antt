use Rattle.std.proofs.Common.{◌∙◌, rules, tests}
use Rattle.std.proofs.lemmas.Iterator.Consumers.{YieldsList-from_first}
use Rattle.std.proofs.lemmas.Iterator.Search.{any_from_yields_List}
use Rattle.reader.specs.Signatures.{parameters_of, left_of, called_from}
use Rattle.reader.specs.Counts.{missing_row}
use Rattle.reader.specs.declared.called.Called as code
use Rattle.reader.proofs.Counting.{any_missing_is}
use Rattle.reader.proofs.values.Values.any_missing.Goals as goal

pub returns : goal.returns
returns g c =
    let ps = parameters_of g.R.Register.signatures c.args.signature.now in
    let rows = c.args.self.now.rows.items in
    λ bytes. any_from_yields_List (λ (x : code.Called). missing_row x.place x.parameter rows) c.any.new.self _ _ c.any.ensures.ran (YieldsList-from_first (λ x. x) (left_of g.R.Register.signatures) {s = c.parameters.result} (called_from 0 ps) c.parameters.ensures) (λ x b q k. search (rules, tests))
    ∙ any_missing_is bytes rows 0 ps
