use Rattle.std.proofs.Common.{rules, tests}
use Rattle.std.proofs.lemmas.Iterator.Consumers.{YieldsList-from_first}
use Rattle.std.proofs.lemmas.Iterator.Search.{find_from_yields_List}
use Rattle.reader.specs.Signatures.{parameters_of, left_of, called_from}
use Rattle.reader.proofs.Counting.{lacks, first_lacking}
use Rattle.reader.proofs.values.Values.check_options.Goals as goal

pub returns-in-Some : goal.returns-in-Some
returns-in-Some g c =
    let ps = parameters_of g.R.Register.signatures c.args.signature.now in
    let rows = c.args.self.now.rows.items in
    let e = find_from_yields_List (lacks rows) c.find-missing.new.self _ c.find-missing.result c.find-missing.ensures.ran (YieldsList-from_first (λ x. x) (left_of g.R.Register.signatures) {s = c.parameters.result} (called_from 0 ps) c.parameters.ensures) (λ x b q k. search (rules, tests)) in
    λ bytes. first_lacking bytes rows ps _ _ c.in-Some.is e

pub returns-in-None : goal.returns-in-None
returns-in-None g c =
    let ps = parameters_of g.R.Register.signatures c.args.signature.now in
    let rows = c.args.self.now.rows.items in
    let e = find_from_yields_List (lacks rows) c.find-missing.new.self _ c.find-missing.result c.find-missing.ensures.ran (YieldsList-from_first (λ x. x) (left_of g.R.Register.signatures) {s = c.parameters.result} (called_from 0 ps) c.parameters.ensures) (λ x b q k. search (rules, tests)) in
    λ bytes. first_lacking bytes rows ps _ _ c.in-None.is e
