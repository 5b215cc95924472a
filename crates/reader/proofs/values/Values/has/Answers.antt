use Rattle.std.proofs.Common.{rules, tests, ◌∙◌, eqb}
use Rattle.std.proofs.lemmas.Iterator.{YieldsList-from_slice}
use Rattle.std.proofs.lemmas.Iterator.Search.{any_from_yields_List}
use Rattle.reader.specs.declared.source.ValueRow.{ValueRow}
use Rattle.reader.proofs.Rows.{any_to_is}
use Rattle.reader.proofs.values.Values.has.Goals as goal

pub returns : goal.returns
returns c =
    any_from_yields_List (λ (row : ValueRow). eqb row.parameter c.args.parameter) _ _ _ c.any.ensures.ran (YieldsList-from_slice c.args.self.now.rows.items cc) (λ x b q k. search (rules, tests))
    ∙ any_to_is c.args.parameter c.args.self.now.rows.items
