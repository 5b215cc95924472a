use Rattle.std.proofs.Common.{rules, ◌≡◌, ◌∙◌, eqb}
use Rattle.std.specs.Prelude.{count_by}
use Rattle.reader.specs.declared.source.ValueRow.{ValueRow}
use Rattle.reader.proofs.Rows.{count_to_is}
use Rattle.reader.proofs.counts.count_to.Goals as goal

pub returns : goal.returns
returns c =
    let e : c.count.result ≡ count_by (λ (row : ValueRow). eqb row.parameter c.args.parameter) c.args.rows.now = search rules in
    e ∙ count_to_is c.args.parameter c.args.rows.now
