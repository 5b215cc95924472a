use Rattle.std.proofs.Common.{rules}
use Rattle.tree.specs.Rows.{name_at}
use Rattle.records.specs.Records.{name_record}
use Rattle.records.proofs.Tables.{table_reads}
use Rattle.records.proofs.names.read_names.Goals as goal

pub returns-clause-reads : goal.returns-clause-reads
returns-clause-reads c =
    let f = c.read_table.ensures.filled in
    table_reads (name_record c.args.counts.modules c.args.counts.recipes) name_at c.args.counts.names c.read_table.new.rows c.read_table.ensures.fills (rw f.long f.fits) (λ last c r d p. search rules)
