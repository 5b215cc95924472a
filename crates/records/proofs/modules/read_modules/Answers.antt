use Rattle.std.proofs.Common.{rules}
use Rattle.tree.specs.Rows.{module_at}
use Rattle.records.specs.Records.{module_record}
use Rattle.records.proofs.Tables.{table_reads}
use Rattle.records.proofs.modules.read_modules.Goals as goal

pub returns-clause-reads : goal.returns-clause-reads
returns-clause-reads c =
    let f = c.read_table.ensures.filled in
    table_reads (λ _. module_record c.args.recipes) module_at c.args.count c.read_table.new.rows c.read_table.ensures.fills (rw f.long f.fits) (λ last c r d p. search rules)
