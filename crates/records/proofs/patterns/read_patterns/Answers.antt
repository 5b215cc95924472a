use Rattle.std.proofs.Common.{rules}
use Rattle.tree.specs.Rows.{pattern_at}
use Rattle.records.specs.Records.{pattern_record}
use Rattle.records.specs.TreeRows.{PatternTidy}
use Rattle.format.proofs.Filling.{fills_all}
use Rattle.records.proofs.Tables.{table_reads}
use Rattle.records.proofs.patterns.read_patterns.Goals as goal

pub returns-clause-reads : goal.returns-clause-reads
returns-clause-reads c =
    let f = c.read_table.ensures.filled in
    table_reads (λ _. pattern_record) pattern_at c.args.count c.read_table.new.rows c.read_table.ensures.fills (rw f.long f.fits) (λ last c r d p. search rules)

pub returns-clause-tidy : goal.returns-clause-tidy
returns-clause-tidy c = fills_all PatternTidy c.read_table.ensures.fills (λ last c v d p. search rules)
