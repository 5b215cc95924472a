use Rattle.std.proofs.Common.{rules}
use Rattle.tree.specs.Rows.{recipe_at}
use Rattle.records.specs.Records.{recipe_record}
use Rattle.records.specs.TreeRows.{RecipeTidy}
use Rattle.format.proofs.Filling.{fills_all}
use Rattle.records.proofs.Tables.{table_reads}
use Rattle.records.proofs.recipes.read_recipes.Goals as goal

pub returns-clause-reads : goal.returns-clause-reads
returns-clause-reads c =
    let f = c.read_table.ensures.filled in
    table_reads (λ _. recipe_record c.args.patterns) recipe_at c.args.count c.read_table.new.rows c.read_table.ensures.fills (rw f.long f.fits) (λ last c r d p. search rules)

pub returns-clause-tidy : goal.returns-clause-tidy
returns-clause-tidy c = fills_all RecipeTidy c.read_table.ensures.fills (λ last c v d p. search rules)
