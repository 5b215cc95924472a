use Rattle.std.proofs.Common.{rules}
use Rattle.refusal.specs.declared.Refusal.TheVariants.{NameNotAbove}
use Rattle.format.specs.Reads.{optionally}
use Rattle.format.proofs.Calls.{checks_reads}
use Rattle.tree.specs.Rows.{name_at}
use Rattle.records.specs.Records.{Above, name_alone}
use Rattle.records.proofs.names.read_name.Goals as goal

pub returns : goal.returns
returns c = checks_reads NameNotAbove (Above (optionally name_at c.args.cursor.now.image.now c.args.last)) (name_alone c.args.counts.modules c.args.counts.recipes) name_at _ c.read_checked.ensures (λ r p. search rules) (λ v b p t. search rules) (λ x t. search rules)
