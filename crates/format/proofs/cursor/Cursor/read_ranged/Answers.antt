use Rattle.std.proofs.Common.{◌≤◌, length, rules}
use Rattle.refusal.specs.declared.Refusal.TheVariants.{OutOfRange}
use Rattle.text.specs.Spans.{text_at}
use Rattle.format.specs.Format.{sized}
use Rattle.format.proofs.Calls.{checks_reads}
use Rattle.format.proofs.cursor.Cursor.read_ranged.Goals as goal

pub returns : goal.returns
returns c = checks_reads OutOfRange (λ t. (c.args.least ≤ length t) × (length t ≤ 32)) sized text_at _ c.read_in_range.ensures (λ r p. search rules) (λ v b p t. search rules) (λ x t. search rules)
