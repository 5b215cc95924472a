use Rattle.std.proofs.Common.{◌≡◌, true, rules}
use Rattle.refusal.specs.declared.Refusal.TheVariants.{ForbiddenText}
use Rattle.text.specs.Identifier.{identifier}
use Rattle.text.specs.Spans.{text_at}
use Rattle.format.specs.Fields.{ranged}
use Rattle.format.proofs.Calls.{checks_reads}
use Rattle.format.proofs.cursor.Cursor.read_name.Goals as goal

pub returns : goal.returns
returns c = checks_reads ForbiddenText (λ t. identifier t ≡ true) (ranged 1) text_at _ c.read_allowed.ensures (λ r p. p) (λ v b p t. search rules) (λ x t. t)
