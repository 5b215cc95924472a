use Rattle.std.proofs.Common.{◌≡◌, ◌<◌, nat_lt, rules}
use Rattle.refusal.specs.declared.Refusal.TheVariants.{OutOfRange}
use Rattle.format.specs.Format.{number, checked}
use Rattle.format.specs.Fields.{bit}
use Rattle.format.proofs.Calls.{checks_reads}
use Rattle.register.specs.Kinds.{kind_number}
use Rattle.register.specs.declared.kind.NoKind.{NoKind}
use Rattle.records.proofs.FromNumbers.{known_read, fits_read}
use Rattle.records.proofs.names.read_kind.Goals as goal

pub returns : goal.returns
returns c =
    fits_read (bit 0 c.args.map) _ (checks_reads OutOfRange (λ n. nat_lt n 4 ≡ bit 0 c.args.map) (checked OutOfRange (λ n. n < 7) (number 1)) (λ _ k. kind_number k) _ c.read_in_range.ensures (λ r p. known_read NoKind r (search rules)) (λ v b p t. search rules) (λ x t. search rules))
