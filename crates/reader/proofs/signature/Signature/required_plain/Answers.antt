use Rattle.std.proofs.Common.{rules, not, ◌&&◌}
use Rattle.reader.specs.Bare.{bare_option, bare_required}
use Rattle.reader.proofs.signature.Signature.required_plain.Goals as goal

pub returns : goal.returns
returns g c = c.count.ensures (λ p. bare_required p && not (bare_option p)) (λ p b h. search rules)
