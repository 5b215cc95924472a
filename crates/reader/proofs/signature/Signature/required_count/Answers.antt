use Rattle.std.proofs.Common.{rules}
use Rattle.reader.specs.Bare.{bare_required}
use Rattle.reader.proofs.signature.Signature.required_count.Goals as goal

pub returns : goal.returns
returns g c = c.count.ensures bare_required (λ p b h. search rules)
