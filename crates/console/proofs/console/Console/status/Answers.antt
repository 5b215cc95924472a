use Rattle.std.proofs.Common.{◌≡◌, ◌+◌, ℕ, Some, rules}
use Rattle.console.specs.Keeps.{view}
use Rattle.console.proofs.Waiting.{tells}
use Rattle.console.proofs.Admission.{sane}
use Rattle.console.proofs.console.Console.status.Goals as goal

pub returns : goal.returns
returns c h l =
    let s = c.args.self.now in
    let shows : (serial : ℕ) → c.then.result ≡ Some serial → serial ≡ s.first + s.base + s.at = λ serial q. let p = rw q at c.then.ensures.some in search rules in
    let t = tells h (view s) l.coupled (sane s) c.waiting.result c.then.result c.waiting.ensures c.then.ensures.variant shows in
    search rules
