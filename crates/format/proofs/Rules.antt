-- Tests that decide rules.
use Rattle.std.proofs.Common.{Bool, true, false, not, Decides, refl}
use Rattle.std.specs.List.{ContainsAt as Has}
use Rattle.std.proofs.lemmas.Bool.{false≢true}
use Rattle.text.specs.Identifier.{Text}
use Rattle.text.specs.Utf8.{Utf8}
use Rattle.format.specs.Fields.{Plain}

pub plain_from : (t : Text) (zero : Bool) → Utf8 t → Decides zero (Has t 0) → Decides (not zero) (Plain t)
plain_from t true u d = (λ e. absurd (false≢true e), λ p. absurd (p.nonzero (d.0 refl)))
plain_from t false u d = (λ _. record { utf8 = u; nonzero = λ h. false≢true (d.1 h) }, λ _. refl)
