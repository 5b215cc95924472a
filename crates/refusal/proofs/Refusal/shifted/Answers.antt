use Rattle.std.proofs.Common.{◌≡◌, ◌+◌, ◌-◌, ◌^◌, ◌≤◌, min, ap, ◌∙◌, arith}
use native.Mathlib.Nat.{min-eq_left}
use Rattle.refusal.specs.Told.{told_of}
use Rattle.refusal.proofs.Moves.{told_at}
use Rattle.refusal.proofs.Refusal.shifted.Goals as goal

pub returns : goal.returns
returns c =
    let refusal = c.args.self in let first = c.args.first in
    let sum : c.saturating_add.result ≡ min (first + (told_of refusal).word) (2 ^ 64 - 1) = c.saturating_add.ensures ∙ ap (λ t. min (first + t.word) (2 ^ 64 - 1)) c.told.ensures in
    record {
      value = told_at (λ word. min (first + word) (2 ^ 64 - 1)) refusal c.at_word.result c.saturating_add.result c.at_word.ensures sum;
      exact = λ h.
          let fits : first + (told_of refusal).word ≤ 2 ^ 64 - 1 = omega arith in
          told_at (λ word. first + word) refusal c.at_word.result c.saturating_add.result c.at_word.ensures (sum ∙ min-eq_left fits);
    }
