use Rattle.std.proofs.Common.{◌≡◌, ℕ, zero, suc, ◌<◌, codes, length, get_or, false, arith, rules}
use Rattle.std.proofs.lemmas.Grind.{same_number_lists}
use Rattle.std.proofs.lemmas.Slice.Eq.{bytes_eq-Decides}
use Rattle.std.specs.Str.{bytes_eq}
use Rattle.text.specs.Identifier.{Text}
use Rattle.register.proofs.bare.recipe_named.Goals as goal

-- six letters, one by one
spelled : (w : Text) → get_or w 0 0 ≡ 115 → get_or w 1 0 ≡ 116 → get_or w 2 0 ≡ 97 → get_or w 3 0 ≡ 116 → get_or w 4 0 ≡ 117 → get_or w 5 0 ≡ 115 → (k : ℕ) → k < 6 → get_or w k 0 ≡ get_or (codes "status") k 0
spelled w s t a u v x zero l = s
spelled w s t a u v x (suc zero) l = t
spelled w s t a u v x (suc (suc zero)) l = a
spelled w s t a u v x (suc (suc (suc zero))) l = u
spelled w s t a u v x (suc (suc (suc (suc zero)))) l = v
spelled w s t a u v x (suc (suc (suc (suc (suc zero))))) l = x
spelled w s t a u v x (suc (suc (suc (suc (suc (suc k)))))) l = absurd (omega arith)

pub returns-in-status : goal.returns-in-status
returns-in-status c =
    let name = c.args.name.now in
    let hold : bytes_eq name (codes "hold") ≡ false = search rules in
    let long : length name ≡ 6 = omega arith in
    let letters = spelled name (omega arith) (omega arith) (omega arith) (omega arith) (omega arith) (omega arith) in
    let status = (bytes_eq-Decides name (codes "status")).1 (same_number_lists name (codes "status") long (λ k l. letters k (omega arith))) in
    rw (hold, status)
