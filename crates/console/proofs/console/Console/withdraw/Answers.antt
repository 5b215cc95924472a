use Rattle.std.proofs.Common.{ℕ, ◌+◌, ◌≤◌, cond, refl, arith}
use Rattle.console.specs.Keeps.{view}
use Rattle.console.proofs.Waiting.{withdraws, out_fits}
use Rattle.console.proofs.Steps.{withdraw_couples}
use Rattle.console.proofs.Admission.{sane}
use Rattle.console.proofs.console.Console.withdraw.Goals as goal

pub returns : goal.returns
returns c h l =
    let s = c.args.self.now in
    let o : ℕ = cond s.out 1 0 in
    let fits : s.at + o ≤ s.book.fill.orders = out_fits (view s) (sane s) in
    let e = c.waiting-waiting.ensures in record {
      lawful = (l.lawful, withdraws h (view s) l.coupled (sane s) o _ refl fits e);
      coupled = withdraw_couples h (view s) l.coupled (sane s) o _ _ refl (omega arith) (omega arith) (omega arith);
    }
