use Rattle.std.proofs.Common.{◌≡◌, ◌<◌, ◌*◌, ◌+◌, ◌-◌, Some, map, refl, sym, ap, ◌∙◌, length, take, get_or, arith, rules, tests}
use Rattle.std.proofs.lemmas.Iterator.{YieldsList-from_slice}
use Rattle.std.proofs.lemmas.Iterator.Consumers.{YieldsList-so_far, YieldsList-turn}
use Rattle.std.proofs.lemmas.List.{map_push, get_or_default}
use Rattle.std.proofs.lemmas.List.Sums.{fold_push}
use Rattle.std.proofs.lemmas.Fn.{chained_keeps}
use Rattle.judge.specs.Metres.{decimal}
use Rattle.judge.proofs.Digits.{small, small_so_far, digit_here}
use Rattle.judge.proofs.metres.number_of.Goals as goal

pub fold-requires-clause-callable : goal.fold-requires-clause-callable
fold-requires-clause-callable c =
    let digits = c.args.digits.now in
    let road = YieldsList-from_slice digits c.iter.ensures.rest in
    record {
      at = λ xs t q x u y folds step.
          let turn = YieldsList-turn road xs t y (Some x) u x refl step in
          let so_far = YieldsList-so_far road xs t y in
          let total : q.1 ≡ decimal (map (λ d. d.now) xs) = chained_keeps _ (λ ys p. p.1 ≡ decimal (map (λ d. d.now) ys)) (λ ys p d v e called.
          let one : v.1 ≡ p.1 * 10 + (d.now - 48) = search rules in
          one ∙ ap (λ n. n * 10 + (d.now - 48)) e ∙ sym (ap decimal (map_push (λ d. d.now) ys d) ∙ fold_push _ 0 (map (λ d. d.now) ys) d.now)) xs _ q refl folds in
          let is : q.1 ≡ decimal (take (length xs) digits) = total ∙ ap decimal so_far in
          let low : q.1 < 10000 = omega (arith, is, small_so_far digits (length xs) c.requires.written c.requires.few turn.0) in
          let digit = digit_here digits (length xs) c.requires.written c.requires.few turn.0 in
          let same : get_or digits (length xs) 0 ≡ x.now = get_or_default digits (length xs) 0 x.now turn.0 ∙ sym turn.1 in
          let above = rw same at digit in
          search (arith, rules);
    }

pub returns-clause-small : goal.returns-clause-small
returns-clause-small c =
    let e : c.fold.result ≡ decimal c.args.digits.now = search (rules, tests) in
    omega (arith, e, small c.args.digits.now c.requires.written c.requires.few)
