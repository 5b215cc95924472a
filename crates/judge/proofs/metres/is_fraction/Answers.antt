use Rattle.std.proofs.Common.{◌≡◌, ◌&&◌, true, leb, length, refl, sym, ap, ◌∙◌, rules}
use Rattle.std.proofs.lemmas.List.Recursion.{and_is}
use Rattle.std.specs.Char.{is_ascii_digit}
use Rattle.std.specs.Str.{all_ascii_digits}
use Rattle.judge.proofs.metres.is_fraction.Goals as goal

pub returns-then-contains : goal.returns-then-contains
returns-then-contains c =
    let t = c.args.text.now in
    let e : c.all.result ≡ all_ascii_digits t = and_is all_ascii_digits is_ascii_digit refl (λ _ _. refl) t 0 _ (search rules) (search rules) in
    let h : (leb 1 (length t) && leb (length t) 3) ≡ true = search rules in
    e ∙ ap (λ b. b && all_ascii_digits t) (sym h)
