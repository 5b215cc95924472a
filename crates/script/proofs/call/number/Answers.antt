use Rattle.std.proofs.Common.{rules, ◌∙◌}
use Rattle.std.proofs.lemmas.Iterator.{YieldsList-from_slice}
use Rattle.script.proofs.Numbers.{digits_from_try_fold, number_from_digits}
use Rattle.script.proofs.call.number.Goals as goal

pub returns-in_default : goal.returns-in_default
returns-in_default c =
    digits_from_try_fold _ _ 0 c.try_fold.result c.try_fold.ensures.ran (YieldsList-from_slice c.args.text.now cc) (λ b x w q k. search rules) ∙ number_from_digits c.args.text.now c.in_default.len_at_least
