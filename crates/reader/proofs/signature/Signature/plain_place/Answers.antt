use Rattle.std.proofs.Common.{◌≡◌, Bool, false, true, not, sym, refl, ap, ◌∙◌}
use Rattle.reader.specs.Bare.{bare_option}
use Rattle.reader.specs.Signatures.{parameters_of, left_of}
use Rattle.reader.proofs.Places.{taken_by, taken_first, taken_further, taker_is}
use Rattle.reader.proofs.signature.Signature.plain_place.Goals as goal
use Rattle.reader.proofs.signature.Signature.plain_place.Goals.{then-left-eq0-via-then-left-eq0, then-left-eq0-via-else-left-eq0+then-is_variadic}

no_option : (b : Bool) → not b ≡ true → b ≡ false
no_option true e = sym e
no_option false e = refl

pub returns-then-left-eq0 : goal.returns-then-left-eq0
returns-then-left-eq0 g c =
    let h : bare_option c.in-Some.called.parameter ≡ false = no_option _ (sym c.is_plain.ensures ∙ c.if-is_plain.true) in
    let cs = left_of g.R.Register.signatures c.next.new.self in
    sym (elim c.then-left-eq0.branch [
      | then-left-eq0-via-then-left-eq0 w ↦ taken_first c.in-Some.called cs c.loop-called.left h w.if-left-eq0.true
      | then-left-eq0-via-else-left-eq0+then-is_variadic w ↦ taken_further c.in-Some.called cs c.loop-called.left h (sym w.is_variadic.ensures ∙ w.if-is_variadic.true)
    ])
    ∙ ap (λ x. taken_by x c.loop-called.left) (sym c.in-Some.ensures.steps) ∙ c.loop-called.invariant ∙ taker_is (parameters_of g.R.Register.signatures c.args.self.now) c.args.before

pub returns : goal.returns
returns g c = ap (λ x. taken_by x c.loop-called.left) (sym c.in-None.ensures.steps.0) ∙ c.loop-called.invariant ∙ taker_is (parameters_of g.R.Register.signatures c.args.self.now) c.args.before
