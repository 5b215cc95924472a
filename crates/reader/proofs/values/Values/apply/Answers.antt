use Rattle.std.proofs.Common.{sym, ap, ◌∙◌, subst}
use Rattle.std.specs.Option.{option_map}
use Rattle.text.specs.Spans.{text_at}
use Rattle.reader.specs.Answers.{Calls}
use Rattle.reader.proofs.Applies.{applies_true, applies_value, no_value}
use Rattle.std.proofs.lemmas.Bool.{and_left}
use Rattle.reader.proofs.values.Values.apply.Goals as goal
use Rattle.reader.proofs.values.Values.apply.Goals.{else-last-via-then-last+else-is_some, else-last-via-else-last}

pub returns-then-takes_true-clause-applies : goal.returns-then-takes_true-clause-applies
returns-then-takes_true-clause-applies c = λ ps known bytes calls.
    let k = subst (Calls ps known) c.in-Some.is calls in
    applies_true ps known _ k.0 k.1 k.2 bytes c.args.last c.args.word c.args.letter (option_map (text_at bytes) c.args.value) c.args.self.now.rows.items _ (sym c.takes_true.ensures ∙ c.if-takes_true.true)
    (elim c.else-last.branch [ else-last-via-then-last+else-is_some w ↦ no_value c.args.last bytes c.args.value (sym w.is_some.ensures ∙ w.if-is_some.false) | else-last-via-else-last w ↦ and_left _ _ w.if-last.false ])
    (c.give.ensures.gives ps bytes)

pub returns-in-Some-value-clause-applies : goal.returns-in-Some-value-clause-applies
returns-in-Some-value-clause-applies c = λ ps known bytes calls.
    let k = subst (Calls ps known) c.in-Some.is calls in
    applies_value ps known _ k.0 k.1 k.2 bytes c.args.last c.args.word c.args.letter (option_map (text_at bytes) c.args.value) _ c.args.self.now.rows.items _ (sym c.if-takes_true.ensures) c.if-not-last.false (ap (option_map (text_at bytes)) c.in-Some-value.is) (c.give-in-Some-value.ensures.gives ps bytes)
