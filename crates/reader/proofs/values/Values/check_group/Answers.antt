use Rattle.std.proofs.Common.{not, sym, ap, ◌∙◌}
use Rattle.std.proofs.lemmas.Bool.{and_left, and_right, and_from}
use Rattle.reader.specs.Counts.{count_to}
use Rattle.reader.proofs.Counting.{unchecked, too_few, too_many, pattern_left}
use Rattle.reader.proofs.values.Values.check_group.Goals as goal
use Rattle.reader.proofs.values.Values.check_group.Goals.{then-parameter-via-then-parameter, then-parameter-via-else-parameter+then-not-has}

pub returns-then-parameter : goal.returns-then-parameter
returns-then-parameter g c = λ m e. unchecked (g.J.Judge.accepts c.args.judge.now) c.args.bytes.now c.args.self.now.rows.items c.args.called.place m c.args.called.parameter e
    (elim c.then-parameter.branch [
      | then-parameter-via-then-parameter w ↦ and_left _ _ (ap not w.if-parameter.true)
      | then-parameter-via-else-parameter+then-not-has w ↦ and_right _ _ (sym w.has.ensures ∙ w.if-not-has.true)
    ])

pub returns-then-not-at_least : goal.returns-then-not-at_least
returns-then-not-at_least g c = λ m e. too_few (g.J.Judge.accepts c.args.judge.now) c.args.bytes.now c.args.self.now.rows.items c.args.called.place m c.args.called.parameter e
    (and_from _ _ (ap not c.if-parameter.false) (sym c.has.ensures ∙ c.if-not-has.false)) c.count_to-found.result (c.count_to-found.ensures ∙ ap (count_to c.args.called.place) c.rows.ensures.value)
    (sym c.at_least.ensures ∙ c.if-not-at_least.true)

pub returns-then-not-at_most : goal.returns-then-not-at_most
returns-then-not-at_most g c = λ m e. too_many (g.J.Judge.accepts c.args.judge.now) c.args.bytes.now c.args.self.now.rows.items c.args.called.place m c.args.called.parameter e
    (and_from _ _ (ap not c.if-parameter.false) (sym c.has.ensures ∙ c.if-not-has.false)) c.count_to-found.result (c.count_to-found.ensures ∙ ap (count_to c.args.called.place) c.rows.ensures.value)
    (sym c.at_least.ensures ∙ c.if-not-at_least.false) (sym c.at_most.ensures ∙ c.if-not-at_most.true)

pub returns : goal.returns
returns g c = λ m e. pattern_left (g.J.Judge.accepts c.args.judge.now) c.args.bytes.now c.args.self.now.rows.items c.args.called.place m c.args.called.parameter e
    (and_from _ _ (ap not c.if-parameter.false) (sym c.has.ensures ∙ c.if-not-has.false)) c.count_to-found.result (c.count_to-found.ensures ∙ ap (count_to c.args.called.place) c.rows.ensures.value)
    (sym c.at_least.ensures ∙ c.if-not-at_least.false) (sym c.at_most.ensures ∙ c.if-not-at_most.false) _ c.check_pattern.ensures
