use Rattle.std.proofs.Common.{List, sym, ap, ◌∙◌}
use Rattle.reading.specs.Reading.{group}
use Rattle.reading.specs.Model.{check_pattern}
use Rattle.reader.specs.Meaning.{values_of}
use Rattle.reader.specs.Counts.{first_rejected}
use Rattle.reader.specs.declared.source.ValueRow.{ValueRow}
use Rattle.reader.proofs.Counting.{mismatch, no_pattern_lem, pattern_is}
use Rattle.reader.proofs.values.Values.check_pattern.Goals as goal

pub returns-in_default : goal.returns-in_default
returns-in_default g c =
    let accepts = g.J.Judge.accepts c.args.judge.now in let vs = group c.args.place (values_of c.args.bytes.now c.args.self.now) in
    sym (ap (λ o. check_pattern accepts c.args.place o vs) c.in_default.is ∙ no_pattern_lem accepts c.args.place vs)

pub returns-in-Some-first_rejected : goal.returns-in-Some-first_rejected
returns-in-Some-first_rejected g c =
    let accepts = g.J.Judge.accepts c.args.judge.now in let vs = group c.args.place (values_of c.args.bytes.now c.args.self.now) in
    let e = c.in-Some-first_rejected.ensures ∙ ap (λ (rows : List ValueRow). first_rejected (accepts c.in-Some.pattern) c.args.bytes.now c.args.place rows) c.rows.ensures.value in
    ap (mismatch c.args.place) e ∙ pattern_is accepts c.in-Some.pattern c.args.bytes.now c.args.place c.args.self.now.rows.items ∙ sym (ap (λ o. check_pattern accepts c.args.place o vs) c.in-Some.is)

pub returns-in-None : goal.returns-in-None
returns-in-None g c =
    let accepts = g.J.Judge.accepts c.args.judge.now in let vs = group c.args.place (values_of c.args.bytes.now c.args.self.now) in
    let e = c.in-None.ensures ∙ ap (λ (rows : List ValueRow). first_rejected (accepts c.in-Some.pattern) c.args.bytes.now c.args.place rows) c.rows.ensures.value in
    ap (mismatch c.args.place) e ∙ pattern_is accepts c.in-Some.pattern c.args.bytes.now c.args.place c.args.self.now.rows.items ∙ sym (ap (λ o. check_pattern accepts c.args.place o vs) c.in-Some.is)
