use Rattle.std.proofs.Common.{suc, length, Err, sym, ap, ◌∙◌}
use Rattle.std.proofs.lemmas.Bool.{eqb-true}
use Rattle.std.proofs.lemmas.List.{nil_from_length}
use Rattle.std.proofs.lemmas.Result.{err_from_is_err_and}
use Rattle.reading.specs.Model.{check_sound}
use Rattle.reader.specs.Meaning.{values_of}
use Rattle.reader.specs.Signatures.{parameters_of, left_of}
use Rattle.reader.specs.Counts.{fault_of}
use Rattle.reader.proofs.Places.{ahead}
use Rattle.reader.proofs.Counting.{first_pass, first_hit, first_none, none_to_check}
use Rattle.reader.proofs.values.Values.check_values.Goals as goal

pub returns-then-is_empty : goal.returns-then-is_empty
returns-then-is_empty g c =
    none_to_check (g.J.Judge.accepts c.args.judge.now) c.args.bytes.now c.args.self.now.rows.items 0 (parameters_of g.R.Register.signatures c.args.signature.now) (sym c.rows.ensures.value ∙ nil_from_length c.rows.result.now (eqb-true (length c.rows.result.now) 0 (sym c.is_empty.ensures ∙ c.if-is_empty.true)))

pub loop-called-preserved : goal.loop-called-preserved
loop-called-preserved g c =
    let check = check_sound (g.J.Judge.accepts c.args.judge.now) (values_of c.args.bytes.now c.args.self.now) in
    let i = c.loop-called.invariant in
    let cs = left_of g.R.Register.signatures c.next.new.self in
    let t = ahead i.0 i.1.0 c.in-Some.called cs (sym i.1.1 ∙ c.in-Some.ensures.steps) in
    (suc i.0, (t.others, t.left, first_pass check i.0 i.1.0 c.in-Some.called cs t (sym (c.check_group.ensures t.meaning t.is) ∙ ap fault_of c.in_ok-check_group.was) ∙ i.1.2))

pub returns-in_err-check_group : goal.returns-in_err-check_group
returns-in_err-check_group g c =
    let check = check_sound (g.J.Judge.accepts c.args.judge.now) (values_of c.args.bytes.now c.args.self.now) in
    let i = c.loop-called.invariant in
    let cs = left_of g.R.Register.signatures c.next.new.self in
    let t = ahead i.0 i.1.0 c.in-Some.called cs (sym i.1.1 ∙ c.in-Some.ensures.steps) in
    let p = err_from_is_err_and c.from_residual.result c.from_residual.ensures.1 in
    ap fault_of (p.1 ∙ ap Err p.2) ∙ first_hit check i.0 i.1.0 c.in-Some.called cs t _ (sym (c.check_group.ensures t.meaning t.is) ∙ ap fault_of c.in_err-check_group.was) ∙ i.1.2

pub returns : goal.returns
returns g c =
    let check = check_sound (g.J.Judge.accepts c.args.judge.now) (values_of c.args.bytes.now c.args.self.now) in
    let i = c.loop-called.invariant in
    first_none check i.0 i.1.0 (sym i.1.1 ∙ c.in-None.ensures.steps.0) ∙ i.1.2
