use Rattle.std.proofs.Common.{Err, Option, sym, ap, ◌∙◌}
use Rattle.std.proofs.lemmas.Result.{err_from_is_err_and}
use Rattle.refusal.specs.declared.Refusal.{Refusal}
use Rattle.reading.specs.Model.{else!, first_of, check_option, check_plain, check_sound}
use Rattle.reader.specs.Meaning.{values_of}
use Rattle.reader.specs.Signatures.{parameters_of}
use Rattle.reader.specs.Counts.{fault_of}
use Rattle.reader.proofs.values.Values.check.Goals as goal

pub returns-in_err-check_options : goal.returns-in_err-check_options
returns-in_err-check_options g c =
    let ps = parameters_of g.R.Register.signatures c.args.signature.now in
    let bytes = c.args.bytes.now in let vs = values_of bytes c.args.self.now in
    let first = first_of (check_option vs) 0 ps in let second = check_plain vs c.args.found ps in let third = first_of (check_sound (g.J.Judge.accepts c.args.judge.now) vs) 0 ps in
    let p = err_from_is_err_and c.from_residual.result c.from_residual.ensures.1 in
    ap fault_of (p.1 ∙ ap Err p.2) ∙ sym (ap (λ (o : Option Refusal). else! o (else! second third)) (sym (c.check_options.ensures bytes) ∙ ap fault_of c.in_err-check_options.was))

pub returns-in_err-check_plain : goal.returns-in_err-check_plain
returns-in_err-check_plain g c =
    let ps = parameters_of g.R.Register.signatures c.args.signature.now in
    let bytes = c.args.bytes.now in let vs = values_of bytes c.args.self.now in
    let first = first_of (check_option vs) 0 ps in let second = check_plain vs c.args.found ps in let third = first_of (check_sound (g.J.Judge.accepts c.args.judge.now) vs) 0 ps in
    let p = err_from_is_err_and c.from_residual-in_err-check_plain.result c.from_residual-in_err-check_plain.ensures.1 in
    ap fault_of (p.1 ∙ ap Err p.2)
    ∙ sym (ap (λ (o : Option Refusal). else! o (else! second third)) (sym (c.check_options.ensures bytes) ∙ ap fault_of c.in_ok-check_options.was)
    ∙ ap (λ (o : Option Refusal). else! o third) (sym (c.check_plain.ensures bytes) ∙ ap fault_of c.in_err-check_plain.was))

pub returns : goal.returns
returns g c =
    let ps = parameters_of g.R.Register.signatures c.args.signature.now in
    let bytes = c.args.bytes.now in let vs = values_of bytes c.args.self.now in
    let first = first_of (check_option vs) 0 ps in let second = check_plain vs c.args.found ps in let third = first_of (check_sound (g.J.Judge.accepts c.args.judge.now) vs) 0 ps in
    c.check_values.ensures
    ∙ sym (ap (λ (o : Option Refusal). else! o (else! second third)) (sym (c.check_options.ensures bytes) ∙ ap fault_of c.in_ok-check_options.was)
    ∙ ap (λ (o : Option Refusal). else! o third) (sym (c.check_plain.ensures bytes) ∙ ap fault_of c.in_ok-check_plain.was))
