use Rattle.std.proofs.Common.{Ok, Err, ap, ◌∙◌, subst}
use Rattle.std.proofs.lemmas.Result.{err_from_is_err_and}
use Rattle.text.specs.declared.span.Span.{Span}
use Rattle.reader.specs.Signatures.{parameters_of}
use Rattle.reader.specs.Steps.{GrowsBy}
use Rattle.reader.specs.Scans.{scanned_of}
use Rattle.reader.proofs.Scanning.{turn_stop, turn_off}
use Rattle.reader.proofs.invocation.Invocation.read_words.Goals as goal

abbrev nowhere : Span
nowhere = record { start = 0; len = 0 }

pub returns-in_err-role-clause-scans : goal.returns-in_err-role-clause-scans
returns-in_err-role-clause-scans g c =
    let ps = parameters_of g.R.Register.signatures c.args.signature.now in
    let bytes = c.args.bytes.now in let words = c.args.words.now in let i = c.loop-i.i in
    let p = err_from_is_err_and c.from_residual.result c.from_residual.ensures.1 in
    ap (λ r. scanned_of ps bytes words r c.read_word.new.self c.loop-i.roles) (p.1 ∙ ap Err p.2)
    ∙ turn_off ps bytes words i nowhere c.loop-i.self c.read_word.new.self c.loop-i.roles.items c.read_word.result c.loop-i-test.true (c.read_word.ensures.next c.loop-i.roles.items) _ c.in_err-role.was
    ∙ c.loop-i.invariant.3

pub returns-in_default-clause-scans : goal.returns-in_default-clause-scans
returns-in_default-clause-scans g c =
    let ps = parameters_of g.R.Register.signatures c.args.signature.now in
    let bytes = c.args.bytes.now in let words = c.args.words.now in let i = c.loop-i.i in
    let e = c.in_ok-role.was ∙ ap Ok c.in_default.is in
    turn_stop ps bytes words i nowhere c.loop-i.self c.read_word.new.self c.loop-i.roles.items c.read_word.result c.loop-i-test.true (c.read_word.ensures.next c.loop-i.roles.items) e (subst (GrowsBy _ _ _) e c.read_word.ensures.grows.by)
    ∙ c.loop-i.invariant.3
