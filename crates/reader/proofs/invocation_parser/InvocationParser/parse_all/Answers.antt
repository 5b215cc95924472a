use Rattle.std.proofs.Common.{[], Ok, Err, sym, ap, ◌∙◌, subst, arith}
use Rattle.std.proofs.lemmas.Result.{err_from_is_err_and}
use Rattle.text.specs.Spans.{texts_at}
use Rattle.reader.specs.Told.{ToldSince}
use Rattle.reader.specs.Rest.{NextTold, AllTold}
use Rattle.reader.proofs.Turns.{first_told, next_told, next_fails, all_told}
use Rattle.reader.proofs.invocation_parser.InvocationParser.parse_all.Goals as goal

pub loop-next-init : goal.loop-next-init
loop-next-init g c =
    let names = g.R.Register.names c.args.register.now in let s = g.R.Register.signatures c.args.register.now in let accepts = g.J.Judge.accepts c.args.judge.now in
    let bytes = c.args.bytes.now in let words = c.args.words.now in
    let since = ToldSince g.T.Taker.told g.T.Taker.since c.args.taker.now in let before = since c.start.new.self in let after = since c.parse_next.new.taker in
    first_told names s accepts g.T.Taker.refuses before after bytes words c.requires.room (c.start.ensures.line, c.start.ensures.since) c.in_ok-next.next (subst (NextTold names s accepts g.T.Taker.refuses before after bytes words 0) c.in_ok-next.was (c.parse_next.ensures.next c.args.taker.now))

pub returns-in_err-next-2-clause-all : goal.returns-in_err-next-2-clause-all
returns-in_err-next-2-clause-all g c =
    let names = g.R.Register.names c.args.register.now in let s = g.R.Register.signatures c.args.register.now in let accepts = g.J.Judge.accepts c.args.judge.now in
    let bytes = c.args.bytes.now in let words = c.args.words.now in
    let since = ToldSince g.T.Taker.told g.T.Taker.since c.args.taker.now in let before = since c.loop-next.taker in let after = since c.parse_next-in-loop-next.new.taker in
    let p = err_from_is_err_and c.from_residual-in_err-next-2.result c.from_residual-in_err-next-2.ensures.1 in
    subst (AllTold names s accepts g.T.Taker.refuses after bytes (texts_at bytes words)) (sym (p.1 ∙ ap Err p.2))
    (next_fails names s accepts g.T.Taker.refuses before after bytes words (Unit {0}) after c.loop-next.next _ c.loop-next-test.true c.loop-next.invariant (subst (NextTold names s accepts g.T.Taker.refuses before after bytes words c.loop-next.next) c.in_err-next-2.was (c.parse_next-in-loop-next.ensures.next c.args.taker.now)))

pub loop-next-preserved : goal.loop-next-preserved
loop-next-preserved g c =
    let names = g.R.Register.names c.args.register.now in let s = g.R.Register.signatures c.args.register.now in let accepts = g.J.Judge.accepts c.args.judge.now in
    let bytes = c.args.bytes.now in let words = c.args.words.now in
    let since = ToldSince g.T.Taker.told g.T.Taker.since c.args.taker.now in let before = since c.loop-next.taker in let after = since c.parse_next-in-loop-next.new.taker in
    next_told names s accepts g.T.Taker.refuses before after bytes words c.loop-next.next c.in_ok-next-2.next c.loop-next-test.true c.loop-next.invariant (subst (NextTold names s accepts g.T.Taker.refuses before after bytes words c.loop-next.next) c.in_ok-next-2.was (c.parse_next-in-loop-next.ensures.next c.args.taker.now))

pub returns-clause-all : goal.returns-clause-all
returns-clause-all g c =
    let names = g.R.Register.names c.args.register.now in let s = g.R.Register.signatures c.args.register.now in let accepts = g.J.Judge.accepts c.args.judge.now in
    let bytes = c.args.bytes.now in let words = c.args.words.now in
    let told = ToldSince g.T.Taker.told g.T.Taker.since c.args.taker.now c.loop-next.taker in
    all_told names s accepts g.T.Taker.refuses told told bytes words (tt {0}) c.loop-next.next (λ h. omega (arith, c.loop-next-test.false)) c.loop-next.invariant

pub loop-next-smaller : goal.loop-next-smaller
loop-next-smaller g c =
    let names = g.R.Register.names c.args.register.now in let s = g.R.Register.signatures c.args.register.now in let accepts = g.J.Judge.accepts c.args.judge.now in
    let bytes = c.args.bytes.now in let words = c.args.words.now in
    let since = ToldSince g.T.Taker.told g.T.Taker.since c.args.taker.now in let before = since c.loop-next.taker in let after = since c.parse_next-in-loop-next.new.taker in
    let told : NextTold names s accepts g.T.Taker.refuses before after bytes words c.loop-next.next (Ok c.in_ok-next-2.next) = subst (NextTold names s accepts g.T.Taker.refuses before after bytes words c.loop-next.next) c.in_ok-next-2.was (c.parse_next-in-loop-next.ensures.next c.args.taker.now) in
    let order = told.2 [] in let further = order.further c.loop-next-test.true in let within = order.within in
    omega arith
