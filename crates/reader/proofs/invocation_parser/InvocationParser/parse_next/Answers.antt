use Rattle.std.proofs.Common.{rules, ◌≡◌, ◌+◌, ◌<◌, ◌^◌, ◌-◌, List, length, take, drop, Ok, Err, sym, ap, ◌∙◌, subst, inr, arith, length-drop}
use Rattle.std.proofs.lemmas.List.{take_rest, length-map}
use Rattle.std.proofs.lemmas.Result.{err_from_is_err_and}
use Rattle.refusal.specs.Shift.{shifted_by}
use Rattle.refusal.specs.Told.{told_of}
use Rattle.text.specs.Line.{closed}
use Rattle.text.specs.Spans.{text_at, texts_at}
use Rattle.text.specs.declared.span.Span.{Span}
use Rattle.path.proofs.Model.{path_of}
use Rattle.path.proofs.Theorem.{answer_does}
use Rattle.path.proofs.Follows.{lawful_takes}
use Rattle.reading.specs.Model.{line_from}
use Rattle.reader.specs.Orders.{OrderedBy, ParsedWithin}
use Rattle.reader.specs.Told.{ToldSince}
use Rattle.reader.specs.Rest.{NextTold}
use Rattle.reader.proofs.OrderSteps.{closed-drop}
use Rattle.reader.proofs.LineSteps.{turn_told, turn_fails}
use Rattle.reader.proofs.Telling.{refuses_in, fits, up_to}
use Rattle.reader.proofs.Mapped.{mapped_ok, mapped_err}
use Rattle.reader.proofs.invocation_parser.InvocationParser.parse_next.Goals as goal

pub parse_invocation-requires : goal.parse_invocation-requires
parse_invocation-requires g c =
    let bytes = c.args.bytes.now in let words = c.args.words.now in let first = c.args.first in
    let part = take_rest words first in
    let l = ap length part ∙ length-drop first words in
    let b = ap (λ (x : List Span). length (closed (texts_at bytes x))) part in
    let d = closed-drop first bytes words in
    record { room = omega arith; few = omega arith }

pub returns-in_err-path-clause-next : goal.returns-in_err-path-clause-next
returns-in_err-path-clause-next g c before =
    let s = g.R.Register.signatures c.args.register.now in let names = g.R.Register.names c.args.register.now in let accepts = g.J.Judge.accepts c.args.judge.now in
    let bytes = c.args.bytes.now in let words = c.args.words.now in let first = c.args.first in
    let slice = take (length words - first) (drop first words) in let part = take_rest words first in
    let h = mapped_err c.parse_invocation.result c.map_err.result _ c.in_err-path.field-0.0 c.map_err.ensures.cases c.in_err-path.was in
    let f = h.0 in let e = subst (λ r. OrderedBy names s accepts bytes slice r c.parse_invocation.new.self) h.1 c.parse_invocation.ensures.ordered in
    let ws = texts_at bytes slice in
    let word = refuses_in names s accepts ws (path_of names ws) (answer_does names ws) f (e (path_of names ws) (answer_does names ws)) in
    let many = length-map slice (text_at bytes) in let l = ap length part ∙ length-drop first words in
    let small : first + (told_of f).word < 2 ^ 64 = omega arith in
    let post = h.2 in
    let is : c.in_err-path.field-0.0 ≡ shifted_by first f = search rules in
    let p = err_from_is_err_and c.from_residual.result c.from_residual.ensures.1 in
    let told = ToldSince g.T.Taker.told g.T.Taker.since before c.args.taker.now in
    subst (NextTold names s accepts g.T.Taker.refuses told told bytes words first) (sym (p.1 ∙ ap Err p.2)) (inr (λ walk walks.
    ap Err is
    ∙ turn_fails names s accepts walk walks first ws f (e (walk ws) (walks ws))
    ∙ ap (λ (x : List Span). line_from walk s accepts first (texts_at bytes x)) part))

pub take-requires : goal.take-requires
take-requires g c =
    let s = g.R.Register.signatures c.args.register.now in let names = g.R.Register.names c.args.register.now in let accepts = g.J.Judge.accepts c.args.judge.now in
    let bytes = c.args.bytes.now in let words = c.args.words.now in let first = c.args.first in
    let slice = take (length words - first) (drop first words) in let part = take_rest words first in
    let path = c.in_ok-path.path in
    let is = mapped_ok c.parse_invocation.result c.map_err.result _ path c.map_err.ensures.cases c.in_ok-path.was in
    let ordered = subst (λ r. OrderedBy names s accepts bytes slice r c.parse_invocation.new.self) is c.parse_invocation.ensures.ordered in
    let within = subst (λ r. ParsedWithin names bytes slice r c.parse_invocation.new.self) is c.parse_invocation.ensures.within in
    let most = within.1 in let least = within.2 in let n = c.words-count.ensures in
    let takes = (lawful_takes names (texts_at bytes slice) path within.0).most in let many = length-map slice (text_at bytes) in
    (bytes, (c.requires.begun.0, c.requires.begun.1, fits s accepts bytes words slice first path c.parse_invocation.new.self c.words-count.result c.as_slice.result.now c.values.result.now part n c.as_slice.ensures.value c.values.ensures.value (omega arith) (omega arith) (ordered (Ok path) within.0) c.requires.begun.0 c.requires.begun.2 c.requires.few c.requires.start c.requires.early))

pub returns-clause-next : goal.returns-clause-next
returns-clause-next g c before =
    let s = g.R.Register.signatures c.args.register.now in let names = g.R.Register.names c.args.register.now in let accepts = g.J.Judge.accepts c.args.judge.now in
    let bytes = c.args.bytes.now in let words = c.args.words.now in let first = c.args.first in
    let slice = take (length words - first) (drop first words) in let part = take_rest words first in
    let path = c.in_ok-path.path in
    let is = mapped_ok c.parse_invocation.result c.map_err.result _ path c.map_err.ensures.cases c.in_ok-path.was in
    let ordered = subst (λ r. OrderedBy names s accepts bytes slice r c.parse_invocation.new.self) is c.parse_invocation.ensures.ordered in
    let within = subst (λ r. ParsedWithin names bytes slice r c.parse_invocation.new.self) is c.parse_invocation.ensures.within in
    let most = within.1 in let least = within.2 in let n = c.words-count.ensures in
    let takes = (lawful_takes names (texts_at bytes slice) path within.0).most in let many = length-map slice (text_at bytes) in
    let l = ap length part ∙ length-drop first words in (
      _,
      λ os h. (c.in_ok-take.ensures.took bytes os h.0, c.in_ok-take.ensures.since before os h.1),
      λ os. record {
        within = omega arith;
        further = λ h. let k = least (omega arith) in omega arith;
        fits = λ up. fits s accepts bytes words slice first path c.parse_invocation.new.self c.words-count.result c.as_slice.result.now c.values.result.now part n c.as_slice.ensures.value c.values.ensures.value (omega arith) (omega arith) (ordered (Ok path) within.0) os up c.requires.few c.requires.start c.requires.early;
        up_to = λ up h. up_to s accepts bytes words slice first path c.parse_invocation.new.self c.words-count.result c.as_slice.result.now c.values.result.now part n c.as_slice.ensures.value c.values.ensures.value (omega arith) (omega arith) (ordered (Ok path) within.0) os up (let k = least (omega arith) in omega arith);
        left = λ walk walks. turn_told names s accepts walk walks bytes words slice first os path c.parse_invocation.new.self c.words-count.result c.as_slice.result.now c.values.result.now part n c.as_slice.ensures.value c.values.ensures.value within.0 (ordered (walk (texts_at bytes slice)) (walks (texts_at bytes slice)));
      },
    )
