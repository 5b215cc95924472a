use Rattle.std.proofs.Common.{ℕ, List, length, sym, ap, ◌∙◌, subst, arith}
use Rattle.std.proofs.lemmas.List.{length-map}
use Rattle.text.specs.Identifier.{Text}
use Rattle.text.specs.Line.{closed}
use Rattle.text.specs.Lines.{bytes_of, words_of}
use Rattle.text.specs.Spans.{text_at, texts_at}
use Rattle.reader.specs.Told.{ToldSince}
use Rattle.reader.specs.Rest.{AllTold}
use Rattle.reader.proofs.Turns.{told_alone, line_told, each_told}
use Rattle.reader.proofs.invocation_parser.InvocationParser.parse_invocations.Goals as goal

pub parse_all-requires : goal.parse_all-requires
parse_all-requires g c =
    let line = c.args.line.now in
    let same = ap (λ (b : List ℕ). texts_at b c.words-words.result.now) c.bytes-bytes.ensures ∙ c.words-words.ensures.value in
    let l = ap (λ (ws : List Text). length (closed ws)) same ∙ ap length c.words-words.ensures.within.cut.whole in
    let n = sym (length-map c.words-words.result.now (text_at c.bytes-bytes.result.now)) ∙ ap length same in
    let b = ap length c.bytes-bytes.ensures in
    let short = c.words-words.ensures.within.short in let few = c.words-words.ensures.within.few in
    record { size = omega arith; room = omega arith; few = omega arith }

pub returns : goal.returns
returns g c =
    let line = c.args.line.now in
    let names = g.R.Register.names c.args.register.now in let s = g.R.Register.signatures c.args.register.now in let accepts = g.J.Judge.accepts c.args.judge.now in
    let same = ap (λ (b : List ℕ). texts_at b c.words-words.result.now) c.bytes-bytes.ensures ∙ c.words-words.ensures.value in
    let told = g.T.Taker.told c.parse_all.new.taker in let since = g.T.Taker.since c.args.taker.now c.parse_all.new.taker in
    let both = ToldSince g.T.Taker.told g.T.Taker.since c.args.taker.now c.parse_all.new.taker in
    let all = subst (λ (ws : List Text). AllTold names s accepts g.T.Taker.refuses both (bytes_of line) ws c.parse_all.result) same
    (subst (λ (b : List ℕ). AllTold names s accepts g.T.Taker.refuses both b (texts_at c.bytes-bytes.result.now c.words-words.result.now) c.parse_all.result) c.bytes-bytes.ensures c.parse_all.ensures.all) in
    record {
      since = c.parse_all.ensures.since;
      line = line_told names s accepts g.T.Taker.refuses told (bytes_of line) (words_of line) c.parse_all.result (told_alone names s accepts g.T.Taker.refuses told since (bytes_of line) (words_of line) c.parse_all.result all);
      each = λ never. each_told names s accepts g.T.Taker.refuses both (bytes_of line) (words_of line) c.parse_all.result never all;
    }
