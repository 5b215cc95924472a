use Rattle.std.proofs.Common.{ℕ, false, List, subst}
use Rattle.text.specs.Lines.{words_of}
use Rattle.reader.specs.Rest.{LineTold}
use Rattle.book.specs.Holds.{Holds}
use Rattle.book.proofs.Keeping.{reads, rows}
use Rattle.book.proofs.read.read_line.Goals as goal

pub returns : goal.returns
returns g c =
    let names = g.R.Register.names c.args.register.now in let s = g.R.Register.signatures c.args.register.now in let accepts = g.J.Judge.accepts c.args.judge.now in
    let line = c.in_ok-line.line in let book = c.parse_invocations.new.taker in
    let cut = c.in_ok-line.ensures in
    let told = subst (λ (b : List ℕ). LineTold names s accepts (λ _. false) (Holds book) b (words_of line) c.parse_invocations.result) cut.0 c.parse_invocations.ensures.line in
    record {
      reads = reads names s accepts c.args.line.now (words_of line) book cut.1 c.parse_invocations.result told;
      rows = rows names s accepts c.args.line.now (words_of line) book cut.1 c.parse_invocations.result told;
    }
