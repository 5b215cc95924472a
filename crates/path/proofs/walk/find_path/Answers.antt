use Rattle.std.proofs.Common.{sym}
use Rattle.text.specs.Spans.{texts_at}
use Rattle.path.specs.Path.{Gives}
use Rattle.path.specs.Steps.{of_words}
use Rattle.path.proofs.Theorem.{gives_answer, the_only}
use Rattle.path.proofs.Firsts.{no_first, plain_first, colon_first}
use Rattle.path.proofs.Follows.{answer_takes}
use Rattle.path.proofs.walk.find_path.Goals as goal
use Rattle.path.proofs.walk.find_path.Goals.{in-Some+else-has_colon, in_default}

pub returns-then-has_colon : goal.returns-then-has_colon
returns-then-has_colon g c =
    let names = g.R.Register.names c.args.register.now in let bytes = c.args.bytes.now in let words = c.args.words.now in
    let h = colon_first bytes names c.text_path.result words c.in-Some.rest.now c.in-Some.first.now c.text_at-word.result.now c.meant.result.now c.in-Some.ensures.cases.0 c.text_at-word.ensures (sym c.if-has_colon.ensures) (c.meant.ensures bytes) c.text_path.ensures in
    record { answer = the_only names (texts_at bytes words) c.text_path.result h; takes = answer_takes names bytes words c.text_path.result h }

pub returns : goal.returns
returns g c =
    let names = g.R.Register.names c.args.register.now in let bytes = c.args.bytes.now in let words = c.args.words.now in
    let gives : Gives (texts_at bytes words) (of_words (texts_at bytes words)) = elim c.match-split_first.branch [
      | in-Some+else-has_colon w ↦ plain_first bytes words w.in-Some.rest.now w.in-Some.first.now w.text_at-word.result.now w.in-Some.ensures.cases.0 w.text_at-word.ensures (sym w.if-has_colon.ensures)
      | in_default w ↦ no_first bytes words w.in_default.ensures.cases
    ] in
    let h = gives_answer names gives c.walk_words.result c.walk_words.ensures in
    record { answer = the_only names (texts_at bytes words) c.walk_words.result h; takes = answer_takes names bytes words c.walk_words.result h }
