use Rattle.std.proofs.Common.{◌≡◌, [], take, ap, ◌∙◌, arith, rules}
use Rattle.std.proofs.lemmas.Grind.{common_steps}
use Rattle.std.proofs.lemmas.Option.{gets}
use Rattle.std.specs.List.{slice_get}
use Rattle.std.specs.Option.{option_map, unwrap_or}
use Rattle.text.specs.Spans.{texts_at}
use Rattle.judge.specs.Listed.{listed}
use Rattle.judges.proofs.Places.{texts_at_row}
use Rattle.judges.proofs.texts.spans_of.Goals as goal

pub returns : goal.returns
returns c = λ image text.
    let rows = c.args.patterns.now in
    let e : c.unwrap_or_default.result.now ≡ unwrap_or (option_map (λ x. take x.now.count x.now.texts) c.get.result) [] = search rules in
    let row : option_map (λ x. x.now) c.get.result ≡ slice_get rows c.args.pattern = grind (arith, common_steps, gets) in
    ap (λ spans. listed (texts_at image spans) text) e ∙ texts_at_row (λ x. x.now) image rows c.args.pattern text c.get.result row
