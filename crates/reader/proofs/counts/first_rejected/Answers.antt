use Rattle.std.proofs.Common.{rules, tests, ◌≡◌, ◌∙◌, eqb, not, ◌&&◌, ap}
use Rattle.std.specs.Option.{option_map}
use Rattle.std.proofs.lemmas.Iterator.{YieldsList-from_slice}
use Rattle.std.proofs.lemmas.Iterator.Search.{find_from_yields_List}
use Rattle.reader.specs.Meaning.{source_text}
use Rattle.reader.specs.declared.source.ValueRow.{ValueRow}
use Rattle.reader.proofs.Rows.{first_rejected_is}
use Rattle.reader.proofs.counts.first_rejected.Goals as goal

pub returns : goal.returns
returns g c =
    let accepts = g.J.Judge.accepts c.args.judge.now c.args.pattern in
    let rejected = λ (row : ValueRow). eqb row.parameter c.args.parameter && not (accepts (source_text c.args.bytes.now row.source)) in
    let e = find_from_yields_List rejected _ _ c.find.result c.find.ensures.ran (YieldsList-from_slice c.args.rows.now cc) (λ x b q k. search (rules, tests)) in
    let m : c.map.result ≡ option_map (λ (row : ValueRow). row.word) (option_map (λ x. x.now) c.find.result) = search rules in
    m ∙ ap (option_map (λ (row : ValueRow). row.word)) e ∙ first_rejected_is accepts c.args.bytes.now c.args.parameter c.args.rows.now
