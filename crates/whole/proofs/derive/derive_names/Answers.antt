use Rattle.std.proofs.Common.{map, sym, ◌∙◌, subst}
use Rattle.tree.specs.Rows.{recipe_at}
use Rattle.whole.specs.Derived.{NamesListed, NamesDerived}
use Rattle.whole.proofs.Answering.{both_listed, one_shared}
use Rattle.whole.proofs.derive.derive_names.Goals as goal

pub returns-in_err-join-clause-answer : goal.returns-in_err-join-clause-answer
returns-in_err-join-clause-answer c =
    let image = c.args.image.now in let longs = c.args.longs.now in let letters = c.args.letters.now in
    let long = c.list_all-long in let letter = c.list_all-letter in
    subst (λ rs. NamesDerived image (map (recipe_at image) rs) longs letters c.from_residual.result long.new.rows letter.new.rows) c.front-filled.ensures
    (one_shared (map (recipe_at image) c.front-filled.result.now) image longs long.new.rows letters letter.new.rows long.auto.rows letter.auto.rows long.result letter.result long.ensures letter.ensures
    c.in_err-join.field-0.0 (sym c.join.ensures ∙ c.in_err-join.was) c.from_residual.result c.from_residual.ensures.1)

pub returns-clause-answer : goal.returns-clause-answer
returns-clause-answer c =
    let image = c.args.image.now in let longs = c.args.longs.now in let letters = c.args.letters.now in
    let long = c.list_all-long in let letter = c.list_all-letter in
    subst (λ rs. NamesListed image (map (recipe_at image) rs) longs letters c.in_ok-join.field-0 long.new.rows letter.new.rows) c.front-filled.ensures
    (both_listed (map (recipe_at image) c.front-filled.result.now) image longs long.new.rows letters letter.new.rows long.auto.rows letter.auto.rows long.result letter.result long.ensures letter.ensures
    c.in_ok-join.field-0 (sym c.join.ensures ∙ c.in_ok-join.was))
