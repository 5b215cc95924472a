use Rattle.std.proofs.Common.{map, get_or, sym, subst, MatchOption, arith}
use Rattle.std.proofs.lemmas.List.{length-map, get_or-map}
use Rattle.tree.specs.Rows.{parameter_at, recipe_at}
use Rattle.whole.specs.Shared.{Distinct}
use Rattle.whole.specs.Entries.{RecipeFilled}
use Rattle.whole.proofs.Stepping.{far_twice, far_more}
use Rattle.whole.proofs.derive.list_recipe.Goals as goal

pub returns-in_err-listed : goal.returns-in_err-listed
returns-in_err-listed g c =
    let f = parameter_at c.args.image.now in let ps = c.parameters_of-parameters.result.now in let i = c.loop-place.place in
    let said = g.T.Listing.said c.args.image.now in let name = g.T.Listing.name in let listed = c.loop-place.listed in
    subst (λ r. MatchOption r (Distinct name (recipe_at c.args.image.now c.args.recipe.now) → ⊥) (λ m. RecipeFilled said name c.args.number (recipe_at c.args.image.now c.args.recipe.now) c.args.rows.now c.args.filled m c.list_parameter.new.rows)) (sym c.from_residual.ensures)
    (subst (λ xs. Distinct name (map f xs) → ⊥) c.parameters_of-parameters.ensures.value
    (far_twice said name c.args.number (map f ps) c.args.rows.now c.args.filled i listed c.loop-place.rows c.loop-place.invariant
    (f (get_or ps i _)) (omega (arith, length-map ps f)) (get_or-map f ps i _ _ c.loop-place-test.true) c.requires.fresh c.in_err-listed.ensures))

pub loop-place-preserved : goal.loop-place-preserved
loop-place-preserved g c =
    let f = parameter_at c.args.image.now in let ps = c.parameters_of-parameters.result.now in let i = c.loop-place.place in
    let said = g.T.Listing.said c.args.image.now in let name = g.T.Listing.name in let listed = c.loop-place.listed in
    far_more said name c.args.number (map f ps) c.args.rows.now c.args.filled i listed c.loop-place.rows c.loop-place.invariant
    (f (get_or ps i _)) (omega (arith, length-map ps f)) (get_or-map f ps i _ _ c.loop-place-test.true) c.in_ok-listed.listed c.list_parameter.new.rows c.list_parameter.auto.rows c.in_ok-listed.ensures
