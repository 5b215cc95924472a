use Rattle.std.proofs.Common.{map, get_or, refl, sym, arith}
use Rattle.std.proofs.lemmas.List.{length-map, get_or-map}
use Rattle.tree.specs.Rows.{recipe_at}
use Rattle.whole.specs.Entries.{AllFilled}
use Rattle.whole.proofs.Stepping.{gone_fresh, gone_told, gone_on}
use Rattle.whole.proofs.derive.list_all.Goals as goal

pub list_recipe-requires : goal.list_recipe-requires
list_recipe-requires g c κ =
    let f = recipe_at c.args.image.now in let rs = c.args.recipes.now in (
      (refl, tt),
      (
        omega (arith, c.loop-recipe.invariant.most, c.loop-recipe.invariant.long, c.requires.room),
        (
          c.loop-recipe.invariant.holds.ascending,
          gone_fresh (g.T.Listing.said c.args.image.now) g.T.Listing.name (map f rs) c.args.rows.now c.loop-recipe.recipe c.loop-recipe.filled c.loop-recipe.rows c.loop-recipe.invariant (omega (arith, length-map rs f)),
        ),
      ),
    )

pub returns-in_err-filled : goal.returns-in_err-filled
returns-in_err-filled g c =
    let image = c.args.image.now in let f = recipe_at image in let rs = c.args.recipes.now in let n = c.loop-recipe.recipe in
    let said = g.T.Listing.said image in let name = g.T.Listing.name in
    gone_told said name (map f rs) c.args.rows.now n c.loop-recipe.filled c.loop-recipe.rows c.loop-recipe.invariant
    (f (get_or rs n _)) (omega (arith, length-map rs f)) (get_or-map f rs n _ _ c.loop-recipe-test.true) c.list_recipe.result c.list_recipe.new.rows c.list_recipe.ensures
    (record { recipe = n }) c.in_err-filled.field-0.0 refl (sym c.in_err-filled.ensures.value) (λ m. AllFilled said name (map f rs) c.args.rows.now m c.list_recipe.new.rows) c.from_residual.result c.from_residual.ensures.1

pub loop-recipe-preserved : goal.loop-recipe-preserved
loop-recipe-preserved g c =
    let image = c.args.image.now in let f = recipe_at image in let rs = c.args.recipes.now in let n = c.loop-recipe.recipe in
    let said = g.T.Listing.said image in let name = g.T.Listing.name in
    gone_on said name (map f rs) c.args.rows.now n c.loop-recipe.filled c.loop-recipe.rows c.loop-recipe.invariant
    (f (get_or rs n _)) (omega (arith, length-map rs f)) (get_or-map f rs n _ _ c.loop-recipe-test.true) c.list_recipe.result c.list_recipe.new.rows c.list_recipe.ensures
    (record { recipe = n }) c.in_ok-filled.filled (sym c.in_ok-filled.ensures.value) c.list_recipe.auto.rows
