use Rattle.std.proofs.Common.{◌≡◌, ◌∙◌, rules}
use Rattle.std.specs.Option.{option_map}
use Rattle.tree_register.proofs.LookUps.{letter_found}
use Rattle.tree_register.proofs.table_register.TableRegister.letter_place.Goals as goal

pub returns : goal.returns
returns c =
    let s = c.args.self.now in
    let place : c.map.result ≡ option_map (λ row. row.place) (option_map (λ x. x.now) c.find-row.result) = search rules in
    place ∙ letter_found s.image.now s.recipes.now s.longs.now s.letters.now s.longs_ascend s.longs_told s.letters_ascend s.letters_told c.args.recipe s.letters_right c.args.letter (option_map (λ x. x.now) c.find-row.result) c.find-row.ensures
