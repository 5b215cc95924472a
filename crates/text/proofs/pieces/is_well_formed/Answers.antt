use Rattle.std.proofs.Common.{rules, ◌≡◌, refl, ◌∙◌}
use Rattle.std.proofs.lemmas.Bool.Decides.{Decides-at}
use Rattle.std.proofs.lemmas.Iterator.Consumers.{YieldsList-from_first}
use Rattle.std.proofs.lemmas.Iterator.Search.{all_from_yields_List}
use Rattle.text.specs.Identifier.{identifier}
use Rattle.text.specs.Pieces.{split, well_formed}
use Rattle.text.specs.Left.{pieces_left}
use Rattle.text.proofs.Splits.{all_formed}
use Rattle.text.proofs.Joins.{formed_decides}
use Rattle.text.proofs.pieces.is_well_formed.Goals as goal

pub returns : goal.returns
returns c =
    let w = c.args.word.now in
    let e : c.all.result ≡ well_formed w =
    all_from_yields_List identifier c.all.new.self _ _ c.all.ensures.ran (YieldsList-from_first (λ piece. piece.now) pieces_left (split w) refl) (λ x b q k. search rules) ∙ all_formed w in
    record { value = e; means = Decides-at _ _ e (formed_decides w) }
