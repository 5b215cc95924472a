use Rattle.std.proofs.Common.{rules, refl}
use Rattle.std.proofs.lemmas.Iterator.{YieldsList-from_slice, YieldsList-from_map_by}
use Rattle.std.proofs.lemmas.Iterator.Consumers.{YieldsList-at, YieldsList-from_enumerate}
use Rattle.path.specs.Names.{name_of}
use Rattle.path.proofs.WordSteps.{name_at, words_names}
use Rattle.path.proofs.walk.walk_words.Goals as goal

pub walk-requires : goal.walk-requires
walk-requires g c =
    let bytes = c.args.bytes.now in let words = c.args.words.now in
    let spans = YieldsList-from_slice words c.iter.ensures.rest in
    let numbered = YieldsList-from_enumerate (YieldsList-at c.enumerate.ensures.source spans) c.enumerate.ensures.count in
    λ k. ((refl, tt), (((tt, tt, search rules), search rules), (tt, (_, words_names bytes words (YieldsList-from_map_by _ name_of (name_at bytes) (YieldsList-at c.map-names.ensures.source numbered) c.map-names.ensures.closure (λ x r q post. search rules))))))

pub returns : goal.returns
returns g c =
    let bytes = c.args.bytes.now in let words = c.args.words.now in
    let spans = YieldsList-from_slice words c.iter.ensures.rest in
    let numbered = YieldsList-from_enumerate (YieldsList-at c.enumerate.ensures.source spans) c.enumerate.ensures.count in
    c.walk.ensures _ (words_names bytes words (YieldsList-from_map_by _ name_of (name_at bytes) (YieldsList-at c.map-names.ensures.source numbered) c.map-names.ensures.closure (λ x r q post. search rules)))
