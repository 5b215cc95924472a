use Rattle.std.proofs.Common.{◌≡◌, sym, ap, ◌∙◌, subst, arith}
use Rattle.table.specs.Order.{ranked}
use Rattle.table.proofs.Sides.{LargerFrom, none_smaller, none_larger, too_small, too_large, just_right, both_sides}
use Rattle.table.proofs.search.Table.search.Goals as goal

pub loop-low-init : goal.loop-low-init
loop-low-init g c =
    let s = c.args.self.now in let key = g.T.Ranked.keyed s.image.now in let k = g.K.Parts.parts c.args.key in
    (omega arith, omega arith, none_smaller key s.rows.now k, none_larger key s.rows.now k)

pub loop-low-preserved-in-Less : goal.loop-low-preserved-in-Less
loop-low-preserved-in-Less g c =
    let s = c.args.self.now in let key = g.T.Ranked.keyed s.image.now in let k = g.K.Parts.parts c.args.key in
    let inv = c.loop-low.invariant in let more = c.loop-low-test.true in
    (omega arith, omega arith, too_small key s.rows.now k s.ascends _ (omega arith) c.index-self-mid.result c.index-self-mid.is (c.in-Less.ensures ∙ ap (λ y. ranked (key y) k) (sym c.index-self-mid.is)), inv.3)

pub returns-in-Equal : goal.returns-in-Equal
returns-in-Equal g c =
    let s = c.args.self.now in let key = g.T.Ranked.keyed s.image.now in let k = g.K.Parts.parts c.args.key in
    let inv = c.loop-low.invariant in let more = c.loop-low-test.true in
    just_right key s.rows.now k s.ascends _ (omega arith) c.index-self-mid.result c.index-self-mid.is (c.in-Equal.ensures ∙ ap (λ y. ranked (key y) k) (sym c.index-self-mid.is))

pub loop-low-preserved : goal.loop-low-preserved
loop-low-preserved g c =
    let s = c.args.self.now in let key = g.T.Ranked.keyed s.image.now in let k = g.K.Parts.parts c.args.key in
    let inv = c.loop-low.invariant in let more = c.loop-low-test.true in
    (omega arith, omega arith, inv.2, too_large key s.rows.now k s.ascends _ (omega arith) c.index-self-mid.result c.index-self-mid.is (c.in-Greater.ensures ∙ ap (λ y. ranked (key y) k) (sym c.index-self-mid.is)))

pub returns : goal.returns
returns g c =
    let s = c.args.self.now in let key = g.T.Ranked.keyed s.image.now in let k = g.K.Parts.parts c.args.key in
    let inv = c.loop-low.invariant in
    let ends : c.loop-low.high ≡ c.loop-low.low = omega (arith, c.loop-low-test.false) in
    both_sides key s.rows.now k c.loop-low.low (omega arith) inv.2 (subst (LargerFrom key s.rows.now k) ends inv.3)
