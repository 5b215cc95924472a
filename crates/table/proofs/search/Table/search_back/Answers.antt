use Rattle.std.proofs.Common.{◌≡◌, ◌+◌, ◌-◌, sym, ap, ◌∙◌, subst, arith}
use Rattle.table.specs.Order.{ranked}
use Rattle.table.proofs.Sides.{SmallerTo, LargerFrom, none_smaller, none_larger, too_small, too_large, just_right, both_sides}
use Rattle.table.proofs.search.Table.search_back.Goals as goal

pub loop-place-init : goal.loop-place-init
loop-place-init g c =
    let s = c.args.self.now in let key = g.T.Ranked.keyed s.image.now in let k = g.K.Parts.parts c.args.key in
    (omega arith, none_larger key s.rows.now k)

pub returns-in-Less : goal.returns-in-Less
returns-in-Less g c =
    let s = c.args.self.now in let key = g.T.Ranked.keyed s.image.now in let k = g.K.Parts.parts c.args.key in
    let place = c.loop-place.place in let within = c.loop-place.invariant.0 in let some = c.loop-place-test.true in
    let smaller = too_small key s.rows.now k s.ascends (place - 1) (omega arith) c.index-self-place.result c.index-self-place.is (c.in-Less.ensures ∙ ap (λ y. ranked (key y) k) (sym c.index-self-place.is)) in
    both_sides key s.rows.now k place within (subst (SmallerTo key s.rows.now k) (let e : place - 1 + 1 ≡ place = omega arith in e) smaller) c.loop-place.invariant.1

pub returns-in-Equal : goal.returns-in-Equal
returns-in-Equal g c =
    let s = c.args.self.now in let key = g.T.Ranked.keyed s.image.now in let k = g.K.Parts.parts c.args.key in
    let within = c.loop-place.invariant.0 in let some = c.loop-place-test.true in
    just_right key s.rows.now k s.ascends (c.loop-place.place - 1) (omega arith) c.index-self-place.result c.index-self-place.is (c.in-Equal.ensures ∙ ap (λ y. ranked (key y) k) (sym c.index-self-place.is))

pub loop-place-preserved : goal.loop-place-preserved
loop-place-preserved g c =
    let s = c.args.self.now in let key = g.T.Ranked.keyed s.image.now in let k = g.K.Parts.parts c.args.key in
    let within = c.loop-place.invariant.0 in let some = c.loop-place-test.true in
    (omega arith, too_large key s.rows.now k s.ascends (c.loop-place.place - 1) (omega arith) c.index-self-place.result c.index-self-place.is (c.in-Greater.ensures ∙ ap (λ y. ranked (key y) k) (sym c.index-self-place.is)))

pub returns : goal.returns
returns g c =
    let s = c.args.self.now in let key = g.T.Ranked.keyed s.image.now in let k = g.K.Parts.parts c.args.key in
    let none : c.loop-place.place ≡ 0 = omega (arith, c.loop-place-test.false) in
    both_sides key s.rows.now k 0 (omega arith) (none_smaller key s.rows.now k) (subst (LargerFrom key s.rows.now k) none c.loop-place.invariant.1)
