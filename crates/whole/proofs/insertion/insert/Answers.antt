use Rattle.std.proofs.Common.{◌≡◌, ◌+◌, ◌≤◌, MatchOption, take, refl, sym, ◌∙◌, subst, arith}
use Rattle.std.proofs.lemmas.List.{length-take-le}
use Rattle.table.specs.Order.{Key, Between, Searched}
use Rattle.whole.specs.Places.{Among}
use Rattle.whole.specs.Inserted.{Inserted}
use Rattle.whole.proofs.Placing.{stands_already, goes_between, turned_inserted}
use Rattle.whole.proofs.insertion.insert.Goals as goal

pub returns-in_err-place : goal.returns-in_err-place
returns-in_err-place g c =
    let key : g.row.T.Denot → Key = g.T.Ranked.keyed c.args.image.now in
    let n = c.args.filled in let xs = c.args.rows.now in
    let searched : Searched key (take n xs) (key c.args.row) c.search_back.result = subst (λ k. Searched key (take n xs) k c.search_back.result) c.key.ensures c.search_back.ensures in
    subst (λ r. MatchOption r (Among (λ x. key x ≡ key c.args.row) (take n xs)) (λ more. (more ≡ n + 1) × Inserted key xs n c.args.row xs)) (sym c.from_residual.ensures)
    (stands_already key (take n xs) (key c.args.row) c.search_back.result searched (sym c.err.ensures.value ∙ c.in_err-place.was))

pub returns : goal.returns
returns g c =
    let key : g.row.T.Denot → Key = g.T.Ranked.keyed c.args.image.now in
    let n = c.args.filled in let xs = c.args.rows.now in let p = c.in_ok-place.place in
    let searched : Searched key (take n xs) (key c.args.row) c.search_back.result = subst (λ k. Searched key (take n xs) k c.search_back.result) c.key.ensures c.search_back.ensures in
    let b : Between key (take n xs) (key c.args.row) p = goes_between key (take n xs) (key c.args.row) c.search_back.result p searched (sym c.err.ensures.value ∙ c.in_ok-place.was) in
    let w : p ≤ n = omega (arith, b.within, length-take-le n xs (omega arith)) in
    (refl, turned_inserted xs n p c.args.row c.requires.room w c.rotate_right.new.self c.rotate_right.ensures.after key c.requires.ascending b)
