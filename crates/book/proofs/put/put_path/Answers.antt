use Rattle.std.proofs.Common.{◌≡◌, ◌+◌, ◌-◌, ◌∷◌, ◌++◌, [], length, take, drop, replicate, sym, ap, ◌∙◌, arith, length-drop}
use Rattle.std.proofs.lemmas.List.{length-take, take_all, take_more_set, replicate-append-replicate}
use Rattle.std.proofs.lemmas.Slice.{take-put_mid}
use Rattle.reading.specs.declared.role.Role.{Role}
use Rattle.reading.specs.declared.role.Role.TheVariants.{PathWord}
use Rattle.book.proofs.Puts.{repeated_is}
use Rattle.book.proofs.put.put_path.Goals as goal

pub returns-clause-front : goal.returns-clause-front
returns-clause-front c =
    let at = c.args.at in let count = c.args.count in let table = c.args.table.now in
    let rows = c.loop-role.role-items in
    let long : length (take (at + count - at) (drop at table)) ≡ count = omega (arith, length-take {A = Role}, length-drop {A = Role}) in
    let i : c.loop-role.role-index ≡ count = omega arith in
    let same : rows ≡ replicate count PathWord = sym (take_all c.loop-role.role-index rows (omega arith)) ∙ c.loop-role.invariant ∙ ap (λ n. replicate n PathWord) i in
    take-put_mid at (at + count - at) table rows (at + count) (omega arith) (omega arith)
    ∙ ap (λ l. take at table ++ l) (same ∙ repeated_is count PathWord)
