use Rattle.std.proofs.Common.{◌≡◌, replicate, take}
use Rattle.reading.specs.declared.role.Role.TheVariants.{PathWord}
use Rattle.book.proofs.put.put_path.Given as goal

abbrev pub invariant-loop-role : goal.invariant-loop-role
invariant-loop-role l = take l.role-index l.role-items ≡ replicate l.role-index PathWord
