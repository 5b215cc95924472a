use Rattle.std.proofs.Common.{◌≡◌, ◌++◌, map, take, vec_items}
use Rattle.script.specs.Call.{typed_as}
use Rattle.script.proofs.call.push_typed.Given as goal

abbrev pub invariant-loop-b : goal.invariant-loop-b
invariant-loop-b l = vec_items l.line ≡ vec_items l.initial.line ++ map typed_as (take l.b-index l.text)
