use Rattle.std.proofs.Common.{length}
use Rattle.text.specs.Utf8.{Utf8}
use Rattle.text.proofs.utf8.is_utf8.Given as goal

-- what is left is UTF-8 exactly when the whole is
abbrev pub invariant-loop-len : goal.invariant-loop-len
invariant-loop-len l = (Utf8 l.rest → Utf8 l.bytes) × (Utf8 l.bytes → Utf8 l.rest)

abbrev pub decreases-loop-len : goal.decreases-loop-len
decreases-loop-len l = length l.rest
