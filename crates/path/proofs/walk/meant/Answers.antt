use Rattle.std.proofs.Common.{length, sym}
use Rattle.std.proofs.lemmas.Bool.{eqb-true, eqb-false}
use Rattle.path.proofs.Firsts.{meant_last, meant_mid}
use Rattle.path.proofs.walk.meant.Goals as goal

pub returns-then-is_empty : goal.returns-then-is_empty
returns-then-is_empty c = λ bytes. meant_last bytes c.args.rest.now (eqb-true (length c.args.rest.now) 0 (sym c.if-is_empty.ensures)) c.without_closing.ensures.means

pub returns-else-is_empty : goal.returns-else-is_empty
returns-else-is_empty c = λ bytes. meant_mid bytes c.args.rest.now (eqb-false (length c.args.rest.now) 0 (sym c.if-is_empty.ensures))
