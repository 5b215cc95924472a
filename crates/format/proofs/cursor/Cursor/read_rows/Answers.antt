use Rattle.std.proofs.Common.{arith, rules}
use Rattle.format.proofs.Towards.{was}
use Rattle.format.proofs.Filling.{none_yet, one_more, all_read, one_refused}
use Rattle.format.proofs.cursor.Cursor.read_rows.Goals as goal

pub loop-row-init : goal.loop-row-init
loop-row-init g c = none_yet _ c.args.rows.now c.args.self.now

pub returns-in_err-value-clause-fills : goal.returns-in_err-value-clause-fills
returns-in_err-value-clause-fills g c = one_refused c.loop-row.invariant c.row-item.result c.in_err-value.field-0.0 c.read.new.arg2 _ (omega arith) (search rules) (was _ _ c.from_residual.ensures.1)

pub loop-row-preserved : goal.loop-row-preserved
loop-row-preserved g c = one_more c.loop-row.invariant c.in_ok-value.value c.read.new.arg2 (omega arith) (search rules)

pub returns-clause-fills : goal.returns-clause-fills
returns-clause-fills g c = all_read c.loop-row.invariant (omega arith)
