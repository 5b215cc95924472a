use Rattle.std.proofs.Common.{refl}
use Rattle.records.specs.Records.{range_parts, parts_of_range}
use Rattle.records.specs.TreeRows.{gauge_at}
use Rattle.format.specs.Format.{both}
use Rattle.format.proofs.Towards.{begin, through, stopped, finished, stopped_last}
use Rattle.records.proofs.patterns.read_gauge.Goals as goal

pub returns-in_err-low : goal.returns-in_err-low
returns-in_err-low c =
    let t = begin range_parts c.args.cursor.now in
    stopped _ _ t c.read_number.ensures parts_of_range gauge_at c.in_err-low.was c.from_residual.ensures.1

pub returns-in_err-high : goal.returns-in_err-high
returns-in_err-high c =
    let t = begin range_parts c.args.cursor.now in
    let t = through _ _ t c.read_number.ensures _ c.in_ok-low.was in
    stopped_last t c.read_high.ensures parts_of_range gauge_at c.in_err-high.was c.from_residual-in_err-high.ensures.1

pub returns : goal.returns
unfolding both
returns c =
    let t = begin range_parts c.args.cursor.now in
    let t = through _ _ t c.read_number.ensures _ c.in_ok-low.was in
    finished t c.read_high.ensures parts_of_range gauge_at _ _ c.in_ok-high.was refl
