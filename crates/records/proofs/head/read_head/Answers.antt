use Rattle.std.proofs.Common.{refl}
use Rattle.std.proofs.lemmas.Result.{IfOk-from_err}
use Rattle.records.specs.Records.{head_parts, parts_of_head}
use Rattle.records.specs.TreeRows.{head_at}
use Rattle.format.specs.Format.{both}
use Rattle.format.proofs.Towards.{begin, through, stopped, ends, finished, stopped_last}
use Rattle.records.proofs.head.read_head.Goals as goal

pub returns-in_err-modules : goal.returns-in_err-modules
returns-in_err-modules c =
    let t = begin head_parts c.args.cursor.now in
    record {
      reads = stopped _ _ t c.read_within.ensures parts_of_head head_at c.in_err-modules.was c.from_residual.ensures.1;
      few = IfOk-from_err c.from_residual.result _ c.from_residual.ensures.0;
    }

pub returns-in_err-names : goal.returns-in_err-names
returns-in_err-names c =
    let t = begin head_parts c.args.cursor.now in
    let t = through _ _ t c.read_within.ensures _ c.in_ok-modules.was in
    record {
      reads = stopped _ _ t c.read_within-2.ensures parts_of_head head_at c.in_err-names.was c.from_residual-in_err-names.ensures.1;
      few = IfOk-from_err c.from_residual-in_err-names.result _ c.from_residual-in_err-names.ensures.0;
    }

pub returns-in_err-recipes : goal.returns-in_err-recipes
returns-in_err-recipes c =
    let t = begin head_parts c.args.cursor.now in
    let t = through _ _ t c.read_within.ensures _ c.in_ok-modules.was in
    let t = through _ _ t c.read_within-2.ensures _ c.in_ok-names.was in
    record {
      reads = stopped _ _ t c.read_within-3.ensures parts_of_head head_at c.in_err-recipes.was c.from_residual-in_err-recipes.ensures.1;
      few = IfOk-from_err c.from_residual-in_err-recipes.result _ c.from_residual-in_err-recipes.ensures.0;
    }

pub returns-in_err-patterns : goal.returns-in_err-patterns
returns-in_err-patterns c =
    let t = begin head_parts c.args.cursor.now in
    let t = through _ _ t c.read_within.ensures _ c.in_ok-modules.was in
    let t = through _ _ t c.read_within-2.ensures _ c.in_ok-names.was in
    let t = through _ _ t c.read_within-3.ensures _ c.in_ok-recipes.was in
    record {
      reads = stopped_last t c.read_within-4.ensures parts_of_head head_at c.in_err-patterns.was c.from_residual-in_err-patterns.ensures.1;
      few = IfOk-from_err c.from_residual-in_err-patterns.result _ c.from_residual-in_err-patterns.ensures.0;
    }

pub returns : goal.returns
unfolding both
returns c =
    let t = begin head_parts c.args.cursor.now in
    let t = through _ _ t c.read_within.ensures _ c.in_ok-modules.was in
    let t = through _ _ t c.read_within-2.ensures _ c.in_ok-names.was in
    let t = through _ _ t c.read_within-3.ensures _ c.in_ok-recipes.was in
    let k = (ends t c.read_within-4.ensures _ c.in_ok-patterns.was).keeps in
    record {
      reads = finished t c.read_within-4.ensures parts_of_head head_at _ _ c.in_ok-patterns.was refl;
      few = (k.0.1.1, k.1.0.1.1, k.1.1.0.1.1, k.1.1.1.1.1);
    }
