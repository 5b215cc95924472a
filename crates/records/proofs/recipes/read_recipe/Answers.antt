use Rattle.std.proofs.Common.{rules}
use Rattle.std.proofs.lemmas.Result.{IfOk-from_err}
use Rattle.format.specs.Fields.{counted}
use Rattle.tree.specs.Rows.{parameter_at, recipe_at}
use Rattle.records.specs.Records.{parameter_record, recipe_parts, parts_of_recipe}
use Rattle.records.proofs.Parts.{recipe_is}
use Rattle.records.proofs.Tables.{counted_if_reads}
use Rattle.format.specs.Format.{both}
use Rattle.format.proofs.Towards.{begin, through, stopped, ends, finished, stopped_last}
use Rattle.records.proofs.recipes.read_recipe.Goals as goal

pub returns-in_err-map : goal.returns-in_err-map
returns-in_err-map c =
    let t = begin (recipe_parts c.args.patterns) c.args.cursor.now in
    record {
      reads = stopped _ _ t c.read_below.ensures parts_of_recipe recipe_at c.in_err-map.was c.from_residual.ensures.1;
      tidy = IfOk-from_err c.from_residual.result _ c.from_residual.ensures.0;
    }

pub returns-in_err-count : goal.returns-in_err-count
returns-in_err-count c =
    let t = begin (recipe_parts c.args.patterns) c.args.cursor.now in
    let t = through _ _ t c.read_below.ensures _ c.in_ok-map.was in
    record {
      reads = stopped_last t (counted_if_reads (parameter_record c.args.patterns) parameter_at 16 c.read_counted_if.ensures.counts (λ c r d p. search rules)) parts_of_recipe recipe_at c.in_err-count.was c.from_residual-in_err-count.ensures.1;
      tidy = IfOk-from_err c.from_residual-in_err-count.result _ c.from_residual-in_err-count.ensures.0;
    }

pub returns : goal.returns
unfolding both
returns c =
    let t = begin (recipe_parts c.args.patterns) c.args.cursor.now in
    let t = through _ _ t c.read_below.ensures _ c.in_ok-map.was in
    let k = (ends t (counted_if_reads (parameter_record c.args.patterns) parameter_at 16 c.read_counted_if.ensures.counts (λ c r d p. search rules)) _ c.in_ok-count.was).keeps in
    let f = c.in_ok-count.ensures.filled in
    let e = recipe_is c.args.cursor.now.image.now c.in_ok-map.map (counted 1 16 (parameter_record c.args.patterns)) c.in_ok-count.count c.read_counted_if.new.rows (rw f.long f.fits) k.0.1 k.1 in
    record {
      reads = finished t (counted_if_reads (parameter_record c.args.patterns) parameter_at 16 c.read_counted_if.ensures.counts (λ c r d p. search rules)) parts_of_recipe recipe_at _ _ c.in_ok-count.was e;
      tidy = record { few = f.fits; rest = f.rest };
    }
