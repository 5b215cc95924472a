use Rattle.std.proofs.lemmas.Result.{IfOk-from_err}
use Rattle.records.specs.Records.{tree_parts, parts_of_tree}
use Rattle.records.specs.TreeRows.{tree_at}
use Rattle.records.proofs.Parts.{tree_is}
use Rattle.format.specs.Format.{both}
use Rattle.format.proofs.Towards.{begin, through, stopped, finished, stopped_last}
use Rattle.records.proofs.whole.read_tree.Goals as goal

pub returns-in_err-counts : goal.returns-in_err-counts
returns-in_err-counts c =
    let t = begin tree_parts c.args.cursor.now in
    record {
      reads = stopped _ _ t c.read_head.ensures.reads parts_of_tree (tree_at c.args.modules.now c.args.names.now c.args.recipes.now c.args.patterns.now) c.in_err-counts.was c.from_residual.ensures.1;
      modules = IfOk-from_err c.from_residual.result _ c.from_residual.ensures.0;
      names = IfOk-from_err c.from_residual.result _ c.from_residual.ensures.0;
      recipes = IfOk-from_err c.from_residual.result _ c.from_residual.ensures.0;
      patterns = IfOk-from_err c.from_residual.result _ c.from_residual.ensures.0;
      parameters = IfOk-from_err c.from_residual.result _ c.from_residual.ensures.0;
      texts = IfOk-from_err c.from_residual.result _ c.from_residual.ensures.0;
    }

pub returns-in_err-read_modules : goal.returns-in_err-read_modules
returns-in_err-read_modules c =
    let t = begin tree_parts c.args.cursor.now in
    let t = through _ _ t c.read_head.ensures.reads _ c.in_ok-counts.was in
    record {
      reads = stopped _ _ t c.read_modules.ensures.reads parts_of_tree (tree_at c.read_modules.new.rows c.args.names.now c.args.recipes.now c.args.patterns.now) c.in_err-read_modules.was c.from_residual-in_err-read_modules.ensures.1;
      modules = IfOk-from_err c.from_residual-in_err-read_modules.result _ c.from_residual-in_err-read_modules.ensures.0;
      names = IfOk-from_err c.from_residual-in_err-read_modules.result _ c.from_residual-in_err-read_modules.ensures.0;
      recipes = IfOk-from_err c.from_residual-in_err-read_modules.result _ c.from_residual-in_err-read_modules.ensures.0;
      patterns = IfOk-from_err c.from_residual-in_err-read_modules.result _ c.from_residual-in_err-read_modules.ensures.0;
      parameters = IfOk-from_err c.from_residual-in_err-read_modules.result _ c.from_residual-in_err-read_modules.ensures.0;
      texts = IfOk-from_err c.from_residual-in_err-read_modules.result _ c.from_residual-in_err-read_modules.ensures.0;
    }

pub returns-in_err-read_names : goal.returns-in_err-read_names
returns-in_err-read_names c =
    let t = begin tree_parts c.args.cursor.now in
    let t = through _ _ t c.read_head.ensures.reads _ c.in_ok-counts.was in
    let t = through _ _ t c.read_modules.ensures.reads _ c.in_ok-read_modules.was in
    record {
      reads = stopped _ _ t c.read_names.ensures.reads parts_of_tree (tree_at c.read_modules.new.rows c.read_names.new.rows c.args.recipes.now c.args.patterns.now) c.in_err-read_names.was c.from_residual-in_err-read_names.ensures.1;
      modules = IfOk-from_err c.from_residual-in_err-read_names.result _ c.from_residual-in_err-read_names.ensures.0;
      names = IfOk-from_err c.from_residual-in_err-read_names.result _ c.from_residual-in_err-read_names.ensures.0;
      recipes = IfOk-from_err c.from_residual-in_err-read_names.result _ c.from_residual-in_err-read_names.ensures.0;
      patterns = IfOk-from_err c.from_residual-in_err-read_names.result _ c.from_residual-in_err-read_names.ensures.0;
      parameters = IfOk-from_err c.from_residual-in_err-read_names.result _ c.from_residual-in_err-read_names.ensures.0;
      texts = IfOk-from_err c.from_residual-in_err-read_names.result _ c.from_residual-in_err-read_names.ensures.0;
    }

pub returns-in_err-read_recipes : goal.returns-in_err-read_recipes
returns-in_err-read_recipes c =
    let t = begin tree_parts c.args.cursor.now in
    let t = through _ _ t c.read_head.ensures.reads _ c.in_ok-counts.was in
    let t = through _ _ t c.read_modules.ensures.reads _ c.in_ok-read_modules.was in
    let t = through _ _ t c.read_names.ensures.reads _ c.in_ok-read_names.was in
    record {
      reads = stopped _ _ t c.read_recipes.ensures.reads parts_of_tree (tree_at c.read_modules.new.rows c.read_names.new.rows c.read_recipes.new.rows c.args.patterns.now) c.in_err-read_recipes.was c.from_residual-in_err-read_recipes.ensures.1;
      modules = IfOk-from_err c.from_residual-in_err-read_recipes.result _ c.from_residual-in_err-read_recipes.ensures.0;
      names = IfOk-from_err c.from_residual-in_err-read_recipes.result _ c.from_residual-in_err-read_recipes.ensures.0;
      recipes = IfOk-from_err c.from_residual-in_err-read_recipes.result _ c.from_residual-in_err-read_recipes.ensures.0;
      patterns = IfOk-from_err c.from_residual-in_err-read_recipes.result _ c.from_residual-in_err-read_recipes.ensures.0;
      parameters = IfOk-from_err c.from_residual-in_err-read_recipes.result _ c.from_residual-in_err-read_recipes.ensures.0;
      texts = IfOk-from_err c.from_residual-in_err-read_recipes.result _ c.from_residual-in_err-read_recipes.ensures.0;
    }

pub returns-in_err-read_patterns : goal.returns-in_err-read_patterns
returns-in_err-read_patterns c =
    let t = begin tree_parts c.args.cursor.now in
    let t = through _ _ t c.read_head.ensures.reads _ c.in_ok-counts.was in
    let t = through _ _ t c.read_modules.ensures.reads _ c.in_ok-read_modules.was in
    let t = through _ _ t c.read_names.ensures.reads _ c.in_ok-read_names.was in
    let t = through _ _ t c.read_recipes.ensures.reads _ c.in_ok-read_recipes.was in
    record {
      reads = stopped_last t c.read_patterns.ensures.reads parts_of_tree (tree_at c.read_modules.new.rows c.read_names.new.rows c.read_recipes.new.rows c.read_patterns.new.rows) c.in_err-read_patterns.was c.from_residual-in_err-read_patterns.ensures.1;
      modules = IfOk-from_err c.from_residual-in_err-read_patterns.result _ c.from_residual-in_err-read_patterns.ensures.0;
      names = IfOk-from_err c.from_residual-in_err-read_patterns.result _ c.from_residual-in_err-read_patterns.ensures.0;
      recipes = IfOk-from_err c.from_residual-in_err-read_patterns.result _ c.from_residual-in_err-read_patterns.ensures.0;
      patterns = IfOk-from_err c.from_residual-in_err-read_patterns.result _ c.from_residual-in_err-read_patterns.ensures.0;
      parameters = IfOk-from_err c.from_residual-in_err-read_patterns.result _ c.from_residual-in_err-read_patterns.ensures.0;
      texts = IfOk-from_err c.from_residual-in_err-read_patterns.result _ c.from_residual-in_err-read_patterns.ensures.0;
    }

pub returns : goal.returns
unfolding both
returns c =
    let t = begin tree_parts c.args.cursor.now in
    let t = through _ _ t c.read_head.ensures.reads _ c.in_ok-counts.was in
    let t = through _ _ t c.read_modules.ensures.reads _ c.in_ok-read_modules.was in
    let t = through _ _ t c.read_names.ensures.reads _ c.in_ok-read_names.was in
    let t = through _ _ t c.read_recipes.ensures.reads _ c.in_ok-read_recipes.was in
    let image = c.args.cursor.now.image.now in
    let e = tree_is image c.in_ok-counts.counts c.read_modules.ensures.filled c.read_names.ensures.filled c.read_recipes.ensures.filled c.read_patterns.ensures.filled in
    record {
      reads = finished t c.read_patterns.ensures.reads parts_of_tree (tree_at c.read_modules.new.rows c.read_names.new.rows c.read_recipes.new.rows c.read_patterns.new.rows) _ _ c.in_ok-read_patterns.was e;
      modules = c.read_modules.ensures.filled;
      names = c.read_names.ensures.filled;
      recipes = c.read_recipes.ensures.filled;
      patterns = c.read_patterns.ensures.filled;
      parameters = c.in_ok-read_recipes.ensures.tidy;
      texts = c.in_ok-read_patterns.ensures.tidy;
    }
