use Rattle.std.proofs.lemmas.Result.{err_from_is_err_and}
use Rattle.judges.specs.Chosen.{chosen_accepts}
use Rattle.image.specs.Loads.{names_in, signatures_in}
use Rattle.book.specs.Kept.{kept_orders, kept_roles}
use Rattle.image_reader.proofs.Answered.{image_refused, line_read, loads_ok, loads_err, by_tree}
use Rattle.image_reader.proofs.read.read_image.Goals as goal

pub returns-in_err-loaded : goal.returns-in_err-loaded
returns-in_err-loaded c =
    let p = err_from_is_err_and c.from_residual.result c.from_residual.ensures.1 in
    rw (p.1, p.2) (image_refused (Unit {0}) c.args.image.now c.args.line.now c.args.choice (kept_orders c.args.book.now) _ (loads_err c.args.image.now c.load-loaded.result _ c.in_err-loaded.was c.load-loaded.ensures))

pub returns : goal.returns
returns c =
    let loaded = c.load-loaded.result in let line = c.args.line.now in let choice = c.args.choice in
    let kept = kept_orders c.read_line.new.book in let roles = kept_roles c.read_line.new.book in
    let l = loads_ok c.args.image.now loaded c.in_ok-loaded.field-0 c.in_ok-loaded.was c.load-loaded.ensures in
    let t = l.0 in let means = l.2 in
    line_read (Unit {0}) c.args.image.now line choice kept t l.1 roles c.read_line.result
    (by_tree (names_in loaded.register) (signatures_in loaded.register) (chosen_accepts c.chosen-judge.result) t choice line kept roles c.read_line.result means.names means.signatures (c.chosen-judge.ensures t means) c.read_line.ensures.reads)
