use Rattle.std.proofs.Common.{ap, rules}
use Rattle.format.specs.Fields.{below}
use Rattle.tree.specs.Rows.{module_at}
use Rattle.records.specs.Records.{module_parts, parts_of_module}
use Rattle.records.proofs.Parts.{map-one}
use Rattle.format.specs.Format.{both}
use Rattle.format.proofs.Calls.{number_if_reads}
use Rattle.format.proofs.Towards.{begin, through, stopped, ends, finished, stopped_last}
use Rattle.records.proofs.modules.read_module.Goals as goal

pub returns-in_err-map : goal.returns-in_err-map
returns-in_err-map c =
    let t = begin (module_parts c.args.recipes) c.args.cursor.now in
    stopped _ _ t c.read_below.ensures parts_of_module module_at c.in_err-map.was c.from_residual.ensures.1

pub returns-in_err-default : goal.returns-in_err-default
returns-in_err-default c =
    let t = begin (module_parts c.args.recipes) c.args.cursor.now in
    let t = through _ _ t c.read_below.ensures _ c.in_ok-map.was in
    stopped_last t (number_if_reads (below c.args.recipes 2) c.read_if.ensures (λ r p. search rules)) parts_of_module module_at c.in_err-default.was c.from_residual-in_err-default.ensures.1

pub returns : goal.returns
unfolding both
returns c =
    let t = begin (module_parts c.args.recipes) c.args.cursor.now in
    let t = through _ _ t c.read_below.ensures _ c.in_ok-map.was in
    let k = (ends t (number_if_reads (below c.args.recipes 2) c.read_if.ensures (λ r p. search rules)) _ c.in_ok-default.was).keeps in
    let e = map-one c.in_ok-map.map (below c.args.recipes 2) c.in_ok-default.default k.0.1 k.1 in
    finished t (number_if_reads (below c.args.recipes 2) c.read_if.ensures (λ r p. search rules)) parts_of_module module_at _ _ c.in_ok-default.was (ap (λ m. (m, c.in_ok-default.default)) e)
