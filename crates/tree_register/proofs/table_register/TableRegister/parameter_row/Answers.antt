use Rattle.std.proofs.Common.{sym, ap, ◌∙◌}
use Rattle.std.specs.List.{slice_get}
use Rattle.tree.specs.Rows.{parameter_at}
use Rattle.tree_register.specs.Signatures.{parameter_of}
use Rattle.tree_register.proofs.LookUps.{nth_maps, got_says}
use Rattle.tree_register.proofs.table_register.TableRegister.parameter_row.Goals as goal

pub returns : goal.returns
returns c =
    let rows = c.parameters.result.now in let said = parameter_at c.args.self.now.image.now in let i = c.args.place in
    got_says (λ x. parameter_of (said x)) rows i c.get.result c.get.ensures.lookup ∙ sym (nth_maps said parameter_of rows i) ∙ ap (λ ps. slice_get ps i) c.parameters.ensures
