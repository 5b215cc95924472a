use Rattle.std.proofs.Common.{◌∙◌}
use Rattle.register.specs.Kinds.{kind_number}
use Rattle.tree.specs.Rows.{name_at}
use Rattle.tree_register.specs.Names.{is_of_kind}
use Rattle.tree_register.proofs.LookUps.{some_place}
use Rattle.tree_register.proofs.table_register.TableRegister.has_kind.Goals as goal

pub returns : goal.returns
returns c =
    let s = c.args.self.now in c.some_of_kind.ensures ∙ some_place (name_at s.image.now) (is_of_kind c.args.«module» (kind_number c.args.kind)) s.names.now
