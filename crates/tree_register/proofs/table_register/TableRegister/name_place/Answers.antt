use Rattle.register.specs.Kinds.{kind_number}
use Rattle.tree_register.proofs.LookUps.{name_found}
use Rattle.tree_register.proofs.table_register.TableRegister.name_place.Goals as goal

pub returns-clause-value : goal.returns-clause-value
returns-clause-value c =
    let s = c.args.self.now in
    name_found s.image.now s.names.now c.args.«module» (kind_number c.args.kind) c.args.text.now s.names_ascend c.place.result c.place.ensures
