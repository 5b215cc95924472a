-- just answers as the rules do.
use Rattle.std.proofs.Common.{ap, ◌∙◌}
use Rattle.tree_register.specs.Names.{tree_names}
use Rattle.tree_register.specs.Signatures.{tree_signatures}
use Rattle.path.proofs.Model.{path_of}
use Rattle.path.proofs.Theorem.{answer_does}
use Rattle.reading.specs.Model.{read_line}
use Rattle.reading.proofs.Lines.{model_only}
use Rattle.just.specs.Outcome.{of_reading}
use Rattle.just.specs.Stands.{JustStands}
use Rattle.just.proofs.Lines.{whole_does}
use Rattle.just.proofs.Utf8s.{all_readable}
use Rattle.just.proofs.Lawful.{good}

pub just_stands : JustStands
just_stands image t lawful judge words utf8 answer only =
    let walk = path_of (tree_names t) in
    let model = model_only (tree_names t) (tree_signatures t) judge walk (answer_does (tree_names t)) words in
    whole_does t (good image t lawful) judge words (all_readable words utf8) ∙ ap of_reading (only.only (read_line walk (tree_signatures t) judge words) model.right)
