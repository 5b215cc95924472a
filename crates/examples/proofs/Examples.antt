-- The examples, computed by the model and so settled by the rules. Assumes nothing.
use Rattle.std.proofs.Common.{◌≡◌, List, Result, refl, subst}
use Rattle.refusal.specs.declared.Refusal.{Refusal}
use Rattle.text.specs.Identifier.{Text}
use Rattle.judge.specs.Meaning.{JudgeMeaning}
use Rattle.path.proofs.Model.{path_of}
use Rattle.path.proofs.Theorem.{answer_does}
use Rattle.reading.specs.Line.{Reading, OnlyReading}
use Rattle.reading.specs.Model.{read_line}
use Rattle.examples.specs.Examples.{ExamplesStand}
use Rattle.examples.specs.ExampleTree.{example_tree}
use Rattle.tree_register.specs.Names.{tree_names}
use Rattle.tree_register.specs.Signatures.{tree_signatures}
use Rattle.reading.proofs.Lines.{model_only}

settled : (judge : JudgeMeaning) (words : List Text) (answer : Result Reading Refusal) → read_line (path_of (tree_names example_tree)) (tree_signatures example_tree) judge words ≡ answer → OnlyReading (tree_names example_tree) (tree_signatures example_tree) judge words answer
settled judge words answer e = subst (OnlyReading (tree_names example_tree) (tree_signatures example_tree) judge words) e (model_only (tree_names example_tree) (tree_signatures example_tree) judge (path_of (tree_names example_tree)) (answer_does (tree_names example_tree)) words)

pub examples_stand : ExamplesStand
examples_stand judge = (settled judge _ _ refl, (settled judge _ _ refl, (settled judge _ _ refl, (settled judge _ _ refl, (settled judge _ _ refl, (settled judge _ _ refl, (settled judge _ _ refl, (settled judge _ _ refl, tt))))))))
