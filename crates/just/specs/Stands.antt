-- What stands of just's parser. Assumes nothing.
use Rattle.std.specs.Prelude.{◌≡◌, ℕ, List, Result}
use Rattle.std.specs.List.{AllByRecursion}
use Rattle.refusal.specs.declared.Refusal.{Refusal}
use Rattle.text.specs.Identifier.{Text}
use Rattle.text.specs.Utf8.{Utf8}
use Rattle.judge.specs.Meaning.{JudgeMeaning}
use Rattle.tree.specs.Tree.{Tree}
use Rattle.tree_register.specs.Names.{tree_names}
use Rattle.tree_register.specs.Signatures.{tree_signatures}
use Rattle.image.specs.Image.{Lawful}
use Rattle.reading.specs.Line.{Reading, OnlyReading}
use Rattle.just.specs.InvocationParser.{parse_invocations}
use Rattle.just.specs.FromTree.{justfiles_of}
use Rattle.just.specs.Outcome.{of_just, of_reading}

-- Over the tree of every lawful image and by every judge, just answers words of UTF-8 as the rules do: the same orders with the same texts in the same groups, or the same refusal; and it never panics.
abbrev pub JustStands : Type 0
JustStands = (image : List ℕ) (t : Tree) → Lawful image t → (judge : JudgeMeaning) (words : List Text) → AllByRecursion Utf8 words → (answer : Result Reading Refusal) → OnlyReading (tree_names t) (tree_signatures t) judge words answer → of_just (parse_invocations judge (justfiles_of t) words) ≡ of_reading answer
