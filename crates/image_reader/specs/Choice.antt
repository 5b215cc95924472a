-- What the judge of a choice accepts over a tree. Assumes nothing.
use Rattle.std.specs.Prelude.{ℕ, cond, List, Some, None, codes, Option}
use Rattle.std.specs.Str.{bytes_eq}
use Rattle.tree.specs.Tree.{Tree}
use Rattle.judge.specs.Meaning.{JudgeMeaning, either_of}
use Rattle.judges.specs.Patterns.{tree_texts, tree_gauges}
use Rattle.image_reader.specs.declared.choice.JudgeChoice.{JudgeChoice}
use Rattle.image_reader.specs.declared.choice.JudgeChoice.TheVariants.{Texts, Gauge, Either}

abbrev pub choice_of : JudgeChoice → Tree → JudgeMeaning
choice_of Texts t = tree_texts t
choice_of Gauge t = tree_gauges t
choice_of Either t = either_of (tree_texts t) (tree_gauges t)

abbrev pub choice_named : List ℕ → Option JudgeChoice
choice_named name =
    cond (bytes_eq name (codes "texts")) (Some Texts)
    (cond (bytes_eq name (codes "gauge")) (Some Gauge)
    (cond (bytes_eq name (codes "either")) (Some Either) None))
