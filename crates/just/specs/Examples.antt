-- What just's parser computes of the lines of the example tree. Assumes nothing.
use Rattle.std.specs.Prelude.{◌≡◌, List, [], ◌∷◌}
use Rattle.judge.specs.Meaning.{JudgeMeaning}
use Rattle.examples.specs.ExampleTree.{example_tree}
use Rattle.examples.specs.Examples.{Example, table}
use Rattle.just.specs.InvocationParser.{parse_invocations}
use Rattle.just.specs.FromTree.{justfiles_of}
use Rattle.just.specs.Outcome.{of_just, of_reading}

abbrev pub Hold : JudgeMeaning → List Example → Type 0
Hold judge [] = Unit {0}
Hold judge (e ∷ es) = (of_just (parse_invocations judge (justfiles_of example_tree) e.words) ≡ of_reading e.answer) × Hold judge es

-- by every judge, each line of the table is answered as it says
abbrev pub ExamplesStand : Type 0
ExamplesStand = (judge : JudgeMeaning) → Hold judge table
