-- Examples: lines over the example tree, and what they come to. Assumes nothing.
use Rattle.std.specs.Prelude.{ℕ, List, [], ◌∷◌, Ok, Err, codes, Result}
use Rattle.refusal.specs.declared.Refusal.{Refusal}
use Rattle.refusal.specs.declared.Refusal.TheVariants.{NonFinalOptionWithValue, DuplicateOption, MissingOption, PositionalArgumentCountMismatch}
use Rattle.text.specs.Identifier.{Text}
use Rattle.judge.specs.Meaning.{JudgeMeaning}
use Rattle.tree_register.specs.Names.{tree_names}
use Rattle.tree_register.specs.Signatures.{tree_signatures}
use Rattle.reading.specs.Reading.{Value}
use Rattle.reading.specs.Line.{Order, Reading, OnlyReading}
use Rattle.reading.specs.declared.role.Role.TheVariants.{PathWord, SwitchWord, SwitchValue, PlainWord}
use Rattle.examples.specs.ExampleTree.{example_tree}

-- a line's words, and its answer
pub record Example : Type 0 where
  pub words : List Text
  pub answer : Result Reading Refusal

-- a value of the parameter at place k, in this word
abbrev pub value : ℕ → Text → ℕ → Value
value k t at = record { parameter = k; text = t; word = at }

-- an order of `lower`
abbrev pub lower : ℕ → ℕ → List Value → List Value → List Value → Order
lower first words gates bys quiets = record { recipe = 0; first = first; words = words; groups = gates ∷ bys ∷ quiets ∷ [] }

abbrev pub table : List Example
table =
    record {
      words = codes "lower" ∷ codes "3" ∷ codes "--by" ∷ codes "10" ∷ [];
      answer = Ok (record { orders = lower 0 4 (value 0 (codes "3") 1 ∷ []) (value 1 (codes "10") 3 ∷ []) [] ∷ []; roles = PathWord ∷ PlainWord 0 ∷ SwitchWord ∷ SwitchValue ∷ [] });
    }
    ∷ record {
      words = codes "lower" ∷ codes "3" ∷ codes "-qb" ∷ codes "10" ∷ [];
      answer = Ok (record { orders = lower 0 4 (value 0 (codes "3") 1 ∷ []) (value 1 (codes "10") 3 ∷ []) (value 2 (codes "true") 2 ∷ []) ∷ []; roles = PathWord ∷ PlainWord 0 ∷ SwitchWord ∷ SwitchValue ∷ [] });
    }
    ∷ record {
      words = codes "lower" ∷ codes "3" ∷ codes "--by" ∷ codes "--" ∷ [];
      answer = Ok (record { orders = lower 0 4 (value 0 (codes "3") 1 ∷ []) (value 1 (codes "--") 3 ∷ []) [] ∷ []; roles = PathWord ∷ PlainWord 0 ∷ SwitchWord ∷ SwitchValue ∷ [] });
    }
    ∷ record {
      words = codes "lower" ∷ codes "--by=1" ∷ codes "3" ∷ codes "lower" ∷ codes "--by=5" ∷ codes "4" ∷ [];
      answer = Ok (record { orders = lower 0 3 (value 0 (codes "3") 2 ∷ []) (value 1 (codes "1") 1 ∷ []) [] ∷ lower 3 3 (value 0 (codes "4") 5 ∷ []) (value 1 (codes "5") 4 ∷ []) [] ∷ []; roles = PathWord ∷ SwitchWord ∷ PlainWord 0 ∷ PathWord ∷ SwitchWord ∷ PlainWord 0 ∷ [] });
    }
    ∷ record { words = codes "lower" ∷ codes "3" ∷ codes "--by=10" ∷ codes "--by=10" ∷ []; answer = Err (DuplicateOption 3 0) }
    ∷ record { words = codes "lower" ∷ codes "3" ∷ codes "-bq" ∷ []; answer = Err (NonFinalOptionWithValue 2 0) }
    ∷ record { words = codes "lower" ∷ []; answer = Err (MissingOption 0 1) }
    ∷ record { words = codes "lower" ∷ codes "--by=1" ∷ []; answer = Err (PositionalArgumentCountMismatch 0 0 1) }
    ∷ []

abbrev pub Hold : JudgeMeaning → List Example → Type 0
Hold judge [] = Unit {0}
Hold judge (e ∷ es) = OnlyReading (tree_names example_tree) (tree_signatures example_tree) judge e.words e.answer × Hold judge es

-- by every judge, each line of the table has its answer and no other
abbrev pub ExamplesStand : Type 0
ExamplesStand = (judge : JudgeMeaning) → Hold judge table
