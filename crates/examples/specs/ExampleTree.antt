-- The example tree: recipe `lower` (0) has a gate, an option `by` (long by, letter b) and a flag `quiet` (letter q); module `east`, also called `e`, has recipe `raise` (1) with Plus `gates`; no module has a default. Assumes nothing.
use Rattle.std.specs.Prelude.{ℕ, true, false, [], ◌∷◌, Some, None, codes}
use Rattle.text.specs.Identifier.{Text}
use Rattle.tree.specs.Tree.{Module, Name, Parameter, Tree}

abbrev pub bare : Module
bare = record { default = None }

-- a name of a kind in a module, and where it leads
abbrev pub leads : ℕ → ℕ → Text → ℕ → Name
leads within kind text number = record { within = within; kind = kind; text = text; number = Some number }

abbrev pub gate : Parameter
gate = record { default = None; flag = false; multiple = false; value = false; kind = None; long = None; letter = None; min = None; max = None; pattern = None }

abbrev pub by : Parameter
by = record { default = None; flag = false; multiple = false; value = false; kind = None; long = Some (codes "by"); letter = Some 98; min = None; max = None; pattern = None }

abbrev pub quiet : Parameter
quiet = record { default = None; flag = true; multiple = false; value = false; kind = None; long = None; letter = Some 113; min = None; max = None; pattern = None }

abbrev pub gates : Parameter
gates = record { default = None; flag = false; multiple = false; value = false; kind = Some 1; long = None; letter = None; min = None; max = None; pattern = None }

abbrev pub example_tree : Tree
example_tree = record {
  modules = bare ∷ bare ∷ [];
  names = leads 0 0 (codes "east") 1 ∷ leads 0 1 (codes "e") 1 ∷ leads 0 2 (codes "lower") 0 ∷ leads 1 2 (codes "raise") 1 ∷ [];
  recipes = (gate ∷ by ∷ quiet ∷ []) ∷ (gates ∷ []) ∷ [];
  patterns = [];
}
