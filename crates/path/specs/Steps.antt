-- What the steps of the walk along a path answer.
use Rattle.std.specs.Prelude.{◌≡◌, ℕ, Bool, true, false, cond, List, ◌∷◌, Some, Ok, Err, Option, Result, MatchOption}
use Rattle.std.specs.declared.ops.ControlFlow.{ControlFlow}
use Rattle.std.specs.declared.ops.ControlFlow.TheVariants.{Continue, Break}
use Rattle.refusal.specs.declared.Refusal.{Refusal}
use Rattle.refusal.specs.declared.Refusal.TheVariants.{UnknownRecipe, UnknownSubmodule}
use Rattle.text.specs.Identifier.{Text}
use Rattle.text.specs.Pieces.{has_colon}
use Rattle.register.specs.Meaning.{NameMeaning}
use Rattle.path.specs.declared.path.Path.{Path}
use Rattle.path.specs.declared.found.Found.{Found}
use Rattle.path.specs.Path.{FirstFound, Nowhere, ToModule, ToRecipe, Stops, Lacks, Modulepath, Resolves, Strays, Meant, PathAnswer}

-- the first kind that finds the name, or none does
abbrev pub LooksUp : NameMeaning → ℕ → Text → Option Found → Type 0
LooksUp names at name found = MatchOption found (Nowhere names at name) (λ f. FirstFound names at name f.kind f.number)

-- the refusal of a name that no kind finds
abbrev pub unknown_name : Bool → ℕ → Refusal
unknown_name followed word = cond followed (UnknownSubmodule word) (UnknownRecipe word)

-- a name leads to a module, or to a recipe with no piece behind it; or it stops
abbrev pub StepsTo : NameMeaning → ℕ → Text → Bool → ℕ → Result (ControlFlow ℕ ℕ) Refusal → Type 0
StepsTo names at name followed word (Ok (Continue next)) = ToModule names at name next
StepsTo names at name followed word (Ok (Break recipe)) = (followed ≡ false) × ToRecipe names at name recipe
StepsTo names at name followed word (Err refusal) = Stops names at name followed word refusal

-- a module's default, or it lacks one
abbrev pub DefaultOf : NameMeaning → ℕ → Result ℕ Refusal → Type 0
DefaultOf names at (Ok recipe) = names.default at ≡ Some recipe
DefaultOf names at (Err refusal) = Lacks names at refusal

-- names lead to a recipe, or stray
abbrev pub ResolvesTo : NameMeaning → Modulepath → Result Path Refusal → Type 0
ResolvesTo names path (Ok found) = Resolves names path found
ResolvesTo names path (Err refusal) = Strays names path refusal

abbrev pub of_words : List Text → Modulepath
of_words words = record { components = words; spaced = true }

abbrev pub of_pieces : List Text → Modulepath
of_pieces pieces = record { components = pieces; spaced = false }

-- the answer of words whose first has a colon and is taken for this text
abbrev pub TextAnswer : NameMeaning → Text → Result Path Refusal → Type 0
TextAnswer names text answer = (word : Text) (rest : List Text) → has_colon word ≡ true → Meant word rest text → PathAnswer names (word ∷ rest) answer
