-- The numbers of the kinds. Assumes nothing.
use Rattle.std.specs.Prelude.{◌≡◌, ℕ, Bool, true, false, Result, MatchResult, ◌≢◌}
use Rattle.register.specs.declared.kind.Kind.{Kind}
use Rattle.register.specs.declared.kind.Kind.TheVariants.{Module, ModuleAlias, Recipe, RecipeAlias, DisabledRecipe, DisabledAlias, AbsentModule}

abbrev pub kind_number : Kind → ℕ
kind_number Module = 0
kind_number ModuleAlias = 1
kind_number Recipe = 2
kind_number RecipeAlias = 3
kind_number DisabledRecipe = 4
kind_number DisabledAlias = 5
kind_number AbsentModule = 6

-- the kind with this number, or no kind has it
abbrev pub IsOfNumber : {E : Type 0} → ℕ → Result Kind E → Type 0
IsOfNumber number answer = MatchResult answer (λ k. kind_number k ≡ number) (λ _. (k : Kind) → kind_number k ≢ number)

-- disabled and absent names lead nowhere: what is found of them is a label
abbrev pub labelled : Kind → Bool
labelled Module = false
labelled ModuleAlias = false
labelled Recipe = false
labelled RecipeAlias = false
labelled DisabledRecipe = true
labelled DisabledAlias = true
labelled AbsentModule = true
