-- The numbers of parameter kinds. Assumes nothing.
use Rattle.std.specs.Prelude.{◌≡◌, ℕ, Some, None, Option, Result, MatchResult, ◌≢◌}
use Rattle.register.specs.declared.parameter.ParameterKind.{ParameterKind}
use Rattle.register.specs.declared.parameter.ParameterKind.TheVariants.{Singular, Plus, Star}

-- Singular has no number
abbrev pub parameter_number : ParameterKind → Option ℕ
parameter_number Singular = None
parameter_number Plus = Some 1
parameter_number Star = Some 2

-- the parameter kind with this number, or no parameter kind has it
abbrev pub IsOfNumber : {E : Type 0} → ℕ → Result ParameterKind E → Type 0
IsOfNumber number answer = MatchResult answer (λ k. parameter_number k ≡ Some number) (λ _. (k : ParameterKind) → parameter_number k ≢ Some number)
