-- just's kinds of parameters (parameter_kind.rs). Assumes nothing.
use Rattle.std.specs.Prelude.{Bool, true, false}

pub data ParameterKind : Type 0 where
  Plus : ParameterKind
  Singular : ParameterKind
  Star : ParameterKind

-- `is_variadic`
abbrev pub is_variadic : ParameterKind → Bool
is_variadic Plus = true
is_variadic Singular = false
is_variadic Star = true

-- `== ParameterKind::Star`
abbrev pub is_star : ParameterKind → Bool
is_star Plus = false
is_star Singular = false
is_star Star = true
