-- just's parameters (parameter.rs). Assumes nothing.
use Rattle.std.specs.Prelude.{ℕ, Bool, false, cond, not, ◌&&◌, ◌||◌, length, is_some, Some, None, Ok, Err, Option, Result, nat_lt}
use Rattle.text.specs.Identifier.{Text}
use Rattle.just.specs.Results.{and_then}
use Rattle.just.specs.ParameterKind.{ParameterKind, is_star}
use Rattle.just.specs.Error.{Error, Spot}
use Rattle.just.specs.Error.Error.{ArgumentTooFewValues, ArgumentTooManyValues, ArgumentPatternMismatch}
use Rattle.just.specs.Value.{Value}

-- of `value` only whether it is some; a pattern by its number
pub record Parameter : Type 0 where
  pub default : Option Text
  pub flag : Bool
  pub kind : ParameterKind
  pub long : Option Text
  pub max : Option ℕ
  pub min : Option ℕ
  pub multiple : Bool
  pub pattern : Option ℕ
  pub short : Option ℕ
  pub value : Bool

-- `is_option`
abbrev pub is_option : Parameter → Bool
is_option p = is_some p.long || is_some p.short

-- `min.is_some_and(|min| min > 0)`
abbrev pub is_some_above_zero : Option ℕ → Bool
is_some_above_zero None = false
is_some_above_zero (Some min) = nat_lt 0 min

-- `is_required`
abbrev pub is_required : Parameter → Bool
is_required p = not (is_some p.default) && (not p.flag && (not (is_star p.kind) || is_some_above_zero p.min))

-- `check_value_count`, of the parameter at a place of a recipe
abbrev pub check_min : Spot → ℕ → ℕ → Option ℕ → ℕ → Result (Unit {0}) Error
check_min spot recipe place None found = Ok tt
check_min spot recipe place (Some min) found = cond (nat_lt found min) (Err (ArgumentTooFewValues spot recipe place found min)) (Ok tt)

abbrev pub check_max : Spot → ℕ → ℕ → Option ℕ → ℕ → Result (Unit {0}) Error
check_max spot recipe place None found = Ok tt
check_max spot recipe place (Some max) found = cond (nat_lt max found) (Err (ArgumentTooManyValues spot recipe place found max)) (Ok tt)

abbrev pub check_value_count : Spot → ℕ → ℕ → Parameter → Value → Result (Unit {0}) Error
check_value_count spot recipe place p value =
    and_then (check_min spot recipe place p.min (length value)) λ _.
    check_max spot recipe place p.max (length value)

-- `check_pattern_match`, where `is_match` tells which texts a pattern matches
abbrev pub check_pattern_match : (ℕ → Text → Bool) → Spot → ℕ → ℕ → Option ℕ → Text → Result (Unit {0}) Error
check_pattern_match is_match spot recipe place None value = Ok tt
check_pattern_match is_match spot recipe place (Some pattern) value = cond (is_match pattern value) (Ok tt) (Err (ArgumentPatternMismatch spot recipe place pattern value))
