-- just's switches (switch.rs). Assumes nothing.
use Rattle.std.specs.Prelude.{ℕ, suc, ◌+◌, Bool, cond, not, ◌&&◌, ◌||◌, List, [], ◌∷◌, ◌++◌, is_some, Some, None, Ok, Err, Option, Result, nat_eq, slice_set}
use Rattle.std.specs.List.{slice_get}
use Rattle.std.specs.Str.{bytes_eq}
use Rattle.text.specs.Identifier.{Text}
use Rattle.just.specs.Results.{and_then, if_let}
use Rattle.just.specs.Table.{Map, find}
use Rattle.just.specs.ParameterKind.{is_variadic}
use Rattle.just.specs.Error.{Error, Spot, Switch}
use Rattle.just.specs.Error.Switch.{Long, Short}
use Rattle.just.specs.Error.Error.{UnknownOption, FlagWithValue, NonFinalOptionWithValue, OptionMissingValue, DuplicateOption, Panicked}
use Rattle.just.specs.Value as value
use Rattle.just.specs.Value.{Value}
use Rattle.just.specs.Parameter.{Parameter}
use Rattle.just.specs.Recipe.{Recipe}

-- `true`
abbrev pub true_text : Text
true_text = 116 ∷ 114 ∷ 117 ∷ 101 ∷ []

-- what `apply` changes: the arguments and `i`
pub record Applied : Type 0 where
  pub arguments : List Value
  pub i : ℕ

-- the text that a switch gives, and `i` behind it
pub record Taken : Type 0 where
  pub text : Text
  pub i : ℕ

-- the place of the parameter that a switch names
abbrev pub index_of : Map Text ℕ → Map ℕ ℕ → Switch → Option ℕ
index_of long short (Long name) = find bytes_eq long name
index_of long short (Short name) = find nat_eq short name

-- a switch that takes a value: its own, or the next argument
abbrev pub own_or_next : Spot → Recipe → Switch → List Text → ℕ → Option Text → Result Taken Error
own_or_next spot recipe switch rest i (Some value) = Ok (record { text = value; i = i })
own_or_next spot recipe switch rest i None =
    if_let (slice_get rest (suc i)) (λ value. Ok (record { text = value; i = suc i }))
    (Err (OptionMissingValue spot recipe.number switch))

-- the text that a switch gives
abbrev pub text_of : Spot → Recipe → Switch → List Text → ℕ → Option Text → Bool → Parameter → Result Taken Error
text_of spot recipe switch rest i value last parameter =
    cond (parameter.flag || parameter.value)
    (cond (is_some value) (Err (FlagWithValue spot recipe.number switch)) (Ok (record { text = true_text; i = i })))
    (cond (not last) (Err (NonFinalOptionWithValue spot recipe.number switch))
    (own_or_next spot recipe switch rest i value))

-- the text pushed to its group
abbrev pub pushed : Spot → Recipe → Switch → List Value → ℕ → Parameter → Taken → Result Applied Error
pushed spot recipe switch arguments index parameter taken =
    if_let (slice_get arguments index)
    (λ group.
    cond (not (value.is_empty group) && (not (is_variadic parameter.kind) && not parameter.multiple))
    (Err (DuplicateOption spot recipe.number switch))
    (Ok (record { arguments = slice_set arguments index (group ++ record { text = taken.text; word = spot.path + taken.i } ∷ []); i = taken.i })))
    (Err Panicked)

-- `apply`
abbrev pub apply : Spot → Recipe → Map Text ℕ → Map ℕ ℕ → Switch → List Value → List Text → ℕ → Option Text → Bool → Result Applied Error
apply spot recipe long short switch arguments rest i value last =
    if_let (index_of long short switch)
    (λ index.
    if_let (slice_get recipe.parameters index)
    (λ parameter.
    and_then (text_of spot recipe switch rest i value last parameter) λ taken.
    pushed spot recipe switch arguments index parameter taken)
    (Err Panicked))
    (Err (UnknownOption spot recipe.number switch))
