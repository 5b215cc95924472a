-- just's values (value.rs): a group of texts for each parameter. Assumes nothing.
use Rattle.std.specs.Prelude.{ℕ, Bool, true, false, List, [], ◌∷◌}
use Rattle.text.specs.Identifier.{Text}

-- a text, and the argument of the invocation, from 0, at which it was pushed, which only errors tell
pub record Element : Type 0 where
  pub text : Text
  pub word : ℕ

abbrev pub Value : Type 0
Value = List Element

-- `is_empty`
abbrev pub is_empty : Value → Bool
is_empty [] = true
is_empty (e ∷ es) = false
