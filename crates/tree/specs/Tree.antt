-- A tree: what an image says. Assumes nothing.
use Rattle.std.specs.Prelude.{ℕ, Bool, List, Option}
use Rattle.text.specs.Identifier.{Text}

pub record Module : Type 0 where
  pub default : Option ℕ

-- a name row: kinds 0 to 3 have a number
pub record Name : Type 0 where
  pub within : ℕ
  pub kind : ℕ
  pub text : Text
  pub number : Option ℕ

pub record Parameter : Type 0 where
  pub default : Option Text
  pub flag : Bool
  pub multiple : Bool
  pub value : Bool
  pub kind : Option ℕ
  pub long : Option Text
  pub letter : Option ℕ
  pub min : Option ℕ
  pub max : Option ℕ
  pub pattern : Option ℕ

-- the low and the high of a gauge, in centimetres
pub record Range : Type 0 where
  pub low : ℕ
  pub high : ℕ

pub record Pattern : Type 0 where
  pub texts : Option (List Text)
  pub range : Option Range

pub record Tree : Type 0 where
  pub modules : List Module
  pub names : List Name
  pub recipes : List (List Parameter)
  pub patterns : List Pattern
