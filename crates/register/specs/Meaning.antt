-- What a register means: where names lead, and what recipes take. Assumes nothing.
use Rattle.std.specs.Prelude.{ℕ, Bool, List, Option}
use Rattle.text.specs.Identifier.{Text}
use Rattle.register.specs.declared.kind.Kind.{Kind}
use Rattle.register.specs.declared.parameter.ParameterKind.{ParameterKind}

-- where names lead
pub record NameMeaning : Type 0 where
  pub root : ℕ
  pub modules : ℕ
  -- what the name of a kind in a module leads to: a module, a recipe or a label
  pub find : ℕ → Kind → Text → Option ℕ
  -- a module's default recipe
  pub default : ℕ → Option ℕ
  pub has_recipes : ℕ → Bool

pub record ParameterMeaning : Type 0 where
  pub default : Option Text
  pub flag : Bool
  pub multiple : Bool
  pub value : Bool
  pub kind : ParameterKind
  pub long : Option Text
  pub letter : Option ℕ
  pub min : Option ℕ
  pub max : Option ℕ
  pub pattern : Option ℕ

-- what recipes take: a recipe's parameters in order, and none for a recipe that is not known
pub record SignatureMeaning : Type 0 where
  pub parameters : ℕ → List ParameterMeaning
