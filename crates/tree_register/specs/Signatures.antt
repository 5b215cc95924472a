-- What the recipes of a tree take. Assumes nothing.
use Rattle.std.specs.Prelude.{ℕ, cond, List, [], map, Some, None, Option, ◌==◌}
use Rattle.std.specs.Option.{option_map, unwrap_or}
use Rattle.std.specs.List.{slice_get}
use Rattle.tree.specs.Tree.{Tree, Parameter}
use Rattle.register.specs.Meaning.{ParameterMeaning, SignatureMeaning}
use Rattle.register.specs.declared.parameter.ParameterKind.{ParameterKind}
use Rattle.register.specs.declared.parameter.ParameterKind.TheVariants.{Singular, Plus, Star}

-- 1 is Plus, 2 is Star, and else a parameter is singular
abbrev pub parameter_kind : Option ℕ → ParameterKind
parameter_kind None = Singular
parameter_kind (Some k) = cond (k == 1) Plus (cond (k == 2) Star Singular)

abbrev pub parameter_of : Parameter → ParameterMeaning
parameter_of p = record {
  default = p.default;
  flag = p.flag;
  multiple = p.multiple;
  value = p.value;
  kind = parameter_kind p.kind;
  long = p.long;
  letter = p.letter;
  min = p.min;
  max = p.max;
  pattern = p.pattern;
}

abbrev pub parameters_of : List (List Parameter) → ℕ → List ParameterMeaning
parameters_of recipes r = unwrap_or (option_map (map parameter_of) (slice_get recipes r)) []

abbrev pub signatures_of : List (List Parameter) → SignatureMeaning
signatures_of recipes = record { parameters = parameters_of recipes }

abbrev pub tree_signatures : Tree → SignatureMeaning
tree_signatures tree = signatures_of tree.recipes
