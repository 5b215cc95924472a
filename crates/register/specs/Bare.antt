-- The bare register: one module, with the recipes `hold`, which takes nothing, and `status`, its default, which takes any number of words. Assumes nothing.
use Rattle.std.specs.Prelude.{ℕ, false, cond, List, [], ◌∷◌, Some, None, codes, Option, ◌==◌}
use Rattle.std.specs.Str.{bytes_eq}
use Rattle.text.specs.Identifier.{Text}
use Rattle.register.specs.Meaning.{NameMeaning, ParameterMeaning, SignatureMeaning}
use Rattle.register.specs.declared.kind.Kind.{Kind}
use Rattle.register.specs.declared.kind.Kind.TheVariants.{Module, ModuleAlias, Recipe, RecipeAlias, DisabledRecipe, DisabledAlias, AbsentModule}
use Rattle.register.specs.declared.parameter.ParameterKind.TheVariants.{Star}

abbrev pub bare_recipe : Text → Option ℕ
bare_recipe name = cond (bytes_eq name (codes "hold")) (Some 0) (cond (bytes_eq name (codes "status")) (Some 1) None)

-- recipes of module 0, and no other kind
abbrev pub bare_find : ℕ → Kind → Text → Option ℕ
bare_find m Module name = None
bare_find m ModuleAlias name = None
bare_find m Recipe name = cond (m == 0) (bare_recipe name) None
bare_find m RecipeAlias name = None
bare_find m DisabledRecipe name = None
bare_find m DisabledAlias name = None
bare_find m AbsentModule name = None

abbrev pub bare_names : NameMeaning
bare_names = record {
  root = 0;
  modules = 1;
  find = bare_find;
  default = λ m. cond (m == 0) (Some 1) None;
  has_recipes = λ m. (m == 0);
}

abbrev pub star_only : ParameterMeaning
star_only = record {
  default = None;
  flag = false;
  multiple = false;
  value = false;
  kind = Star;
  long = None;
  letter = None;
  min = None;
  max = None;
  pattern = None;
}

abbrev pub bare_parameters : ℕ → List ParameterMeaning
bare_parameters r = cond (r == 1) (star_only ∷ []) []

abbrev pub bare_signatures : SignatureMeaning
bare_signatures = record { parameters = bare_parameters }
