-- The justfiles that a tree tells. Assumes nothing.
use Rattle.std.specs.Prelude.{ℕ, zero, suc, Bool, true, false, cond, ◌&&◌, List, [], ◌∷◌, ◌++◌, map, Some, None, Option, ◌==◌}
use Rattle.std.specs.Option.{option_map, unwrap_or}
use Rattle.std.specs.List.{slice_get}
use Rattle.text.specs.Identifier.{Text}
use Rattle.tree.specs.Tree as tree
use Rattle.tree.specs.Tree.{Tree, Name, Module}
use Rattle.just.specs.Results.{if_let}
use Rattle.just.specs.Table.{Entry, Table}
use Rattle.just.specs.ParameterKind.{ParameterKind}
use Rattle.just.specs.ParameterKind.ParameterKind.{Plus, Singular, Star}
use Rattle.just.specs.Modulepath.{Modulepath}
use Rattle.just.specs.Parameter.{Parameter}
use Rattle.just.specs.Recipe.{Recipe}
use Rattle.just.specs.Justfile.{Justfile}

-- Parameters and recipes.

-- 1 is Plus, 2 is Star, and else a parameter is singular
abbrev pub kind_of : Option ℕ → ParameterKind
kind_of None = Singular
kind_of (Some k) = cond (k == 1) Plus (cond (k == 2) Star Singular)

abbrev pub parameter_of : tree.Parameter → Parameter
parameter_of p = record {
  default = p.default;
  flag = p.flag;
  kind = kind_of p.kind;
  long = p.long;
  max = p.max;
  min = p.min;
  multiple = p.multiple;
  pattern = p.pattern;
  short = p.letter;
  value = p.value;
}

abbrev pub recipe_at : Tree → ℕ → Recipe
recipe_at t r = record { number = r; parameters = map parameter_of (unwrap_or (slice_get t.recipes r) []) }

-- Where modules stand: the names from the root down to a module.

abbrev pub is_number : ℕ → Option ℕ → Bool
is_number m None = false
is_number m (Some n) = n == m

-- the row of kind 0 whose number is the module
abbrev pub row_to : ℕ → List Name → Option Name
row_to m [] = None
row_to m (n ∷ ns) = cond (n.kind == 0 && is_number m n.number) (Some n) (row_to m ns)

-- fuel above the module's number suffices where rows lead to higher modules
abbrev pub path_to : List Name → ℕ → ℕ → List Text
path_to names zero m = []
path_to names (suc fuel) m = cond (m == 0) [] (if_let (row_to m names) (λ n. path_to names fuel n.within ++ n.text ∷ []) [])

abbrev pub modulepath_to : Tree → ℕ → Modulepath
modulepath_to t m = record { components = path_to t.names (suc m) m; spaced = false }

-- Tables: the rows of a module and a kind.

abbrev pub entry_if : {V : Type 0} → Bool → Entry Text V → Table V → Table V
entry_if true e rest = e ∷ rest
entry_if false e rest = rest

-- `value` makes the value of a row, from its place and the row
abbrev pub table_from : {V : Type 0} → ℕ → ℕ → (ℕ → Name → V) → ℕ → List Name → Table V
table_from m kind value place [] = []
table_from m kind value place (n ∷ ns) = entry_if (n.within == m && n.kind == kind) (record { key = n.text; value = value place n }) (table_from m kind value (suc place) ns)

abbrev pub table_of : {V : Type 0} → Tree → ℕ → ℕ → (ℕ → Name → V) → Table V
table_of t m kind value = table_from m kind value 0 t.names

-- kinds 0 to 3 have a number
abbrev pub number_of : Name → ℕ
number_of n = unwrap_or n.number 0

abbrev pub justfile_of : Tree → ℕ → Module → Justfile
justfile_of t m row = record {
  absent_modules = table_of t m 6 (λ place n. place);
  default = option_map (recipe_at t) row.default;
  disabled_aliases = table_of t m 5 (λ place n. place);
  disabled_recipes = table_of t m 4 (λ place n. place);
  module_aliases = table_of t m 1 (λ place n. record { target = modulepath_to t (number_of n) });
  module_path = modulepath_to t m;
  modules = table_of t m 0 (λ place n. number_of n);
  recipe_aliases = table_of t m 3 (λ place n. recipe_at t (number_of n));
  recipes = table_of t m 2 (λ place n. recipe_at t (number_of n));
}

abbrev pub justfiles_from : Tree → ℕ → List Module → List Justfile
justfiles_from t m [] = []
justfiles_from t m (row ∷ rows) = justfile_of t m row ∷ justfiles_from t (suc m) rows

abbrev pub justfiles_of : Tree → List Justfile
justfiles_of t = justfiles_from t 0 t.modules
