-- What counted rows say over an image's bytes. Assumes nothing.
use Rattle.std.specs.Prelude.{◌≡◌, ℕ, zero, suc, ◌≤◌, false, List, map, length, take, drop, replicate, Some, None, Option}
use Rattle.register.specs.declared.parameter.ParameterKind.TheVariants.{Singular}
use Rattle.text.specs.declared.span.Span.{Span}
use Rattle.tree.specs.Tree.{Range, Tree}
use Rattle.tree.specs.Rows.{module_at, name_at, recipe_at, range_at, pattern_at}
use Rattle.tree.specs.declared.rows.Gauge.{Gauge}
use Rattle.tree.specs.declared.rows.ModuleRow.{ModuleRow}
use Rattle.tree.specs.declared.rows.NameRow.{NameRow}
use Rattle.tree.specs.declared.rows.ParameterRow.{ParameterRow}
use Rattle.tree.specs.declared.rows.RecipeRow.{RecipeRow}
use Rattle.tree.specs.declared.rows.PatternRow.{PatternRow}
use Rattle.records.specs.Records.{Head}
use Rattle.records.specs.declared.counts.Counts.{Counts}

-- the first n rows
abbrev pub rows_at : {A V : Type 0} → (List ℕ → V → A) → List V → ℕ → List ℕ → List A
rows_at told rows n image = map (told image) (take n rows)

-- the same where no row means that the field is absent
abbrev pub some_rows_at : {A V : Type 0} → (List ℕ → V → A) → List V → ℕ → List ℕ → Option (List A)
some_rows_at told rows zero image = None
some_rows_at told rows (suc n) image = Some (rows_at told rows (suc n) image)

-- a table of so many places was filled up to n, and its places behind that are as they were
pub record Filled {V : Type 0} (places n : ℕ) (before after : List V) : Type 0 where
  pub fits : n ≤ places
  pub long : length after ≡ places
  pub rest : drop n after ≡ drop n before

-- no parameter, and no text
abbrev pub no_parameter : ParameterRow
no_parameter = record { default = None; flag = false; multiple = false; value = false; kind = Singular; long = None; letter = None; min = None; max = None; pattern = None }

abbrev pub no_text : Span
no_text = record { start = 0; len = 0 }

-- a row counts no more than it holds, and nothing stands in it behind its own count
pub record RecipeTidy (r : RecipeRow) : Type 0 where
  pub few : r.count ≤ 16
  pub rest : drop r.count r.parameters ≡ drop r.count (replicate 16 no_parameter)

abbrev pub PatternTidy : PatternRow → Type 0
PatternTidy r = drop r.count r.texts ≡ drop r.count (replicate 16 no_text)

abbrev pub gauge_at : List ℕ → Gauge → Range
gauge_at image g = range_at g

abbrev pub head_at : List ℕ → Counts → Head
head_at image n = record { modules = n.modules; names = n.names; recipes = n.recipes; patterns = n.patterns }

-- the tree that the rows say
abbrev pub tree_at : List ModuleRow → List NameRow → List RecipeRow → List PatternRow → List ℕ → Counts → Tree
tree_at modules names recipes patterns image n = record {
  modules = rows_at module_at modules n.modules image;
  names = rows_at name_at names n.names image;
  recipes = rows_at recipe_at recipes n.recipes image;
  patterns = rows_at pattern_at patterns n.patterns image;
}
