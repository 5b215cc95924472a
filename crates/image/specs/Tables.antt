-- Tables with all rows zero, and the tree that tables say. Assumes nothing.
use Rattle.std.specs.Prelude.{ℕ, false, List, map, take, replicate, None}
use Rattle.register.specs.declared.kind.Kind.TheVariants.{Module}
use Rattle.register.specs.declared.parameter.ParameterKind.TheVariants.{Singular}
use Rattle.text.specs.declared.span.Span.{Span}
use Rattle.tree.specs.Tree.{Tree}
use Rattle.tree.specs.Rows.{module_at, name_at, recipe_at, pattern_at}
use Rattle.tree.specs.declared.rows.ModuleRow.{ModuleRow}
use Rattle.tree.specs.declared.rows.NameRow.{NameRow}
use Rattle.tree.specs.declared.rows.ParameterRow.{ParameterRow}
use Rattle.tree.specs.declared.rows.RecipeRow.{RecipeRow}
use Rattle.tree.specs.declared.rows.PatternRow.{PatternRow}
use Rattle.tree.specs.declared.rows.LongRow.{LongRow}
use Rattle.tree.specs.declared.rows.LetterRow.{LetterRow}
use Rattle.image.specs.declared.tables.Sizes.{Sizes}
use Rattle.image.specs.declared.tables.Tables.{Tables}

abbrev pub no_text : Span
no_text = record { start = 0; len = 0 }

abbrev pub no_module : ModuleRow
no_module = record { default = None }

abbrev pub no_name : NameRow
no_name = record { «module» = 0; kind = Module; text = no_text; number = None }

abbrev pub no_parameter : ParameterRow
no_parameter = record { default = None; flag = false; multiple = false; value = false; kind = Singular; long = None; letter = None; min = None; max = None; pattern = None }

abbrev pub no_recipe : RecipeRow
no_recipe = record { count = 0; parameters = replicate 16 no_parameter }

abbrev pub no_pattern : PatternRow
no_pattern = record { count = 0; texts = replicate 16 no_text; gauge = None }

abbrev pub no_long : LongRow
no_long = record { recipe = 0; text = no_text; place = 0 }

abbrev pub no_letter : LetterRow
no_letter = record { recipe = 0; letter = 0; place = 0 }

abbrev pub no_sizes : Sizes
no_sizes = record { modules = 0; names = 0; recipes = 0; patterns = 0; longs = 0; letters = 0 }

-- all rows zero
abbrev pub zero : Tables
zero = record {
  sizes = no_sizes;
  modules = replicate 64 no_module;
  names = replicate 512 no_name;
  recipes = replicate 64 no_recipe;
  patterns = replicate 256 no_pattern;
  longs = replicate 1024 no_long;
  letters = replicate 1024 no_letter;
}

-- the filled rows of each table
abbrev pub modules_in : Tables → List ModuleRow
modules_in t = take t.sizes.modules t.modules

abbrev pub names_in : Tables → List NameRow
names_in t = take t.sizes.names t.names

abbrev pub recipes_in : Tables → List RecipeRow
recipes_in t = take t.sizes.recipes t.recipes

abbrev pub patterns_in : Tables → List PatternRow
patterns_in t = take t.sizes.patterns t.patterns

abbrev pub longs_in : Tables → List LongRow
longs_in t = take t.sizes.longs t.longs

abbrev pub letters_in : Tables → List LetterRow
letters_in t = take t.sizes.letters t.letters

-- the tree that the filled rows say over the image's bytes
abbrev pub tree_in : List ℕ → Tables → Tree
tree_in image t = record {
  modules = map (module_at image) (modules_in t);
  names = map (name_at image) (names_in t);
  recipes = map (recipe_at image) (recipes_in t);
  patterns = map (pattern_at image) (patterns_in t);
}
