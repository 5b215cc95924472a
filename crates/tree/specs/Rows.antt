-- What the rows of a tree say over an image's bytes. Assumes nothing.
use Rattle.std.specs.Prelude.{ℕ, zero, suc, List, map, take, Some, None, Option}
use Rattle.std.specs.Option.{option_map}
use Rattle.text.specs.Identifier.{Text}
use Rattle.register.specs.Kinds.{kind_number}
use Rattle.register.specs.ParameterNumber.{parameter_number}
use Rattle.text.specs.Spans.{text_at, texts_at}
use Rattle.tree.specs.Tree.{Module, Name, Parameter, Range, Pattern}
use Rattle.tree.specs.declared.rows.ModuleRow.{ModuleRow}
use Rattle.tree.specs.declared.rows.NameRow.{NameRow}
use Rattle.tree.specs.declared.rows.ParameterRow.{ParameterRow}
use Rattle.tree.specs.declared.rows.RecipeRow.{RecipeRow}
use Rattle.tree.specs.declared.rows.Gauge.{Gauge}
use Rattle.tree.specs.declared.rows.PatternRow.{PatternRow}

abbrev pub module_at : List ℕ → ModuleRow → Module
module_at image r = record { default = r.default }

abbrev pub name_at : List ℕ → NameRow → Name
name_at image r = record { within = r.«module»; kind = kind_number r.kind; text = text_at image r.text; number = r.number }

abbrev pub parameter_at : List ℕ → ParameterRow → Parameter
parameter_at image p = record {
  default = option_map (text_at image) p.default;
  flag = p.flag;
  multiple = p.multiple;
  value = p.value;
  kind = parameter_number p.kind;
  long = option_map (text_at image) p.long;
  letter = p.letter;
  min = p.min;
  max = p.max;
  pattern = p.pattern;
}

abbrev pub recipe_at : List ℕ → RecipeRow → List Parameter
recipe_at image r = map (parameter_at image) (take r.count r.parameters)

abbrev pub range_at : Gauge → Range
range_at g = record { low = g.low; high = g.high }

-- a count of 0: the field is absent
abbrev pub listed_at : List ℕ → ℕ → List Text → Option (List Text)
listed_at image zero texts = None
listed_at image (suc n) texts = Some (take (suc n) texts)

abbrev pub pattern_at : List ℕ → PatternRow → Pattern
pattern_at image p = record { texts = listed_at image p.count (texts_at image p.texts); range = option_map range_at p.gauge }
