-- The patterns of a tree as judges. Assumes nothing.
use Rattle.std.specs.Prelude.{◌≡◌, ℕ, Bool, false, List, [], map, Some, None, Option}
use Rattle.std.specs.List.{slice_get}
use Rattle.text.specs.Identifier.{Text}
use Rattle.tree.specs.Tree.{Tree, Pattern, Range}
use Rattle.tree.specs.Rows.{pattern_at}
use Rattle.tree.specs.declared.rows.PatternRow.{PatternRow}
use Rattle.judge.specs.Meaning.{JudgeMeaning}
use Rattle.judge.specs.Listed.{listed}
use Rattle.judge.specs.Gauge.{on_gauge}

-- the listed texts; without that field, nothing
abbrev pub by_texts : Option (List Text) → Text → Bool
by_texts None text = false
by_texts (Some texts) text = listed texts text

-- what the gauge accepts; without that field, nothing
abbrev pub by_range : Option Range → Text → Bool
by_range None text = false
by_range (Some range) text = on_gauge range.low range.high text

-- the fields of a pattern; without such a pattern, none
abbrev pub texts_of : Option Pattern → Option (List Text)
texts_of None = None
texts_of (Some pattern) = pattern.texts

abbrev pub range_of : Option Pattern → Option Range
range_of None = None
range_of (Some pattern) = pattern.range

abbrev pub pattern_texts : List Pattern → JudgeMeaning
pattern_texts patterns number text = by_texts (texts_of (slice_get patterns number)) text

abbrev pub pattern_gauges : List Pattern → JudgeMeaning
pattern_gauges patterns number text = by_range (range_of (slice_get patterns number)) text

-- what the texts judge and the gauge judge of a tree accept
abbrev pub tree_texts : Tree → JudgeMeaning
tree_texts tree = pattern_texts tree.patterns

abbrev pub tree_gauges : Tree → JudgeMeaning
tree_gauges tree = pattern_gauges tree.patterns

-- The same over the rows of a tree.

abbrev pub texts_over : List ℕ → List PatternRow → JudgeMeaning
texts_over image rows = pattern_texts (map (pattern_at image) rows)

-- a gauge has no texts, so any bytes will do
abbrev pub gauges_over : List PatternRow → JudgeMeaning
gauges_over rows = pattern_gauges (map (pattern_at []) rows)

-- the judges over the rows of a tree's patterns are the tree's
pub record OfTree (image : List ℕ) (rows : List PatternRow) (tree : Tree) : Type 0 where
  pub texts : (number : ℕ) (text : Text) → texts_over image rows number text ≡ tree_texts tree number text
  pub gauges : (number : ℕ) (text : Text) → gauges_over rows number text ≡ tree_gauges tree number text

abbrev pub JudgesOfTree : Type 0
JudgesOfTree = (image : List ℕ) (rows : List PatternRow) (tree : Tree) → tree.patterns ≡ map (pattern_at image) rows → OfTree image rows tree
