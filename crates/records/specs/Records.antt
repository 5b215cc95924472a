-- The image of a tree, record by record. Assumes nothing.
use Rattle.std.specs.Prelude.{◌≡◌, ℕ, ◌<◌, ◌≤◌, Bool, List, [], ◌∷◌, length, is_some, Some, None, Option, nat_lt}
use Rattle.std.specs.declared.cmp.Ordering.TheVariants.{Less}
use Rattle.std.specs.Cmp.Lexicographic.{slice_cmp}
use Rattle.refusal.specs.declared.Refusal.TheVariants.{OutOfRange, NameNotAbove}
use Rattle.text.specs.Identifier.{Text}
use Rattle.format.specs.Format.{Format, number, checked, both, only_if, named, rows}
use Rattle.format.specs.Fields.{below, within, bits, bit, map_of, plain_text, name_text, counted}
use Rattle.tree.specs.Tree.{Module, Name, Parameter, Range, Pattern, Tree}
use Rattle.std.specs.Ordering.{nat_cmp}

-- the head: how many records of each kind follow
pub record Head : Type 0 where
  pub modules : ℕ
  pub names : ℕ
  pub recipes : ℕ
  pub patterns : ℕ

abbrev pub HeadParts : Type 0
HeadParts = ℕ × (ℕ × (ℕ × ℕ))

abbrev pub parts_of_head : Head → HeadParts
parts_of_head h = (h.modules, (h.names, (h.recipes, h.patterns)))

abbrev pub head_parts : Format HeadParts
head_parts =
    both (within 1 64 2) λ _.
    both (within 0 512 2) λ _.
    both (within 0 64 2) λ _.
    within 0 256 2

abbrev pub head : Format Head
head = named parts_of_head head_parts

-- a module: a default recipe, which exists
abbrev pub parts_of_module : Module → ℕ × Option ℕ
parts_of_module m = (map_of (is_some m.default ∷ []), m.default)

abbrev pub module_parts : ℕ → Format (ℕ × Option ℕ)
module_parts recipes =
    both (bits 1 1) λ map.
    only_if (bit 0 map) (below recipes 2)

abbrev pub module_record : ℕ → Format Module
module_record recipes = named parts_of_module (module_parts recipes)

-- a kind of name, of which 0 to 3 and no others have a number
pub record Kind (numbered : Bool) (kind : ℕ) : Type 0 where
  pub known : kind < 7
  pub fits : nat_lt kind 4 ≡ numbered

-- where a name's number leads: kinds 0 and 1 to a module, which for kind 0 is above the name's own; kinds 2 and 3 to a recipe
pub record Leads (modules recipes within kind n : ℕ) : Type 0 where
  pub above : kind ≡ 0 → within < n
  pub to_module : kind < 2 → n < modules
  pub to_recipe : 2 ≤ kind → n < recipes

abbrev pub NameParts : Type 0
NameParts = ℕ × (ℕ × (ℕ × (Text × Option ℕ)))

abbrev pub parts_of_name : Name → NameParts
parts_of_name r = (map_of (is_some r.number ∷ []), (r.within, (r.kind, (r.text, r.number))))

abbrev pub name_parts : ℕ → ℕ → Format NameParts
name_parts modules recipes =
    both (bits 1 1) λ map.
    both (below modules 2) λ own.
    both (checked OutOfRange (Kind (bit 0 map)) (number 1)) λ kind.
    both name_text λ _.
    only_if (bit 0 map) (checked OutOfRange (Leads modules recipes own kind) (number 2))

abbrev pub name_alone : ℕ → ℕ → Format Name
name_alone modules recipes = named parts_of_name (name_parts modules recipes)

-- name rows ascend by module, kind and text, a prefix first
abbrev pub key : Name → List ℕ
key r = r.within ∷ r.kind ∷ r.text

abbrev pub Above : Option Name → Name → Type 0
Above None r = Unit {0}
Above (Some last) r = slice_cmp nat_cmp (key last) (key r) ≡ Less

abbrev pub name_record : ℕ → ℕ → Option Name → Format Name
name_record modules recipes last = checked NameNotAbove (Above last) (name_alone modules recipes)

-- a Unicode scalar value: a code point that is no surrogate
pub record Scalar (c : ℕ) : Type 0 where
  pub point : c < 0x110000
  pub apart : 0xD800 ≤ c → c ≤ 0xDFFF → ⊥

-- a parameter; the pattern exists
abbrev pub map_of_parameter : Parameter → ℕ
map_of_parameter p = map_of (is_some p.default ∷ p.flag ∷ p.multiple ∷ p.value ∷ is_some p.kind ∷ is_some p.long ∷ is_some p.letter ∷ is_some p.min ∷ is_some p.max ∷ is_some p.pattern ∷ [])

abbrev pub ParameterParts : Type 0
ParameterParts = ℕ × (Option Text × (Option ℕ × (Option Text × (Option ℕ × (Option ℕ × (Option ℕ × Option ℕ))))))

abbrev pub parts_of_parameter : Parameter → ParameterParts
parts_of_parameter p = (map_of_parameter p, (p.default, (p.kind, (p.long, (p.letter, (p.min, (p.max, p.pattern)))))))

abbrev pub parameter_parts : ℕ → Format ParameterParts
parameter_parts patterns =
    both (bits 10 2) λ map.
    both (only_if (bit 0 map) (plain_text 0)) λ _.
    both (only_if (bit 4 map) (within 1 2 1)) λ _.
    both (only_if (bit 5 map) (plain_text 1)) λ _.
    both (only_if (bit 6 map) (checked OutOfRange Scalar (number 4))) λ _.
    both (only_if (bit 7 map) (number 4)) λ _.
    both (only_if (bit 8 map) (number 4)) λ _.
    only_if (bit 9 map) (below patterns 1)

abbrev pub parameter_record : ℕ → Format Parameter
parameter_record patterns = named parts_of_parameter (parameter_parts patterns)

-- a recipe: its parameters, if it has some
abbrev pub parts_of_recipe : List Parameter → ℕ × Option (List Parameter)
parts_of_recipe [] = (0, None)
parts_of_recipe (p ∷ ps) = (1, Some (p ∷ ps))

abbrev pub recipe_parts : ℕ → Format (ℕ × Option (List Parameter))
recipe_parts patterns =
    both (bits 1 1) λ map.
    only_if (bit 0 map) (counted 1 16 (parameter_record patterns))

abbrev pub recipe_record : ℕ → Format (List Parameter)
recipe_record patterns = named parts_of_recipe (recipe_parts patterns)

-- the low and the high of a gauge, the low not above the high
abbrev pub parts_of_range : Range → ℕ × ℕ
parts_of_range g = (g.low, g.high)

abbrev pub range_parts : Format (ℕ × ℕ)
range_parts =
    both (number 4) λ low.
    checked OutOfRange (λ high. low ≤ high) (number 4)

abbrev pub range : Format Range
range = named parts_of_range range_parts

-- a pattern: its listed texts, and its gauge
abbrev pub PatternParts : Type 0
PatternParts = ℕ × (Option (List Text) × Option Range)

abbrev pub parts_of_pattern : Pattern → PatternParts
parts_of_pattern p = (map_of (is_some p.texts ∷ is_some p.range ∷ []), (p.texts, p.range))

abbrev pub pattern_parts : Format PatternParts
pattern_parts =
    both (bits 2 1) λ map.
    both (only_if (bit 0 map) (counted 1 16 (plain_text 1))) λ _.
    only_if (bit 1 map) range

abbrev pub pattern_record : Format Pattern
pattern_record = named parts_of_pattern pattern_parts

-- the tree: the head, then modules, name rows, recipes and patterns
abbrev pub head_of : Tree → Head
head_of t = record { modules = length t.modules; names = length t.names; recipes = length t.recipes; patterns = length t.patterns }

abbrev pub TreeParts : Type 0
TreeParts = Head × (List Module × (List Name × (List (List Parameter) × List Pattern)))

abbrev pub parts_of_tree : Tree → TreeParts
parts_of_tree t = (head_of t, (t.modules, (t.names, (t.recipes, t.patterns))))

abbrev pub tree_parts : Format TreeParts
tree_parts =
    both head λ h.
    both (rows (λ _. module_record h.recipes) None h.modules) λ _.
    both (rows (name_record h.modules h.recipes) None h.names) λ _.
    both (rows (λ _. recipe_record h.patterns) None h.recipes) λ _.
    rows (λ _. pattern_record) None h.patterns

abbrev pub tree : Format Tree
tree = named parts_of_tree tree_parts
