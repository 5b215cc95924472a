-- The tree's format has one tree or one fault at most.
use Rattle.std.proofs.Common.{◌≡◌, ℕ, Bool, false, List, [], ◌∷◌, get_or, is_some, Some, None, Option, sym, refl, ap, ◌∙◌, arith, lit<}
use Rattle.format.specs.Fields.{bit}
use Rattle.format.specs.Sure.{Sure}
use Rattle.format.proofs.Certain.{number_sure, below_sure, within_sure, text_sure, counted_sure, checked_sure, both_sure, only_sure, named_sure, rows_sure}
use Rattle.format.proofs.Bitwise.{bit_of}
use Rattle.tree.specs.Tree.{Module, Name, Parameter, Range, Pattern, Tree}
use Rattle.records.specs.Records.{Head, head, HeadParts, module_record, NameParts, parts_of_name, name_record, ParameterParts, parts_of_parameter, parameter_record, parts_of_recipe, recipe_record, range, PatternParts, pattern_record, TreeParts, tree}

head_sure : Sure head
head_sure =
    named_sure _ _ (λ a b e. let r : HeadParts → Head = λ x. record { modules = x.0; names = x.1.0; recipes = x.1.1.0; patterns = x.1.1.1 } in ap r e)
    (both_sure _ _ (within_sure 1 64 2 (lit< tt)) λ _.
    both_sure _ _ (within_sure 0 512 2 (lit< tt)) λ _.
    both_sure _ _ (within_sure 0 64 2 (lit< tt)) λ _.
    within_sure 0 256 2 (lit< tt))

module-sure : (recipes : ℕ) → Sure (module_record recipes)
module-sure recipes =
    named_sure _ _ (λ a b e. let r : ℕ × Option ℕ → Module = λ x. record { default = x.1 } in ap r e)
    (both_sure _ _ (below_sure _ 1 (lit< tt)) λ map.
    only_sure _ (below_sure recipes 2 (lit< tt)) (bit 0 map))

name_sure : (modules recipes : ℕ) (last : Option Name) → Sure (name_record modules recipes last)
name_sure modules recipes last =
    checked_sure _ _ _ (named_sure parts_of_name _ (λ a b e. let r : NameParts → Name = λ x. record { within = x.1.0; kind = x.1.1.0; text = x.1.1.1.0; number = x.1.1.1.1 } in ap r e)
    (both_sure _ _ (below_sure _ 1 (lit< tt)) λ map.
    both_sure _ _ (below_sure modules 2 (lit< tt)) λ own.
    both_sure _ _ (checked_sure _ _ _ (number_sure 1 (lit< tt))) λ kind.
    both_sure _ _ (text_sure 1 _) λ _.
    only_sure _ (checked_sure _ _ _ (number_sure 2 (lit< tt))) (bit 0 map)))

-- a parameter's map tells its flags
bits_of : Parameter → List Bool
bits_of p = is_some p.default ∷ p.flag ∷ p.multiple ∷ p.value ∷ is_some p.kind ∷ is_some p.long ∷ is_some p.letter ∷ is_some p.min ∷ is_some p.max ∷ is_some p.pattern ∷ []

told_bit : (i : ℕ) (a b : Parameter) → parts_of_parameter a ≡ parts_of_parameter b → get_or (bits_of a) i false ≡ get_or (bits_of b) i false
unfolding bits_of
told_bit i a b e = sym (bit_of i (bits_of a)) ∙ ap (λ x. bit i x.0) e ∙ bit_of i (bits_of b)

parameter_of_lem : Bool → Bool → Bool → ParameterParts → Parameter
parameter_of_lem flag multiple value x = record {
  default = x.1.0;
  flag = flag;
  multiple = multiple;
  value = value;
  kind = x.1.1.0;
  long = x.1.1.1.0;
  letter = x.1.1.1.1.0;
  min = x.1.1.1.1.1.0;
  max = x.1.1.1.1.1.1.0;
  pattern = x.1.1.1.1.1.1.1;
}

parameter_one : (a b : Parameter) → parts_of_parameter a ≡ parts_of_parameter b → a ≡ b
unfolding bits_of parameter_of_lem
parameter_one a b e =
    let f : a.flag ≡ b.flag = told_bit 1 a b e in
    let m : a.multiple ≡ b.multiple = told_bit 2 a b e in
    let v : a.value ≡ b.value = told_bit 3 a b e in
    ap (parameter_of_lem a.flag a.multiple a.value) e
    ∙ ap (λ x. parameter_of_lem x a.multiple a.value (parts_of_parameter b)) f
    ∙ ap (λ x. parameter_of_lem b.flag x a.value (parts_of_parameter b)) m
    ∙ ap (λ x. parameter_of_lem b.flag b.multiple x (parts_of_parameter b)) v

parameter_sure : (patterns : ℕ) → Sure (parameter_record patterns)
parameter_sure patterns =
    named_sure parts_of_parameter _ parameter_one
    (both_sure _ _ (below_sure _ 2 (lit< tt)) λ map.
    both_sure _ _ (only_sure _ (text_sure 0 _) (bit 0 map)) λ _.
    both_sure _ _ (only_sure _ (within_sure 1 2 1 (lit< tt)) (bit 4 map)) λ _.
    both_sure _ _ (only_sure _ (text_sure 1 _) (bit 5 map)) λ _.
    both_sure _ _ (only_sure _ (checked_sure _ _ _ (number_sure 4 (lit< tt))) (bit 6 map)) λ _.
    both_sure _ _ (only_sure _ (number_sure 4 (lit< tt)) (bit 7 map)) λ _.
    both_sure _ _ (only_sure _ (number_sure 4 (lit< tt)) (bit 8 map)) λ _.
    only_sure _ (below_sure patterns 1 (lit< tt)) (bit 9 map))

recipe_one : (a b : List Parameter) → parts_of_recipe a ≡ parts_of_recipe b → a ≡ b
recipe_one [] [] e = refl
recipe_one [] (q ∷ qs) e = absurd (let z : ◌≡◌ {A = ℕ} 0 1 = ap (λ x. x.0) e in omega arith)
recipe_one (p ∷ ps) [] e = absurd (let z : ◌≡◌ {A = ℕ} 1 0 = ap (λ x. x.0) e in omega arith)
recipe_one (p ∷ ps) (q ∷ qs) e = let z : ◌≡◌ {A = Option (List Parameter)} (Some (p ∷ ps)) (Some (q ∷ qs)) = ap (λ x. x.1) e in cc

recipe_sure : (patterns : ℕ) → Sure (recipe_record patterns)
recipe_sure patterns =
    named_sure parts_of_recipe _ recipe_one
    (both_sure _ _ (below_sure _ 1 (lit< tt)) λ map.
    only_sure _ (counted_sure 1 16 _ (parameter_sure patterns)) (bit 0 map))

range_sure : Sure range
range_sure =
    named_sure _ _ (λ a b e. let r : ℕ × ℕ → Range = λ x. record { low = x.0; high = x.1 } in ap r e)
    (both_sure _ _ (number_sure 4 (lit< tt)) λ low.
    checked_sure _ _ _ (number_sure 4 (lit< tt)))

pattern_sure : Sure pattern_record
pattern_sure =
    named_sure _ _ (λ a b e. let r : PatternParts → Pattern = λ x. record { texts = x.1.0; range = x.1.1 } in ap r e)
    (both_sure _ _ (below_sure _ 1 (lit< tt)) λ map.
    both_sure _ _ (only_sure _ (counted_sure 1 16 _ (text_sure 1 _)) (bit 0 map)) λ _.
    only_sure _ range_sure (bit 1 map))

pub tree_sure : Sure tree
tree_sure =
    named_sure _ _ (λ a b e. let r : TreeParts → Tree = λ x. record { modules = x.1.0; names = x.1.1.0; recipes = x.1.1.1.0; patterns = x.1.1.1.1 } in ap r e)
    (both_sure _ _ head_sure λ h.
    both_sure _ _ (rows_sure _ (λ _. module-sure h.recipes) h.modules None) λ _.
    both_sure _ _ (rows_sure _ (name_sure h.modules h.recipes) h.names None) λ _.
    both_sure _ _ (rows_sure _ (λ _. recipe_sure h.patterns) h.recipes None) λ _.
    rows_sure _ (λ _. pattern_sure) h.patterns None)
