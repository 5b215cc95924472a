-- Where the names of a tree lead. Assumes nothing.
use Rattle.std.specs.Prelude.{ℕ, Bool, cond, ◌&&◌, List, length, is_some, Some, None, Option, ◌==◌}
use Rattle.std.specs.Option.{option_map, option_flatten}
use Rattle.std.specs.List.{slice_get}
use Rattle.std.specs.Str.{bytes_eq}
use Rattle.text.specs.Identifier.{Text}
use Rattle.tree.specs.Tree.{Tree, Module, Name}
use Rattle.register.specs.Kinds.{kind_number, labelled}
use Rattle.register.specs.Meaning.{NameMeaning}
use Rattle.register.specs.Parameters.{place_of}
use Rattle.register.specs.declared.kind.Kind.{Kind}
use Rattle.register.specs.declared.kind.Kind.TheVariants.{Recipe}

-- a name row of this module and kind
abbrev pub is_of_kind : ℕ → ℕ → Name → Bool
is_of_kind m kind n = n.within == m && n.kind == kind

-- the name row of this module and kind with this text
abbrev pub is_named : ℕ → ℕ → Text → Name → Bool
is_named m kind t n = is_of_kind m kind n && bytes_eq n.text t

-- where the name row at this place leads: to its number, or where its kind has labels the place is the label
abbrev pub leads : Kind → ℕ → Name → Option ℕ
leads kind place n = cond (labelled kind) (Some place) n.number

abbrev pub led_from : List Name → Kind → Option ℕ → Option ℕ
led_from names kind None = None
led_from names kind (Some place) = option_flatten (option_map (leads kind place) (slice_get names place))

abbrev pub tree_find : List Name → ℕ → Kind → Text → Option ℕ
tree_find names m kind t = led_from names kind (place_of (is_named m (kind_number kind) t) names)

-- names by the modules and name rows of a tree: module 0 is the root, and a module has recipes where it has a row of their kind
abbrev pub names_of : List Module → List Name → NameMeaning
names_of modules names = record {
  root = 0;
  modules = length modules;
  find = tree_find names;
  default = λ m. option_flatten (option_map (λ x. x.default) (slice_get modules m));
  has_recipes = λ m. is_some (place_of (is_of_kind m (kind_number Recipe)) names);
}

abbrev pub tree_names : Tree → NameMeaning
tree_names tree = names_of tree.modules tree.names
