-- just's invocation parser (invocation_parser.rs). `next` and `arguments` are the parser's own, `all` are the justfiles with the root first. Assumes nothing.
use Rattle.std.specs.Prelude.{ℕ, zero, suc, ◌+◌, Bool, true, false, cond, not, ◌&&◌, ◌||◌, List, [], ◌∷◌, ◌++◌, map, length, drop, is_some, Some, None, Ok, Err, Option, Result, ◌==◌, nat_eq, nat_lt, slice_set}
use Rattle.std.specs.Option.{option_map}
use Rattle.std.specs.List.{slice_get}
use Rattle.std.specs.Str.{bytes_eq}
use Rattle.text.specs.Identifier.{Text}
use Rattle.just.specs.Str as str
use Rattle.just.specs.Table.{Entry, Map, get, collected}
use Rattle.just.specs.Table as table
use Rattle.just.specs.Results.{and_then, if_let}
use Rattle.just.specs.ParameterKind.{is_variadic, is_star}
use Rattle.just.specs.Modulepath.{Modulepath, from_argument, try_from, joined, shown}
use Rattle.just.specs.Error.{Error, Spot, Switch}
use Rattle.just.specs.Error.Switch.{Long, Short}
use Rattle.just.specs.Error.Error.{UnknownRecipe, UnknownSubmodule, ExpectedSubmoduleButFoundRecipe, RecipeDisabled, AliasDisabled, ModuleAbsent, NoRecipes, NoDefaultRecipe, InvalidOption, MissingOption, PositionalArgumentCountMismatch, Panicked}
use Rattle.just.specs.Value as value
use Rattle.just.specs.Value.{Value}
use Rattle.just.specs.Parameter.{Parameter, is_option, is_required, check_value_count, check_pattern_match}
use Rattle.just.specs.Recipe.{Recipe, count_where, check_can_be_default_recipe}
use Rattle.just.specs.Justfile.{Justfile, recipe_named, submodule}
use Rattle.just.specs.Switch.{Applied, apply}

-- `resolve_recipe`.

-- a recipe, and how many arguments were consumed
pub record Resolved : Type 0 where
  pub recipe : Recipe
  pub consumed : ℕ

-- the counters at the path's component i: with a module path all components stand in one argument
abbrev pub on_path : ℕ → Bool → ℕ → Spot
on_path next modulepath i = record { next = next; path = 0; i = cond modulepath 0 i; index = 0 }

-- where the components end: the default
abbrev pub default_by : ℕ → ℕ → Option Recipe → Bool → Result Resolved Error
default_by next count default no_recipes =
    if_let default
    (λ recipe.
    and_then (check_can_be_default_recipe (on_path next true 0) recipe) λ _.
    Ok (record { recipe = recipe; consumed = count }))
    (cond no_recipes (Err (NoRecipes (on_path next true 0))) (Err (NoDefaultRecipe (on_path next true 0))))

abbrev pub default_of : ℕ → ℕ → Justfile → Result Resolved Error
default_of next count current = default_by next count current.default (table.is_empty current.recipes)

-- a component that leads to no module, with `path` up to it, by what the tables have of it
abbrev pub leaf_by : ℕ → Bool → ℕ → ℕ → List Text → Justfile → Text → Option Recipe → Option ℕ → Option ℕ → Option ℕ → Result Resolved Error
leaf_by next modulepath count i path current arg named disabled_recipe disabled_alias absent =
    if_let named
    (λ recipe.
    cond (modulepath && nat_lt (suc i) count)
    (Err (ExpectedSubmoduleButFoundRecipe (on_path next modulepath i) (str.join (58 ∷ 58 ∷ []) path)))
    (Ok (record { recipe = recipe; consumed = suc i })))
    (if_let disabled_recipe
    (λ label. Err (RecipeDisabled (on_path next modulepath i) (record { components = path; spaced = not modulepath }) label))
    (if_let disabled_alias
    (λ label. Err (AliasDisabled (on_path next modulepath i) (record { components = path; spaced = not modulepath }) label))
    (if_let absent
    (λ label. Err (ModuleAbsent (on_path next modulepath i) (joined current.module_path arg) label))
    (cond (modulepath && nat_lt (suc i) count)
    (Err (UnknownSubmodule (on_path next modulepath i) (str.join (58 ∷ 58 ∷ []) path)))
    (Err (UnknownRecipe (on_path next modulepath i) (shown (record { components = path; spaced = not modulepath }))))))))

abbrev pub leaf : ℕ → Bool → ℕ → ℕ → List Text → Justfile → Text → Result Resolved Error
leaf next modulepath count i path current arg =
    leaf_by next modulepath count i path current arg
    (recipe_named current arg)
    (get current.disabled_recipes arg)
    (get current.disabled_aliases arg)
    (get current.absent_modules arg)

-- the loop over the components: `count` of them in all, `i` and `path` behind, `args` to come
abbrev pub resolve_from : List Justfile → ℕ → Bool → ℕ → ℕ → List Text → Justfile → List Text → Result Resolved Error
resolve_from all next modulepath count i path current [] = default_of next count current
resolve_from all next modulepath count i path current (arg ∷ args) =
    let onward : Option Justfile → Result Resolved Error = λ module!. if_let module! (λ m. resolve_from all next modulepath count (suc i) (path ++ arg ∷ []) m args) (Err Panicked) in
    if_let (get current.modules arg) (λ m. onward (slice_get all m))
    (if_let (get current.module_aliases arg) (λ alias. onward (submodule all alias.target))
    (leaf next modulepath count i (path ++ arg ∷ []) current arg))

abbrev pub resolve_recipe : List Justfile → ℕ → Bool → List Text → Result Resolved Error
resolve_recipe all next modulepath args =
    if_let (slice_get all 0) (λ root. resolve_from all next modulepath (length args) 0 [] root args) (Err Panicked)

-- `parse_invocation`.

-- The recipe.

abbrev pub spaced : List Justfile → ℕ → List Text → Result Resolved Error
spaced all next arguments = resolve_recipe all next false (drop next arguments)

-- an error of `from_argument` and `try_from` is `UnknownRecipe`
abbrev pub of_modulepath : List Justfile → ℕ → Text → Result Modulepath (Unit {0}) → Result Resolved Error
of_modulepath all next word (Err e) = Err (UnknownRecipe (on_path next true 0) word)
of_modulepath all next word (Ok modulepath) =
    and_then (resolve_recipe all next true modulepath.components) λ found.
    Ok (record { recipe = found.recipe; consumed = 1 })

-- no argument is left
abbrev pub of_nothing : Result Resolved Error → Result Resolved Error
of_nothing result = and_then result λ found. cond (found.consumed == 0) (Ok found) (Err Panicked)

abbrev pub recipe_of : List Justfile → ℕ → List Text → Result Resolved Error
recipe_of all next arguments =
    if_let (slice_get arguments next)
    (λ word.
    cond (str.contains (58 ∷ []) word)
    (of_modulepath all next word (cond (next + 1 == length arguments) (from_argument word) (try_from (word ∷ []))))
    (spaced all next arguments))
    (of_nothing (spaced all next arguments))

-- The maps: each parameter with its index, counted from i.

abbrev pub entry_of : {K : Type 0} → Option K → ℕ → List (Entry K ℕ) → List (Entry K ℕ)
entry_of None i es = es
entry_of (Some name) i es = record { key = name; value = i } ∷ es

abbrev pub entries_by : {K : Type 0} → (Parameter → Option K) → ℕ → List Parameter → List (Entry K ℕ)
entries_by name i [] = []
entries_by name i (p ∷ ps) = entry_of (name p) i (entries_by name (suc i) ps)

abbrev pub long_of : List Parameter → Map Text ℕ
long_of ps = collected [] (entries_by (λ p. p.long) 0 ps)

abbrev pub short_of : List Parameter → Map ℕ ℕ
short_of ps = collected [] (entries_by (λ p. p.short) 0 ps)

abbrev pub positional_from : ℕ → List Parameter → List ℕ
positional_from i [] = []
positional_from i (p ∷ ps) = cond (not (is_option p)) (i ∷ positional_from (suc i) ps) (positional_from (suc i) ps)

-- The loop over the arguments behind the path.

pub record Loop : Type 0 where
  pub arguments : List Value
  pub end_of_options : Bool
  pub i : ℕ
  pub positional_index : ℕ
  pub positional_accepted : ℕ

-- what one turn of the loop does
pub data Turn : Type 0 where
  Continue : Loop → Turn
  Break : Turn
  Return : Error → Turn

abbrev pub end_of_options_turn : Loop → Turn
end_of_options_turn l = Continue (record { arguments = l.arguments; end_of_options = true; i = suc l.i; positional_index = l.positional_index; positional_accepted = l.positional_accepted })

-- the switches of one argument, in sequence: `index` are behind, of `count`
abbrev pub apply_all : (ℕ → Spot) → Recipe → Map Text ℕ → Map ℕ ℕ → List Text → Option Text → ℕ → ℕ → List Switch → List Value → ℕ → Result Applied Error
apply_all spot recipe long short rest value count index [] arguments i = Ok (record { arguments = arguments; i = i })
apply_all spot recipe long short rest value count index (switch ∷ switches) arguments i =
    let last = nat_eq (suc index) count in
    and_then (apply (spot index) recipe long short switch arguments rest i (cond last value None) last) λ applied.
    apply_all spot recipe long short rest value count (suc index) switches applied.arguments applied.i

-- the name without dashes; the argument starts with one, so that one of the two is some
abbrev pub undashed : Text → Text
undashed argument = if_let (str.strip_prefix (45 ∷ 45 ∷ []) argument) (λ name. name) (if_let (str.strip_prefix (45 ∷ []) argument) (λ name. name) [])

-- the name up to `=`, and the value behind it
abbrev pub name_of : Text → Text
name_of name = if_let (str.split_once 61 name) (λ h. h.left) name

abbrev pub value_of : Text → Option Text
value_of name = option_map (λ h. h.right) (str.split_once 61 name)

abbrev pub switches_of : Text → Text → List Switch
switches_of argument name = cond (str.starts_with (45 ∷ 45 ∷ []) argument) (Long name ∷ []) (map Short (str.chars name))

abbrev pub applied : Loop → Result Applied Error → Turn
applied l (Err e) = Return e
applied l (Ok a) = Continue (record { arguments = a.arguments; end_of_options = l.end_of_options; i = suc a.i; positional_index = l.positional_index; positional_accepted = l.positional_accepted })

abbrev pub switch_turn : (ℕ → ℕ → Spot) → Recipe → Map Text ℕ → Map ℕ ℕ → List Text → Loop → Text → Turn
switch_turn spot recipe long short rest l argument =
    let name = name_of (undashed argument) in
    let switches = switches_of argument name in
    cond (str.is_empty name)
    (Return (InvalidOption (spot l.i 0) argument))
    (applied l (apply_all (spot l.i) recipe long short rest (value_of (undashed argument)) (length switches) 0 switches l.arguments l.i))

abbrev pub positional_turn : ℕ → Recipe → List ℕ → Loop → Text → Turn
positional_turn path recipe positional l argument =
    if_let (slice_get positional l.positional_index)
    (λ index.
    if_let (slice_get l.arguments index)
    (λ group.
    if_let (slice_get recipe.parameters index)
    (λ parameter.
    Continue (record {
      arguments = slice_set l.arguments index (group ++ record { text = argument; word = path + l.i } ∷ []);
      end_of_options = l.end_of_options;
      i = suc l.i;
      positional_index = cond (not (is_variadic parameter.kind)) (suc l.positional_index) l.positional_index;
      positional_accepted = suc l.positional_accepted;
    }))
    (Return Panicked))
    (Return Panicked))
    Break

abbrev pub turn : (ℕ → ℕ → Spot) → Recipe → Map Text ℕ → Map ℕ ℕ → List ℕ → List Text → Loop → Text → Turn
turn spot recipe long short positional rest l argument =
    cond (not l.end_of_options && bytes_eq argument (45 ∷ 45 ∷ []))
    (end_of_options_turn l)
    (cond (not l.end_of_options && (str.starts_with (45 ∷ []) argument && not (bytes_eq argument (45 ∷ []))))
    (switch_turn spot recipe long short rest l argument)
    (positional_turn (spot 0 0).path recipe positional l argument))

abbrev pub on_turn : Turn → Loop → (Loop → Result Loop Error) → Result Loop Error
on_turn (Continue l) before go = go l
on_turn Break before go = Ok before
on_turn (Return e) before go = Err e

-- with fuel above the number of arguments
abbrev pub loop : (ℕ → ℕ → Spot) → Recipe → Map Text ℕ → Map ℕ ℕ → List ℕ → List Text → ℕ → Loop → Result Loop Error
loop spot recipe long short positional rest zero l = Err Panicked
loop spot recipe long short positional rest (suc fuel) l =
    if_let (slice_get rest l.i)
    (λ argument. on_turn (turn spot recipe long short positional rest l argument) l (λ after. loop spot recipe long short positional rest fuel after))
    (Ok l)

-- What is missing.

pub data Gap : Type 0 where
  Filled : Gap
  MissingSwitch : Switch → Gap
  MissingPositional : Gap

abbrev pub gap : Parameter → Value → Gap
gap p group =
    cond (not (value.is_empty group)) Filled
    (cond (is_some p.default || (is_star p.kind || p.flag)) Filled
    (if_let p.long (λ name. MissingSwitch (Long name))
    (if_let p.short (λ name. MissingSwitch (Short name))
    MissingPositional)))

abbrev pub on_gap : Spot → ℕ → ℕ → Gap → ℕ → (ℕ → Result ℕ Error) → Result ℕ Error
on_gap spot recipe place Filled missing go = go missing
on_gap spot recipe place (MissingSwitch s) missing go = Err (MissingOption spot recipe s place)
on_gap spot recipe place MissingPositional missing go = go (suc missing)

-- `missing_positional`, from the parameter at a place on
abbrev pub missing_positional : Spot → ℕ → ℕ → List Parameter → List Value → ℕ → Result ℕ Error
missing_positional spot recipe place [] groups missing = Ok missing
missing_positional spot recipe place (p ∷ ps) [] missing = Ok missing
missing_positional spot recipe place (p ∷ ps) (g ∷ gs) missing = on_gap spot recipe place (gap p g) missing (λ m. missing_positional spot recipe (suc place) ps gs m)

abbrev pub any_variadic : List Parameter → Bool
any_variadic [] = false
any_variadic (p ∷ ps) = (is_variadic p.kind && not (is_option p)) || any_variadic ps

-- the largest number of positional arguments: `usize::MAX - 1` where one is variadic
abbrev pub max_positional : List Parameter → ℕ
max_positional ps = cond (any_variadic ps) 0xFFFFFFFFFFFFFFFE (count_where (λ p. not (is_option p)) ps)

abbrev pub check_missing : Spot → Recipe → ℕ → ℕ → Result (Unit {0}) Error
check_missing spot recipe accepted missing =
    cond (nat_lt 0 missing)
    (Err (PositionalArgumentCountMismatch spot recipe.number accepted (count_where (λ p. is_required p && not (is_option p)) recipe.parameters) (max_positional recipe.parameters)))
    (Ok tt)

-- The values.

abbrev pub check_elements : (ℕ → Text → Bool) → (ℕ → Spot) → ℕ → ℕ → Option ℕ → Value → Result (Unit {0}) Error
check_elements is_match spot recipe place pattern [] = Ok tt
check_elements is_match spot recipe place pattern (e ∷ es) =
    and_then (check_pattern_match is_match (spot e.word) recipe place pattern e.text) λ _.
    check_elements is_match spot recipe place pattern es

abbrev pub check_group : (ℕ → Text → Bool) → (ℕ → Spot) → ℕ → ℕ → Parameter → Value → Result (Unit {0}) Error
check_group is_match spot recipe place p group =
    cond p.value (Ok tt)
    (and_then (cond (not (value.is_empty group)) (check_value_count (spot 0) recipe place p group) (Ok tt)) λ _.
    check_elements is_match spot recipe place p.pattern group)

-- from the parameter at a place on
abbrev pub check_groups : (ℕ → Text → Bool) → (ℕ → Spot) → ℕ → ℕ → List Parameter → List Value → Result (Unit {0}) Error
check_groups is_match spot recipe place [] groups = Ok tt
check_groups is_match spot recipe place (p ∷ ps) [] = Ok tt
check_groups is_match spot recipe place (p ∷ ps) (g ∷ gs) =
    and_then (check_group is_match spot recipe place p g) λ _.
    check_groups is_match spot recipe (suc place) ps gs

-- The invocation: its recipe and a group for each parameter; and the parser's `next` before and behind it.
pub record Invocation : Type 0 where
  pub recipe : Recipe
  pub arguments : List Value
  pub first : ℕ
  pub next : ℕ

-- a group for each parameter, all empty
abbrev pub empty_groups : List Parameter → List Value
empty_groups [] = []
empty_groups (p ∷ ps) = [] ∷ empty_groups ps

abbrev pub start_of : List Parameter → Loop
start_of ps = record {
  arguments = empty_groups ps;
  end_of_options = table.is_empty (long_of ps) && table.is_empty (short_of ps);
  i = 0;
  positional_index = 0;
  positional_accepted = 0;
}

-- the counters behind a path
abbrev pub behind : ℕ → ℕ → ℕ → ℕ → Spot
behind next path i index = record { next = next; path = path; i = i; index = index }

-- what follows the path of a recipe
abbrev pub parse_arguments : (ℕ → Text → Bool) → ℕ → Resolved → List Text → Result Loop Error
parse_arguments is_match next found rest =
    let recipe = found.recipe in
    let ps = recipe.parameters in
    let spot = behind next found.consumed in
    and_then (loop spot recipe (long_of ps) (short_of ps) (positional_from 0 ps) rest (suc (length rest)) (start_of ps)) λ l.
    and_then (missing_positional (spot 0 0) recipe.number 0 ps l.arguments 0) λ missing.
    and_then (check_missing (spot 0 0) recipe l.positional_accepted missing) λ _.
    and_then (check_groups is_match (λ word. behind next 0 word 0) recipe.number 0 ps l.arguments) λ _.
    Ok l

abbrev pub parse_invocation : (ℕ → Text → Bool) → List Justfile → ℕ → List Text → Result Invocation Error
parse_invocation is_match all next arguments =
    and_then (recipe_of all next arguments) λ found.
    and_then (parse_arguments is_match next found (drop (next + found.consumed) arguments)) λ l.
    Ok (record { recipe = found.recipe; arguments = l.arguments; first = next; next = (next + found.consumed) + l.i })

-- `parse_invocations`.

abbrev pub push_invocation : Invocation → Result (List Invocation) Error → Result (List Invocation) Error
push_invocation invocation (Ok invocations) = Ok (invocation ∷ invocations)
push_invocation invocation (Err e) = Err e

-- the loop from `next` on, with fuel above the number of arguments
abbrev pub parse_from : (ℕ → Text → Bool) → List Justfile → List Text → ℕ → ℕ → Result (List Invocation) Error
parse_from is_match all arguments zero next = Err Panicked
parse_from is_match all arguments (suc fuel) next =
    and_then (parse_invocation is_match all next arguments) λ invocation.
    push_invocation invocation
    (elim (invocation.next == length arguments) [ true ↦ Ok [] | false ↦ parse_from is_match all arguments fuel invocation.next ])

abbrev pub parse_invocations : (ℕ → Text → Bool) → List Justfile → List Text → Result (List Invocation) Error
parse_invocations is_match all arguments = parse_from is_match all arguments (suc (length arguments)) 0
