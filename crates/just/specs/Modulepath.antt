-- just's module paths (modulepath.rs, lexer.rs). Assumes nothing.
use Rattle.std.specs.Prelude.{ℕ, Bool, true, false, cond, ◌&&◌, ◌||◌, List, [], ◌∷◌, ◌++◌, Ok, Err, Result, ◌==◌, nat_le}
use Rattle.std.specs.Option.{unwrap_or}
use Rattle.text.specs.Identifier.{Text}
use Rattle.just.specs.Str as str

pub record Modulepath : Type 0 where
  pub components : List Text
  pub spaced : Bool

-- `Lexer::is_identifier_start`
abbrev pub is_identifier_start : ℕ → Bool
is_identifier_start c = (nat_le 97 c && nat_le c 122) || ((nat_le 65 c && nat_le c 90) || c == 95)

-- `Lexer::is_identifier_continue`
abbrev pub is_identifier_continue : ℕ → Bool
is_identifier_continue c = is_identifier_start c || ((nat_le 48 c && nat_le c 57) || c == 45)

-- each character behind the first continues an identifier
abbrev pub all_continue : List ℕ → Bool
all_continue [] = true
all_continue (c ∷ cs) = is_identifier_continue c && all_continue cs

-- the characters of a name: there are some, the first starts an identifier and the others continue it
abbrev pub is_name : List ℕ → Bool
is_name [] = false
is_name (c ∷ cs) = is_identifier_start c && all_continue cs

-- each component is a name
abbrev pub all_names : List Text → Bool
all_names [] = true
all_names (name ∷ names) = is_name (str.chars name) && all_names names

-- the components, if each is a name
abbrev pub of_components : List Text → Bool → Result Modulepath (Unit {0})
of_components components spaced = cond (all_names components) (Ok (record { components = components; spaced = spaced })) (Err tt)

-- `try_from`
abbrev pub try_from : List Text → Result Modulepath (Unit {0})
try_from [] = of_components [] false
try_from (first ∷ []) =
    cond (str.starts_with (58 ∷ []) first || (str.ends_with (58 ∷ []) first || str.contains (58 ∷ 58 ∷ 58 ∷ []) first))
    (Err tt)
    (of_components (str.split_colons first) false)
try_from (first ∷ second ∷ path) = of_components (first ∷ second ∷ path) true

-- `from_argument`
abbrev pub from_argument : Text → Result Modulepath (Unit {0})
from_argument argument = try_from (unwrap_or (str.strip_suffix (58 ∷ 58 ∷ []) argument) argument ∷ [])

-- `join`
abbrev pub joined : Modulepath → Text → Modulepath
joined path name = record { components = path.components ++ name ∷ []; spaced = path.spaced }

-- as it is displayed: spaces or `::` between the components
abbrev pub shown : Modulepath → Text
shown path = str.join (cond path.spaced (32 ∷ []) (58 ∷ 58 ∷ [])) path.components
