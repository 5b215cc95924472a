-- just's maps (`BTreeMap`, and `Table` of table.rs): a key and its value in each entry; of entries with one key the first is read. Assumes nothing.
use Rattle.std.specs.Prelude.{Bool, true, false, cond, List, [], ◌∷◌, Some, None, Option}
use Rattle.std.specs.Str.{bytes_eq}
use Rattle.text.specs.Identifier.{Text}

pub record Entry (K V : Type 0) : Type 0 where
  pub key : K
  pub value : V

abbrev pub Map : Type 0 → Type 0 → Type 0
Map K V = List (Entry K V)

-- a map by names
abbrev pub Table : Type 0 → Type 0
Table V = Map Text V

-- `get`, where `same` compares keys
abbrev pub find : {K V : Type 0} → (K → K → Bool) → Map K V → K → Option V
find same [] key = None
find same (e ∷ m) key = cond (same e.key key) (Some e.value) (find same m key)

abbrev pub get : {V : Type 0} → Table V → Text → Option V
get m key = find bytes_eq m key

abbrev pub is_empty : {K V : Type 0} → Map K V → Bool
is_empty [] = true
is_empty (e ∷ m) = false

-- `collect`: the entries are inserted one by one, so that the last of a key is read
abbrev pub collected : {K V : Type 0} → Map K V → List (Entry K V) → Map K V
collected m [] = m
collected m (e ∷ es) = collected (e ∷ m) es
