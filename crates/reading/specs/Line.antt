-- The lawful reading of a line, and its first fault. Assumes nothing.
use Rattle.std.specs.Prelude.{◌≡◌, ℕ, zero, suc, ◌+◌, ◌<◌, Bool, true, List, [], ◌∷◌, ◌++◌, map, drop, Ok, Err, Result}
use Rattle.path.specs.Path.{LawfulPath, PathFault}
use Rattle.path.specs.declared.path.Path.{Path}
use Rattle.refusal.specs.declared.Refusal.{Refusal}
use Rattle.refusal.specs.declared.Refusal.TheVariants.{DefaultRecipeRequiresArguments}
use Rattle.refusal.specs.Shift.{shifted_by}
use Rattle.text.specs.Identifier.{Text}
use Rattle.register.specs.Meaning.{ParameterMeaning, NameMeaning, SignatureMeaning}
use Rattle.judge.specs.Meaning.{JudgeMeaning}
use Rattle.reading.specs.Signature.{required_count}
use Rattle.reading.specs.Reading.{Given, Value, group, values, reached, roles_of, LawfulOrder}
use Rattle.reading.specs.Faults.{FaultyOrder}
use Rattle.reading.specs.declared.role.Role.{Role}
use Rattle.reading.specs.declared.role.Role.TheVariants.{PathWord}

-- An order as it is cut and given roles: the words of its path, its recipe, and its words behind the path, last first.
pub record Taken : Type 0 where
  pub path : ℕ
  pub recipe : ℕ
  pub given : List Given

abbrev pub size : Taken → ℕ
size t = reached t.path t.given

-- What a reading tells: for each order its recipe, first word, number of words, and a group for each parameter; and the role of each word.
pub record Order : Type 0 where
  pub recipe : ℕ
  pub first : ℕ
  pub words : ℕ
  pub groups : List (List Value)

pub record Reading : Type 0 where
  pub orders : List Order
  pub roles : List Role

-- a value with its word counted in the line: the order's first word is added
abbrev pub shifted_value : ℕ → Value → Value
shifted_value first v = record { parameter = v.parameter; text = v.text; word = first + v.word }

-- What the orders tell.

-- the groups of parameters from place k on
abbrev pub groups_from : ℕ → List ParameterMeaning → List Value → List (List Value)
groups_from k [] vs = []
groups_from k (p ∷ ps) vs = group k vs ∷ groups_from (suc k) ps vs

abbrev pub order_of : List ParameterMeaning → ℕ → Taken → Order
order_of ps first t = record {
  recipe = t.recipe;
  first = first;
  words = size t;
  groups = groups_from 0 ps (map (shifted_value first) (values ps t.path t.given));
}

abbrev pub orders_of : SignatureMeaning → ℕ → List Taken → List Order
orders_of s first [] = []
orders_of s first (t ∷ ts) = order_of (s.parameters t.recipe) first t ∷ orders_of s (first + size t) ts

abbrev pub repeated : ℕ → Role → List Role
repeated zero r = []
repeated (suc n) r = r ∷ repeated n r

abbrev pub all_roles : List Taken → List Role
all_roles [] = []
all_roles (t ∷ ts) = (repeated t.path PathWord ++ roles_of t.given) ++ all_roles ts

abbrev pub reading_of : SignatureMeaning → List Taken → Reading
reading_of s ts = record { orders = orders_of s 0 ts; roles = all_roles ts }

-- The rules.

-- a default's recipe has no required parameter
abbrev pub Undemanding : List ParameterMeaning → Bool → Type 0
Undemanding ps default = default ≡ true → required_count ps ≡ 0

-- one order from the front of the words, and the words that are left
pub record Begins (names : NameMeaning) (signatures : SignatureMeaning) (judge : JudgeMeaning) (words : List Text) (t : Taken) (rest : List Text) : Type 0 where
  pub default : Bool
  pub path : LawfulPath names words (record { recipe = t.recipe; words = t.path; default = default })
  pub undemanding : Undemanding (signatures.parameters t.recipe) default
  pub lawful : LawfulOrder (signatures.parameters t.recipe) judge t.path (drop t.path words) t.given rest

-- A lawful cut of a line into orders in sequence.
pub data Cut (names : NameMeaning) (signatures : SignatureMeaning) (judge : JudgeMeaning) : List Text → List Taken → Type 0 where
  last : {ws : List Text} {t : Taken} → Begins names signatures judge ws t [] → Cut names signatures judge ws (t ∷ [])
  then : {ws rest : List Text} {w : Text} {t : Taken} {ts : List Taken} → Begins names signatures judge ws t (w ∷ rest) → Cut names signatures judge (w ∷ rest) ts → Cut names signatures judge ws (t ∷ ts)

-- A lawful reading: what the orders of a lawful cut tell.
pub record Lawful (names : NameMeaning) (signatures : SignatureMeaning) (judge : JudgeMeaning) (words : List Text) (reading : Reading) : Type 0 where
  pub orders : List Taken
  pub cut : Cut names signatures judge words orders
  pub told : reading_of signatures orders ≡ reading

-- The first fault of a line, order by order, where the words from word `first` on are left.
pub data FaultFrom (names : NameMeaning) (signatures : SignatureMeaning) (judge : JudgeMeaning) : ℕ → List Text → Refusal → Type 0 where
  path : {first : ℕ} {ws : List Text} {f : Refusal} → PathFault names ws f → FaultFrom names signatures judge first ws (shifted_by first f)
  demanding : {first : ℕ} {ws : List Text} {found : Path} → LawfulPath names ws found → found.default ≡ true → 0 < required_count (signatures.parameters found.recipe) → FaultFrom names signatures judge first ws (shifted_by first (DefaultRecipeRequiresArguments 0 (required_count (signatures.parameters found.recipe))))
  order : {first : ℕ} {ws : List Text} {found : Path} {f : Refusal} → LawfulPath names ws found → Undemanding (signatures.parameters found.recipe) found.default → FaultyOrder (signatures.parameters found.recipe) judge found.words (drop found.words ws) f → FaultFrom names signatures judge first ws (shifted_by first f)
  later : {first : ℕ} {ws rest : List Text} {w : Text} {t : Taken} {f : Refusal} → Begins names signatures judge ws t (w ∷ rest) → FaultFrom names signatures judge (first + size t) (w ∷ rest) f → FaultFrom names signatures judge first ws f

abbrev pub FirstFault : NameMeaning → SignatureMeaning → JudgeMeaning → List Text → Refusal → Type 0
FirstFault names signatures judge words f = FaultFrom names signatures judge 0 words f

-- what a line comes to: a lawful reading or a first fault
abbrev pub ReadingAnswer : NameMeaning → SignatureMeaning → JudgeMeaning → List Text → Result Reading Refusal → Type 0
ReadingAnswer names signatures judge words (Ok reading) = Lawful names signatures judge words reading
ReadingAnswer names signatures judge words (Err refusal) = FirstFault names signatures judge words refusal

-- the one answer that a line has
pub record OnlyReading (names : NameMeaning) (signatures : SignatureMeaning) (judge : JudgeMeaning) (words : List Text) (answer : Result Reading Refusal) : Type 0 where
  pub right : ReadingAnswer names signatures judge words answer
  pub only : (other : Result Reading Refusal) → ReadingAnswer names signatures judge words other → other ≡ answer
