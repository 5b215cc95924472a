-- Modules below modules: a name row of kind 0 leads from its module down to the module that is its number. Assumes nothing.
use Rattle.std.specs.Prelude.{◌≡◌, ℕ, ◌<◌, List, [], ◌∷◌, Some, Result, MatchResult}
use Rattle.refusal.specs.declared.Refusal.{Refusal}
use Rattle.refusal.specs.declared.Refusal.TheVariants.{ModuleNotNamedOnce}
use Rattle.tree.specs.Tree.{Name}
use Rattle.whole.specs.Places.{Stands}

-- a row of kind 0 whose number is the module
pub record Leads (to : ℕ) (row : Name) : Type 0 where
  pub kind : row.kind ≡ 0
  pub number : row.number ≡ Some to

-- exactly one row of kind 0 has the module as its number
pub record NamedOnce (names : List Name) (below : ℕ) : Type 0 where
  pub place : ℕ
  pub there : Stands (Leads below) names place
  pub only : (other : ℕ) → Stands (Leads below) names other → other ≡ place

-- each module but the root is named once
abbrev pub EachNamedOnce : List Name → ℕ → Type 0
EachNamedOnce names modules = (m : ℕ) → 0 < m → m < modules → NamedOnce names m

-- the lowest module but the root that is not named once
pub record FirstNotOnce (names : List Name) (modules m : ℕ) : Type 0 where
  pub above : 0 < m
  pub within : m < modules
  pub before : (k : ℕ) → 0 < k → k < m → NamedOnce names k
  pub fails : NamedOnce names m → ⊥

-- the answer of the check: each module is named once, or else the refusal tells the lowest that is not
abbrev pub ModulesChecked : List Name → ℕ → Result (Unit {0}) Refusal → Type 0
ModulesChecked names modules answer =
    MatchResult answer (λ _. EachNamedOnce names modules)
    (λ refusal. (m : ℕ) × (refusal ≡ ModuleNotNamedOnce m) × FirstNotOnce names modules m)

-- a row of kind 0 in the one module whose number is the other
pub record Down (from to : ℕ) (row : Name) : Type 0 where
  pub within : row.within ≡ from
  pub leads : Leads to row

-- from one module down to another by the rows at these places
abbrev pub Path : List Name → ℕ → List ℕ → ℕ → Type 0
Path names from [] to = from ≡ to
Path names from (place ∷ rest) to = (next : ℕ) × Stands (Down from next) names place × Path names next rest to

-- exactly one path leads from the root, module 0, to the module
pub record OnePath (names : List Name) (to : ℕ) : Type 0 where
  pub path : List ℕ
  pub leads : Path names 0 path to
  pub only : (other : List ℕ) → Path names 0 other to → other ≡ path

-- rows of kind 0 lead to a higher module
abbrev pub Rising : List Name → Type 0
Rising names = (place from to : ℕ) → Stands (Down from to) names place → from < to

-- where each module but the root is named once, by rows that rise, each module is reached by exactly one path
abbrev pub EachReached : Type 0
EachReached = (names : List Name) (modules : ℕ) → EachNamedOnce names modules → Rising names → (m : ℕ) → m < modules → OnePath names m
