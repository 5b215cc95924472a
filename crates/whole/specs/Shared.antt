-- No two parameters of a recipe share a long name or a letter. Assumes nothing.
use Rattle.std.specs.Prelude.{◌≡◌, ℕ, ◌<◌, List, length, Some, Option}
use Rattle.tree.specs.Tree.{Parameter}
use Rattle.whole.specs.Places.{Stands}

-- the parameter at this place has the name, where `name` is what names it
abbrev pub Named : {X : Type 0} → (Parameter → Option X) → List Parameter → ℕ → X → Type 0
Named name parameters place x = Stands (λ p. name p ≡ Some x) parameters place

-- no two places have one name
abbrev pub Distinct : {X : Type 0} → (Parameter → Option X) → List Parameter → Type 0
Distinct {X} name parameters = (i j : ℕ) (x : X) → i < j → Named name parameters i x → Named name parameters j x → ⊥

-- a long name and a letter never clash with each other
pub record Apart (parameters : List Parameter) : Type 0 where
  pub longs : Distinct (λ p. p.long) parameters
  pub letters : Distinct (λ p. p.letter) parameters

abbrev pub EachApart : List (List Parameter) → Type 0
EachApart recipes = (r : ℕ) → r < length recipes → Stands Apart recipes r

-- the lowest recipe with two parameters that share a name
pub record FirstShared (recipes : List (List Parameter)) (r : ℕ) : Type 0 where
  pub before : (k : ℕ) → k < r → Stands Apart recipes k
  pub shared : Stands (λ parameters. Apart parameters → ⊥) recipes r
