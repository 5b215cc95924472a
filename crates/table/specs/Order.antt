-- The order of keys, rows that ascend, and what a search answers. Assumes nothing.
use Rattle.std.specs.Prelude.{◌≡◌, ℕ, ◌+◌, ◌<◌, ◌≤◌, true, ◌⊎◌, List, [], ◌∷◌, length, Some, Option, Result, MatchOption, MatchResult, slice_index_or, refl}
use Rattle.std.specs.declared.cmp.Ordering.TheVariants.{Less, Equal, Greater}
use Rattle.std.specs.declared.cmp.Ordering.{Ordering}
use Rattle.std.specs.Cmp.Lexicographic.{slice_cmp}
use Rattle.std.specs.Option.{option_map}
use Rattle.std.specs.Ordering.{is_lt, nat_cmp, ordering_then}
use Rattle.std.specs.List.{slice_get}

-- a key is a list of parts
abbrev pub Key : Type 0
Key = List ℕ

-- keys are compared part by part, and a prefix comes first
abbrev pub ranked : Key → Key → Ordering
ranked a b = slice_cmp nat_cmp a b

level_last : (o : Ordering) → o ≡ ordering_then o Equal
level_last Less = refl
level_last Equal = refl
level_last Greater = refl

-- keys of one part stand in that part's order
pub ranked_alone : (x y : ℕ) → nat_cmp x y ≡ ranked (x ∷ []) (y ∷ [])
ranked_alone x y = level_last (nat_cmp x y)

-- the first key comes before the second
abbrev pub Before : Key → Key → Type 0
Before a b = ranked a b ≡ Less

-- the order is total
pub record Total : Type 0 where
  pub one_way_or_the_other : (a b : Key) → Before a b ⊎ ((a ≡ b) ⊎ Before b a)
  pub never_before_itself : (a : Key) → Before a a → ⊥
  pub transitive : (a b c : Key) → Before a b → Before b c → Before a c
  pub only_itself_level : (a b : Key) → ranked a b ≡ Equal → a ≡ b
  pub after_turned : (a b : Key) → ranked a b ≡ Greater → Before b a

-- rows ascend: each has a larger key than the row before it
abbrev pub Ascending : {X : Type 0} → (X → Key) → List X → Type 0
Ascending {X} key rows = (i : ℕ) (d : X) → i + 1 < length rows → is_lt (ranked (key (slice_index_or rows i d)) (key (slice_index_or rows (i + 1) d))) ≡ true

-- the row at this place has the key
abbrev pub KeyAt : {X : Type 0} → (X → Key) → List X → ℕ → Key → Type 0
KeyAt key rows i k = option_map key (slice_get rows i) ≡ Some k

-- the place of the row with the key, or no row has it
abbrev pub Finds : {X : Type 0} → (X → Key) → List X → Key → Option ℕ → Type 0
Finds key rows k answer = MatchOption answer ((i : ℕ) → KeyAt key rows i k → ⊥) (λ i. (i < length rows) × KeyAt key rows i k)

-- the row with the key, or no row has it
abbrev pub FindsRow : {X : Type 0} → (X → Key) → List X → Key → Option X → Type 0
FindsRow key rows k answer =
    MatchOption answer ((i : ℕ) → KeyAt key rows i k → ⊥) (λ row. (key row ≡ k) × ((i : ℕ) × (slice_get rows i ≡ Some row)))

-- the rows before the place have smaller keys than this one, and those from it on larger ones
pub record Between {X : Type 0} (key : X → Key) (rows : List X) (k : Key) (place : ℕ) : Type 0 where
  pub within : place ≤ length rows
  pub smaller : (i : ℕ) (d : X) → i < place → ranked (key (slice_index_or rows i d)) k ≡ Less
  pub larger : (i : ℕ) (d : X) → place ≤ i → i < length rows → ranked (key (slice_index_or rows i d)) k ≡ Greater

-- the place of the row with the key, or else the place where such a row would stand
abbrev pub Searched : {X : Type 0} → (X → Key) → List X → Key → Result ℕ ℕ → Type 0
Searched key rows k answer = MatchResult answer (λ i. (i < length rows) × KeyAt key rows i k) (Between key rows k)
