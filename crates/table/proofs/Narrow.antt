-- What a search in rows that ascend knows. Assumes nothing.
use Rattle.std.proofs.Common.{◌≡◌, ℕ, zero, suc, ◌+◌, ◌<◌, ◌≤◌, true, ◌⊎◌, List, [], ◌∷◌, length, get_or, Some, None, Option, Ok, Err, Result, Ordering, Less, Equal, Greater, sym, refl, ap, ◌∙◌, subst, inl, inr, ⊎_elim, true≢false, add-one, arith}
use Rattle.std.specs.Cmp.{nat_cmp_total, ranks}
use Rattle.std.specs.Ordering.{MatchOrdering, ordering_then, is_lt, is_gt, ordering_reverse, nat_cmp, ordering_index}
use Rattle.std.specs.Option.{option_map}
use Rattle.std.specs.List.{slice_get}
use Rattle.std.proofs.lemmas.Option.{slice_get_within}
use Rattle.std.proofs.lemmas.Option.{slice_get_cases, get_or_from_slice_get}
use Rattle.std.proofs.lemmas.Bool.{cases_order}
use Rattle.table.specs.Order.{ranked, Ascending, KeyAt, Searched}
use Rattle.std.specs.List.Sorted.{IsNonDecreasingBy, IsSearchInRange, IsBinarySearchResult}
use Rattle.std.specs.Cmp.Lexicographic.{lists_total}

heads : (x y : ℕ) (xs ys : List ℕ) (o : Ordering) → (ranked xs ys ≡ Equal → xs ≡ ys) → MatchOrdering o (x < y) (x ≡ y) (y < x) → ordering_then o (ranked xs ys) ≡ Equal → x ∷ xs ≡ y ∷ ys
heads x y xs ys Less f p e = absurd (true≢false (ap is_lt e))
heads x y xs ys Equal f p e = let q = f e in cc
heads x y xs ys Greater f p e = absurd (true≢false (ap is_gt e))

-- only a key itself is level with it
pub ranked_equal : (a b : List ℕ) → ranked a b ≡ Equal → a ≡ b
ranked_equal [] [] h = refl
ranked_equal [] (y ∷ ys) h = absurd (true≢false (ap is_lt h))
ranked_equal (x ∷ xs) [] h = absurd (true≢false (ap is_gt h))
ranked_equal (x ∷ xs) (y ∷ ys) h = heads x y xs ys (nat_cmp x y) (ranked_equal xs ys) (ranks x y) h

self_rank : (o : Ordering) → o ≡ ordering_reverse o → o ≡ Equal
self_rank Less e = absurd (true≢false (ap is_lt e))
self_rank Equal e = refl
self_rank Greater e = absurd (true≢false (ap is_gt e))

pub ranked_itself : (a : List ℕ) → ranked a a ≡ Equal
ranked_itself a = self_rank (ranked a a) ((lists_total nat_cmp_total).antisymm a a)

is_less : (o : Ordering) → is_lt o ≡ true → o ≡ Less
is_less Less h = refl
is_less Equal h = absurd (true≢false (sym h))
is_less Greater h = absurd (true≢false (sym h))

pub turn : (a b : List ℕ) → ranked a b ≡ Less → ranked b a ≡ Greater
turn a b h = (lists_total nat_cmp_total).antisymm b a ∙ ap ordering_reverse h

pub turn_back : (a b : List ℕ) → ranked a b ≡ Greater → ranked b a ≡ Less
turn_back a b h = (lists_total nat_cmp_total).antisymm b a ∙ ap ordering_reverse h

pub not_level : (a b : List ℕ) (o : Ordering) → is_lt o ≡ true → ranked a b ≡ o → a ≡ b → ⊥
not_level a b o t h e = true≢false (sym t ∙ ap is_lt (sym h ∙ ap (λ w. ranked w b) e ∙ ranked_itself b))

first_or : (a b : List ℕ) (o : Ordering) → ranked a b ≡ o → (ranked a b ≡ Less) ⊎ ((a ≡ b) ⊎ (ranked b a ≡ Less))
first_or a b Less e = inl e
first_or a b Equal e = inr (inl (ranked_equal a b e))
first_or a b Greater e = inr (inr (turn_back a b e))

-- two keys stand one way or the other, or are the same
pub either_way : (a b : List ℕ) → (ranked a b ≡ Less) ⊎ ((a ≡ b) ⊎ (ranked b a ≡ Less))
either_way a b = first_or a b (ranked a b) refl

one_further : {X : Type 0} (key : X → List ℕ) (xs : List X) (up : Ascending key xs) (i j : ℕ) (d : X) → suc j < length xs → (i < j → ranked (key (get_or xs i d)) (key (get_or xs j d)) ≡ Less) → (i < j) ⊎ (i ≡ j) → ranked (key (get_or xs i d)) (key (get_or xs (suc j) d)) ≡ Less
one_further key xs up i j d m far by =
    let w : j + 1 < length xs = omega arith in
    let step : ranked (key (get_or xs j d)) (key (get_or xs (suc j) d)) ≡ Less = subst (λ p. ranked (key (get_or xs j d)) (key (get_or xs p d)) ≡ Less) (add-one j) (is_less _ (up j d w)) in
    ⊎_elim (λ h. (lists_total nat_cmp_total).trans (key (get_or xs i d)) (key (get_or xs j d)) (key (get_or xs (suc j) d)) (far h) step) (λ h. ap (λ p. ranked (key (get_or xs p d)) (key (get_or xs (suc j) d))) h ∙ step) by

-- each row has a smaller key than any later one
pub ascending_far : {X : Type 0} (key : X → List ℕ) (xs : List X) → Ascending key xs → (i j : ℕ) (d : X) → i < j → j < length xs → ranked (key (get_or xs i d)) (key (get_or xs j d)) ≡ Less
ascending_far key xs up i zero d l m = absurd (omega arith)
ascending_far key xs up i (suc j) d l m = one_further key xs up i j d m (λ h. ascending_far key xs up i j d h (omega arith)) (grind arith)

module _ {X : Type 0} (key : X → List ℕ) (xs : List X) (k : List ℕ) (up : Ascending key xs) where
  rank : ℕ → X → Ordering
  rank i d = ranked (key (get_or xs i d)) k

  -- rows that ascend never fall back below a key
  pub rising : IsNonDecreasingBy (λ y. ordering_index (ranked (key y) k)) xs
  rising i j d h w = from (grind arith)
    where
      later : i < j → (o : Ordering) → ranked (key (get_or xs j d)) k ≡ o → ordering_index (ranked (key (get_or xs i d)) k) ≤ ordering_index o
      later l Less e =
          let far = ascending_far key xs up i j d l w in
          let below = (lists_total nat_cmp_total).trans (key (get_or xs i d)) (key (get_or xs j d)) k far e in
          subst (λ o. ordering_index o ≤ 0) (sym below) (omega arith)
      later l Equal e =
          let below : ranked (key (get_or xs i d)) k ≡ Less = ap (ranked (key (get_or xs i d))) (sym (ranked_equal (key (get_or xs j d)) k e)) ∙ ascending_far key xs up i j d l w in
          subst (λ o. ordering_index o ≤ 1) (sym below) (omega arith)
      later l Greater e = highest (ranked (key (get_or xs i d)) k)
        where
          highest : (o : Ordering) → ordering_index o ≤ 2
          highest Less = omega arith
          highest Equal = omega arith
          highest Greater = omega arith

      from : (i < j) ⊎ (i ≡ j) → ordering_index (ranked (key (get_or xs i d)) k) ≤ ordering_index (ranked (key (get_or xs j d)) k)
      from (inl l) = later l (ranked (key (get_or xs j d)) k) refl
      from (inr e) = subst (λ p. ordering_index (ranked (key (get_or xs i d)) k) ≤ ordering_index (ranked (key (get_or xs p d)) k)) e (omega arith)

  -- what a binary search by the keys answers
  pub searched_for : (r : Result ℕ ℕ) → IsSearchInRange r (length xs) → IsBinarySearchResult (λ y. ranked (key y) k) xs r → Searched key xs k r
  searched_for (Ok i) w at = (w, from (slice_get_cases xs i).1)
    where
      from : ((x : X) × (i < length xs) × (slice_get xs i ≡ Some x) × (get_or xs i x ≡ x)) ⊎ ((length xs ≤ i) × (slice_get xs i ≡ None)) → KeyAt key xs i k
      from (inl (x, _, e, read)) = ap (option_map key) e ∙ ap (λ w. Some w) (ranked_equal (key x) k (ap (λ y. ranked (key y) k) (sym read) ∙ at x))
      from (inr (past, _)) = absurd (omega arith)
  searched_for (Err i) w split =
      let p = split rising in
      record { within = w; smaller = λ j d h. p.0 j d (omega arith) h; larger = p.1 }

-- the row of which a place tells the key
pub row_at : {X : Type 0} (key : X → List ℕ) (xs : List X) (i : ℕ) (k : List ℕ) → KeyAt key xs i k → (x : X) × (slice_get xs i ≡ Some x) × (key x ≡ k)
row_at {X} key xs i k h = told (slice_get xs i) refl h
  where
    told : (o : Option X) → slice_get xs i ≡ o → option_map key o ≡ Some k → (x : X) × (slice_get xs i ≡ Some x) × (key x ≡ k)
    told None e m = let z : ◌≡◌ {A = ℕ} 0 1 = cc in absurd (omega arith)
    told (Some x) e m = (x, e, cc)

module _ {X : Type 0} (key : X → List ℕ) (xs : List X) where
  -- rows that ascend differ in their keys
  pub ascending_once : Ascending key xs → (i j : ℕ) (k : List ℕ) → KeyAt key xs i k → KeyAt key xs j k → i ≡ j
  ascending_once up i j k h g = split (row_at key xs i k h) (row_at key xs j k g) (cases_order i j)
    where
      RowAt : ℕ → Type 0
      RowAt p = (x : X) × (slice_get xs p ≡ Some x) × (key x ≡ k)

      level : (p q : ℕ) → RowAt p → RowAt q → p < q → ⊥
      level p q (x, e, m) (y, f, n) l =
          not_level (key (get_or xs p x)) (key (get_or xs q x)) Less refl (ascending_far key xs up p q x l (slice_get_within xs q y f))
          (ap key (get_or_from_slice_get xs p x x e) ∙ m ∙ sym n ∙ ap key (sym (get_or_from_slice_get xs q y x f)))

      split : RowAt i → RowAt j → (i ≡ j) ⊎ ((i < j) ⊎ (j < i)) → i ≡ j
      split a b (inl e) = e
      split a b (inr (inl l)) = absurd (level i j a b l)
      split a b (inr (inr l)) = absurd (level j i b a l)
