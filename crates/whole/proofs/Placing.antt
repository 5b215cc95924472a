-- The place of a row among rows that ascend, and what they are with it. Assumes nothing.
use Rattle.std.proofs.Common.{◌≡◌, ℕ, ◌+◌, ◌-◌, ◌<◌, ◌≤◌, true, ◌⊎◌, List, [], ◌∷◌, ◌++◌, length, get_or, take, drop, set, Less, Some, None, Ok, Err, Result, sym, ap, ◌∙◌, subst, inl, inr, arith}
use borrow.Rule.Slice.PartMut.{put_mid}
use Rattle.std.specs.List.{insert, between, slice_get}
use Rattle.std.specs.Result.{result_err}
use Rattle.std.proofs.lemmas.Option.{slice_get_within, get_or_from_slice_get}
use Rattle.std.specs.Ordering.{is_lt}
use Rattle.std.proofs.lemmas.List.{length-take-le, length-drop, length_push, length-set, take_more_set, take-set-le, take-take, take_at, drop_at, drop-append-le, drop-set-lt}
use Rattle.std.proofs.lemmas.Slice.{between_is, take-put_mid, drop-put_mid}
use Rattle.std.proofs.lemmas.List.Edits.{length-insert, get_or-insert_below, get_or-insert_at, get_or-insert_above}
use Rattle.whole.specs.Places.{Among}
use Rattle.table.specs.Order.{Key, KeyAt, ranked, Ascending, Between, Searched}
use Rattle.whole.specs.Inserted.{Inserted}
use Rattle.whole.proofs.Places.{among_at, among_place}
use Rattle.table.proofs.Narrow.{row_at, ascending_far, turn_back}
use Rattle.whole.proofs.Order.{not_below_itself, not_above_itself}

-- a key that stands at a place is among them
among_key : {X : Type 0} (key : X → Key) (xs : List X) (i : ℕ) (k : Key) → KeyAt key xs i k → Among (λ x. key x ≡ k) xs
among_key {X} key xs i k h = from (row_at key xs i k h)
  where
    from : (x : X) × (slice_get xs i ≡ Some x) × (key x ≡ k) → Among (λ x. key x ≡ k) xs
    from (x, e, m) = among_at (λ y. key y ≡ k) xs i x (slice_get_within xs i x e) (ap key (get_or_from_slice_get xs i x x e) ∙ m)

-- what a search says of where a row goes
pub stands_already : {X : Type 0} (key : X → Key) (xs : List X) (k : Key) (r : Result ℕ ℕ) → Searched key xs k r → result_err r ≡ None → Among (λ x. key x ≡ k) xs
stands_already key xs k (Ok i) h e = among_key key xs i k h.1
stands_already key xs k (Err i) h e = let z : ◌≡◌ {A = ℕ} 0 1 = cc in absurd (omega arith)

pub goes_between : {X : Type 0} (key : X → Key) (xs : List X) (k : Key) (r : Result ℕ ℕ) (place : ℕ) → Searched key xs k r → result_err r ≡ Some place → Between key xs k place
goes_between key xs k (Ok i) place h e = let z : ◌≡◌ {A = ℕ} 0 1 = cc in absurd (omega arith)
goes_between key xs k (Err i) place h e = let same : i ≡ place = cc in subst (Between key xs k) same h

module _ {X : Type 0} (key : X → Key) (xs : List X) (row : X) where
  module _ (up : Ascending key xs) (place : ℕ) (b : Between key xs (key row) place) where
    pub between_free : Among (λ x. key x ≡ key row) xs → ⊥
    between_free a = among_place (λ x. key x ≡ key row) xs none a
      where
        at : (i : ℕ) (d : X) → i < length xs → key (get_or xs i d) ≡ key row → (i < place) ⊎ (place ≤ i) → ⊥
        at i d w e (inl h) = not_below_itself (key (get_or xs i d)) (key row) (b.smaller i d h) e
        at i d w e (inr h) = not_above_itself (key (get_or xs i d)) (key row) (b.larger i d h w) e

        none : (i : ℕ) (d : X) → i < length xs → key (get_or xs i d) ≡ key row → ⊥
        none i d w e = at i d w e (grind arith)

    less : (ys : List X) (i : ℕ) (d : X) (a c : X) → get_or ys i d ≡ a → get_or ys (i + 1) d ≡ c → ranked (key a) (key c) ≡ Less → is_lt (ranked (key (get_or ys i d)) (key (get_or ys (i + 1) d))) ≡ true
    less ys i d a c p q h = ap is_lt ((λ t. ranked (key (p t)) (key (q t))) ∙ h)

    pub inserted_ascending : Ascending key (insert xs place row)
    inserted_ascending i d w = from (grind arith)
      where
        in' : place ≤ length xs
        in' = b.within

        long : length (insert xs place row) ≡ length xs + 1
        long = length-insert xs place row in'

        above : (k : ℕ) → place ≤ k → get_or (insert xs place row) (k + 1) d ≡ get_or xs k d
        above k h = get_or-insert_above xs place row d k h in'

        from : (i + 1 < place) ⊎ ((i + 1 ≡ place) ⊎ ((i ≡ place) ⊎ (place < i))) → is_lt (ranked (key (get_or (insert xs place row) i d)) (key (get_or (insert xs place row) (i + 1) d))) ≡ true
        from (inl h) =
            less (insert xs place row) i d (get_or xs i d) (get_or xs (i + 1) d) (get_or-insert_below xs place row d i (omega arith) in') (get_or-insert_below xs place row d (i + 1) h in')
            (ascending_far key xs up i (i + 1) d (omega arith) (omega (arith, long)))
        from (inr (inl h)) =
            less (insert xs place row) i d (get_or xs i d) row (get_or-insert_below xs place row d i (omega arith) in') (ap (λ k. get_or (insert xs place row) k d) h ∙ get_or-insert_at xs place row d in')
            (b.smaller i d (omega arith))
        from (inr (inr (inl h))) =
            less (insert xs place row) i d row (get_or xs i d) (ap (λ k. get_or (insert xs place row) k d) h ∙ get_or-insert_at xs place row d in') (above i (omega arith))
            (turn_back (key (get_or xs i d)) (key row) (b.larger i d (omega arith) (omega (arith, long))))
        from (inr (inr (inr h))) =
            less (insert xs place row) i d (get_or xs (i - 1) d) (get_or xs i d) (ap (λ k. get_or (insert xs place row) k d) (before i h) ∙ above (i - 1) (omega arith)) (above i (omega arith))
            (ascending_far key xs up (i - 1) i d (omega arith) (omega (arith, long)))
          where
            before : (i : ℕ) → place < i → i ≡ i - 1 + 1
            before i h = omega arith

-- ---- a row is written behind the filled ones, and turned to its place

module _ {X : Type 0} (xs : List X) (n p : ℕ) (row : X) (room : n < length xs) (within : p ≤ n) where
  abbrev part : List X
  part = between p (n + 1) (set xs n row)

  filled-length : length (take n xs) ≡ n
  filled-length = length-take-le n xs (omega arith)

  part_is : part ≡ drop p (take n xs) ++ row ∷ []
  part_is =
      let w : p ≤ length (take n xs) = omega (arith, filled-length) in
      between_is (set xs n row) p (n + 1) ∙ ap (drop p) (take_more_set xs n row room) ∙ drop-append-le p (take n xs) (row ∷ []) w

  rest_length : length (drop p (take n xs)) ≡ n - p
  rest_length = length-drop p (take n xs) ∙ ap (λ k. k - p) filled-length

  part_length : length part ≡ n - p + 1
  part_length = ap length part_is ∙ length_push (drop p (take n xs)) row ∙ ap (λ k. k + 1) rest_length

  module _ (ys : List X) (turned : ys ≡ drop (length part - 1) part ++ take (length part - 1) part) where
    at_end : (k : ℕ) → length (drop p (take n xs)) ≡ k → drop k part ++ take k part ≡ row ∷ drop p (take n xs)
    at_end k e = (λ i. drop k (part_is i) ++ take k (part_is i)) ∙ (λ i. drop_at (drop p (take n xs)) (row ∷ []) k e i ++ take_at (drop p (take n xs)) (row ∷ []) k e i)

    ys_is : ys ≡ row ∷ drop p (take n xs)
    ys_is = turned ∙ at_end (length part - 1) (omega (arith, part_length, rest_length))

    ys_length : length ys ≡ n + 1 - p
    ys_length = ap length ys_is ∙ omega (arith, rest_length)

    pub turned_holds : take (n + 1) (put_mid p (n + 1 - p) (set xs n row) ys) ≡ insert (take n xs) p row
    turned_holds =
        let w : p ≤ length (set xs n row) = omega (arith, length-set xs n row) in
        take-put_mid p (n + 1 - p) (set xs n row) ys (n + 1) (omega (arith, ys_length)) w
        ∙ (λ i. (take-set-le p xs n row within ∙ sym (take-take p n xs within)) i ++ ys_is i)

    pub turned_behind : drop (n + 1) (put_mid p (n + 1 - p) (set xs n row) ys) ≡ drop (n + 1) xs
    turned_behind =
        let w : p ≤ length (set xs n row) = omega (arith, length-set xs n row) in
        drop-put_mid p (n + 1 - p) (set xs n row) ys (n + 1) (omega arith) w ys_length ∙ drop-set-lt (n + 1) xs n row (omega arith)

    pub turned_inserted : (key : X → Key) → Ascending key (take n xs) → Between key (take n xs) (key row) p → Inserted key xs n row (put_mid p (n + 1 - p) (set xs n row) ys)
    turned_inserted key up b = record {
      place = p;
      free = between_free key (take n xs) row up p b;
      within = within;
      holds = turned_holds;
      ascending = subst (Ascending key) (sym turned_holds) (inserted_ascending key (take n xs) row up p b);
      behind = turned_behind;
    }
