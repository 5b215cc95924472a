-- The rows on both sides of a key, as far as a search knows them. Assumes nothing.
use Rattle.std.proofs.Common.{◌≡◌, ℕ, ◌+◌, ◌<◌, ◌≤◌, ◌⊎◌, List, length, get_or, Some, Ordering, Less, Equal, Greater, sym, refl, ap, ◌∙◌, inl, inr, arith}
use Rattle.std.specs.Cmp.{nat_cmp_total}
use Rattle.std.specs.Cmp.Lexicographic.{lists_total}
use Rattle.std.specs.Option.{option_map}
use Rattle.std.proofs.lemmas.List.{get_or_read}
use Rattle.std.proofs.lemmas.Option.{slice_get_read}
use Rattle.table.specs.Order.{ranked, Ascending, KeyAt, Between}
use Rattle.table.proofs.Narrow.{ranked_equal, ascending_far, turn, turn_back}

module _ {X : Type 0} (key : X → List ℕ) (xs : List X) (k : List ℕ) where
  -- the rows before a place have smaller keys
  abbrev pub SmallerTo : ℕ → Type 0
  SmallerTo place = (i : ℕ) (d : X) → i < place → ranked (key (get_or xs i d)) k ≡ Less

  -- the rows from a place on have larger keys
  abbrev pub LargerFrom : ℕ → Type 0
  LargerFrom place = (i : ℕ) (d : X) → place ≤ i → i < length xs → ranked (key (get_or xs i d)) k ≡ Greater

  pub none_smaller : SmallerTo 0
  none_smaller i d h = absurd (omega arith)

  pub none_larger : LargerFrom (length xs)
  none_larger i d h w = absurd (omega arith)

  -- the row at this place was looked at
  module _ (up : Ascending key xs) (mid : ℕ) (inside : mid < length xs) (x : X) (read : x ≡ get_or xs mid x) where
    here : (o : Ordering) → o ≡ ranked (key x) k → (d : X) → ranked (key (get_or xs mid d)) k ≡ o
    here o e d = ap (λ y. ranked (key y) k) (sym (get_or_read xs mid x inside read d)) ∙ sym e

    pub too_small : Less ≡ ranked (key x) k → SmallerTo (mid + 1)
    too_small e i d h = from (grind arith)
      where
        from : (i < mid) ⊎ (i ≡ mid) → ranked (key (get_or xs i d)) k ≡ Less
        from (inl b) = (lists_total nat_cmp_total).trans (key (get_or xs i d)) (key (get_or xs mid d)) k (ascending_far key xs up i mid d b inside) (here Less e d)
        from (inr b) = ap (λ j. ranked (key (get_or xs j d)) k) b ∙ here Less e d

    pub too_large : Greater ≡ ranked (key x) k → LargerFrom mid
    too_large e i d h w = from (grind arith)
      where
        from : (mid < i) ⊎ (i ≡ mid) → ranked (key (get_or xs i d)) k ≡ Greater
        from (inl b) =
            turn k (key (get_or xs i d))
            ((lists_total nat_cmp_total).trans k (key (get_or xs mid d)) (key (get_or xs i d)) (turn_back (key (get_or xs mid d)) k (here Greater e d)) (ascending_far key xs up mid i d b w))
        from (inr b) = ap (λ j. ranked (key (get_or xs j d)) k) b ∙ here Greater e d

    pub just_right : Equal ≡ ranked (key x) k → (mid < length xs) × KeyAt key xs mid k
    just_right e = (inside, ap (option_map key) (slice_get_read xs (length xs) mid x refl inside read) ∙ ap (λ w. Some w) (ranked_equal (key x) k (sym e)))

  -- all rows are on one side or the other
  pub both_sides : (place : ℕ) → place ≤ length xs → SmallerTo place → LargerFrom place → Between key xs k place
  both_sides place within s l = record { within = within; smaller = s; larger = l }
