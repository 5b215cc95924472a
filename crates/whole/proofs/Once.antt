-- How often a test passes, and where. Assumes nothing.
use Rattle.std.proofs.Common.{◌≡◌, ℕ, zero, suc, ◌+◌, Bool, true, false, cond, List, [], ◌∷◌, map, Some, None, Option, Decides, ◌==◌, sym, refl, ap, ◌∙◌, true≢false, arith}
use Rattle.std.specs.List.{count_by}
use Rattle.std.proofs.lemmas.List.Sums.{sum_by-cons}
use Rattle.std.proofs.lemmas.Bool.{and_parts, and_from, eqb-true, eq-eqb}
use Rattle.register.specs.Kinds.{kind_number}
use Rattle.tree.specs.Rows.{name_at}
use Rattle.tree.specs.declared.rows.NameRow.{NameRow}
use Rattle.whole.specs.Places.{Stands}
use Rattle.whole.specs.Modules.{Leads, NamedOnce}
use Rattle.whole.specs.Once.{is_number, leads_to}
use Rattle.whole.proofs.Places.{stands_map, stands_unmap}

module _ {A : Type 0} (test : A → Bool) where
  abbrev Passes : List A → ℕ → Type 0
  Passes = Stands (λ x. test x ≡ true)

  more : (x : A) (xs : List A) (b : Bool) → test x ≡ b → count_by test (x ∷ xs) ≡ cond b 1 0 + count_by test xs
  more x xs b e = sum_by-cons (λ x. cond (test x) 1 0) x xs ∙ ap (λ t. cond t 1 0 + count_by test xs) e

  fewer : (x : A) (xs : List A) (b : Bool) → test x ≡ b → count_by test (x ∷ xs) ≡ 0 → count_by test xs ≡ 0
  fewer x xs true t e = let m = more x xs true t in absurd (omega (arith, e, m))
  fewer x xs false t e = let m = more x xs false t in omega (arith, e, m)

  -- the test passes nowhere
  none : (xs : List A) → count_by test xs ≡ 0 → (i : ℕ) → Passes xs i → ⊥
  none [] e i h = absurd h
  none (x ∷ xs) e zero h = let m = more x xs true h in absurd (omega (arith, e, m))
  none (x ∷ xs) e (suc i) h = none xs (fewer x xs (test x) refl e) i h

  first_not : (x : A) (xs : List A) (b : Bool) → test x ≡ b → (test x ≡ true → ⊥) → count_by test xs ≡ 0 → count_by test (x ∷ xs) ≡ 0
  first_not x xs true t n z = absurd (n t)
  first_not x xs false t n z = let m = more x xs false t in omega (arith, m, z)

  no_more : (xs : List A) → ((i : ℕ) → Passes xs i → ⊥) → count_by test xs ≡ 0
  no_more [] n = refl
  no_more (x ∷ xs) n = first_not x xs (test x) refl (n 0) (no_more xs (λ i h. n (suc i) h))

  -- it passes at one place alone
  abbrev Alone : List A → Type 0
  Alone xs = (i : ℕ) × Stands (λ x. test x ≡ true) xs i × ((j : ℕ) → Stands (λ x. test x ≡ true) xs j → j ≡ i)

  first_alone : (x : A) (xs : List A) → count_by test xs ≡ 0 → (j : ℕ) → Passes (x ∷ xs) j → j ≡ 0
  first_alone x xs n zero h = refl
  first_alone x xs n (suc j) h = absurd (none xs n j h)

  later_alone : (x : A) (xs : List A) (w : Alone xs) → test x ≡ false → (j : ℕ) → Passes (x ∷ xs) j → j ≡ suc w.0
  later_alone x xs w t zero h = absurd (true≢false (sym h ∙ t))
  later_alone x xs w t (suc j) h = ap suc (w.2 j h)

  alone_from : (x : A) (xs : List A) (b : Bool) → test x ≡ b → count_by test (x ∷ xs) ≡ 1 → (count_by test xs ≡ 1 → Alone xs) → Alone (x ∷ xs)
  alone_from x xs true t e f = let m = more x xs true t in (0, t, first_alone x xs (omega (arith, e, m)))
  alone_from x xs false t e f = let m = more x xs false t in let w = f (omega (arith, e, m)) in (suc w.0, w.1, later_alone x xs w t)

  alone : (xs : List A) → count_by test xs ≡ 1 → Alone xs
  alone [] e = let z : ◌≡◌ {A = ℕ} 0 1 = cc in absurd (omega arith)
  alone (x ∷ xs) e = alone_from x xs (test x) refl e (alone xs)

  counted_from : (x : A) (xs : List A) (b : Bool) → test x ≡ b → (test x ≡ true → ⊥) → count_by test xs ≡ 1 → count_by test (x ∷ xs) ≡ 1
  counted_from x xs true t n e = absurd (n t)
  counted_from x xs false t n e = let m = more x xs false t in omega (arith, m, e)

  counted : (xs : List A) (i : ℕ) → Passes xs i → ((j : ℕ) → Passes xs j → j ≡ i) → count_by test xs ≡ 1
  counted [] i h u = absurd h
  counted (x ∷ xs) zero h u = let m = more x xs true h in let n = no_more xs (λ j k. let e = u (suc j) k in absurd (omega (arith, e))) in omega (arith, m, n)
  counted (x ∷ xs) (suc i) h u = counted_from x xs (test x) refl (λ t. let e = u 0 t in absurd (omega (arith, e))) (counted xs i h (λ j k. let e = u (suc j) k in omega (arith, e)))

module _ (m : ℕ) where
  number_is : (o : Option ℕ) → is_number m o ≡ true → o ≡ Some m
  number_is None e = absurd (true≢false (sym e))
  number_is (Some n) e = ap (λ w. Some w) (eqb-true n m e)

  is_it : (o : Option ℕ) → o ≡ Some m → is_number m o ≡ true
  is_it None e = let z : ◌≡◌ {A = ℕ} 0 1 = cc in absurd (omega arith)
  is_it (Some n) e = let same : n ≡ m = cc in eq-eqb n m same

  module _ (image : List ℕ) (rows : List NameRow) where
    to_name : (j : ℕ) → Stands (λ row. leads_to m row ≡ true) rows j → Stands (Leads m) (map (name_at image) rows) j
    to_name = stands_map (name_at image) (Leads m) (λ row. leads_to m row ≡ true) (λ x h. let w = and_parts _ _ h in record { kind = eqb-true (kind_number x.kind) 0 w.0; number = number_is x.number w.1 }) rows

    to_row : (j : ℕ) → Stands (Leads m) (map (name_at image) rows) j → Stands (λ row. leads_to m row ≡ true) rows j
    to_row = stands_unmap (name_at image) (Leads m) (λ row. leads_to m row ≡ true) (λ x h. and_from _ _ (eq-eqb (kind_number x.kind) 0 h.kind) (is_it x.number h.number)) rows

    -- exactly one row leads to the module
    pub named_once : Decides (count_by (leads_to m) rows == 1) (NamedOnce (map (name_at image) rows) m)
    named_once = (to, from)
      where
        to : (count_by (leads_to m) rows == 1) ≡ true → NamedOnce (map (name_at image) rows) m
        to e = let w = alone (leads_to m) rows (eqb-true _ _ e) in record { place = w.0; there = to_name w.0 w.1; only = λ j k. w.2 j (to_row j k) }

        from : NamedOnce (map (name_at image) rows) m → (count_by (leads_to m) rows == 1) ≡ true
        from o = eq-eqb _ _ (counted (leads_to m) rows o.place (to_row o.place o.there) (λ j k. o.only j (to_name j k)))
