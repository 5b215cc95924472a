-- Places of lists: read, mapped, joined. Assumes nothing.
use Rattle.std.proofs.Common.{◌≡◌, ℕ, zero, suc, ◌+◌, ◌<◌, ◌⊎◌, List, [], ◌∷◌, ◌++◌, map, length, get_or, take, drop, sym, refl, ap, subst, inl, inr, ⊎_elim, arith}
use Rattle.std.specs.List.{insert}
use Rattle.std.proofs.lemmas.List.{take-append-drop}
use Rattle.whole.specs.Places.{Stands, Among}

pub here_or_below : (i j : ℕ) → j < i + 1 → (j < i) ⊎ (j ≡ i)
here_or_below i j h = grind arith

pub stands_within : {A : Type 0} (P : A → Type 0) (xs : List A) (i : ℕ) → Stands P xs i → i < length xs
stands_within P [] i h = absurd h
stands_within P (x ∷ xs) zero h = omega arith
stands_within P (x ∷ xs) (suc i) h = let k = stands_within P xs i h in omega arith

-- of what is read at a place
pub stands_read : {A : Type 0} (P : A → Type 0) (xs : List A) (i : ℕ) (d : A) → Stands P xs i → P (get_or xs i d)
stands_read P [] i d h = absurd h
stands_read P (x ∷ xs) zero d h = h
stands_read P (x ∷ xs) (suc i) d h = stands_read P xs i d h

pub stands_from : {A : Type 0} (P : A → Type 0) (xs : List A) (i : ℕ) (d : A) → i < length xs → P (get_or xs i d) → Stands P xs i
stands_from P [] i d w h = absurd (omega arith)
stands_from P (x ∷ xs) zero d w h = h
stands_from P (x ∷ xs) (suc i) d w h = stands_from P xs i d (omega arith) h

pub stands_weaker : {A : Type 0} (P Q : A → Type 0) → ((x : A) → P x → Q x) → (xs : List A) (i : ℕ) → Stands P xs i → Stands Q xs i
stands_weaker P Q f [] i h = h
stands_weaker P Q f (x ∷ xs) zero h = f x h
stands_weaker P Q f (x ∷ xs) (suc i) h = stands_weaker P Q f xs i h

-- two facts of one place give what follows of one item from both
pub stands_both : {A R : Type 0} (P Q : A → Type 0) → ((x : A) → P x → Q x → R) → (xs : List A) (i : ℕ) → Stands P xs i → Stands Q xs i → R
stands_both P Q f [] i h k = absurd h
stands_both P Q f (x ∷ xs) zero h k = f x h k
stands_both P Q f (x ∷ xs) (suc i) h k = stands_both P Q f xs i h k

pub stands_map : {A B : Type 0} (f : A → B) (P : B → Type 0) (Q : A → Type 0) → ((x : A) → Q x → P (f x)) → (xs : List A) (i : ℕ) → Stands Q xs i → Stands P (map f xs) i
stands_map f P Q g [] i h = h
stands_map f P Q g (x ∷ xs) zero h = g x h
stands_map f P Q g (x ∷ xs) (suc i) h = stands_map f P Q g xs i h

pub stands_unmap : {A B : Type 0} (f : A → B) (P : B → Type 0) (Q : A → Type 0) → ((x : A) → P (f x) → Q x) → (xs : List A) (i : ℕ) → Stands P (map f xs) i → Stands Q xs i
stands_unmap f P Q g [] i h = h
stands_unmap f P Q g (x ∷ xs) zero h = g x h
stands_unmap f P Q g (x ∷ xs) (suc i) h = stands_unmap f P Q g xs i h

pub among_at : {A : Type 0} (P : A → Type 0) (xs : List A) (i : ℕ) (d : A) → i < length xs → P (get_or xs i d) → Among P xs
among_at P [] i d w h = absurd (omega arith)
among_at P (x ∷ xs) zero d w h = inl h
among_at P (x ∷ xs) (suc i) d w h = inr (among_at P xs i d (omega arith) h)

-- what holds at no place is not among them
pub among_place : {A : Type 0} (P : A → Type 0) (xs : List A) → ((i : ℕ) (d : A) → i < length xs → P (get_or xs i d) → ⊥) → Among P xs → ⊥
among_place P [] n a = a
among_place P (x ∷ xs) n (inl h) = n 0 x (omega arith) h
among_place P (x ∷ xs) n (inr h) = among_place P xs (λ i d w k. n (suc i) d (omega arith) k) h

pub among_left : {A : Type 0} (P : A → Type 0) (xs ys : List A) → Among P xs → Among P (xs ++ ys)
among_left P [] ys a = absurd a
among_left P (x ∷ xs) ys (inl h) = inl h
among_left P (x ∷ xs) ys (inr h) = inr (among_left P xs ys h)

pub among_right : {A : Type 0} (P : A → Type 0) (xs ys : List A) → Among P ys → Among P (xs ++ ys)
among_right P [] ys a = a
among_right P (x ∷ xs) ys a = inr (among_right P xs ys a)

pub among_split : {A : Type 0} (P : A → Type 0) (xs ys : List A) → Among P (xs ++ ys) → Among P xs ⊎ Among P ys
among_split P [] ys a = inr a
among_split P (x ∷ xs) ys (inl h) = inl (inl h)
among_split P (x ∷ xs) ys (inr h) = ⊎_elim (λ k. inl (inr k)) (λ k. inr k) (among_split P xs ys h)

pub among_weaker : {A : Type 0} (P Q : A → Type 0) → ((x : A) → P x → Q x) → (xs : List A) → Among P xs → Among Q xs
among_weaker P Q f [] a = a
among_weaker P Q f (x ∷ xs) (inl h) = inl (f x h)
among_weaker P Q f (x ∷ xs) (inr h) = inr (among_weaker P Q f xs h)

-- the item itself
pub among_which : {A : Type 0} (P : A → Type 0) (xs : List A) → Among P xs → (x : A) × P x × Among (λ y. y ≡ x) xs
among_which P [] a = absurd a
among_which P (x ∷ xs) (inl h) = (x, h, inl refl)
among_which P (x ∷ xs) (inr h) = let w = among_which P xs h in (w.0, w.1, inr w.2)

-- rows with one more among them
pub among_inserted : {A : Type 0} (P : A → Type 0) (xs : List A) (i : ℕ) (x : A) → Among P (insert xs i x) → P x ⊎ Among P xs
among_inserted P xs i x a = from (among_split P (take i xs) (x ∷ drop i xs) a)
  where
    from : Among P (take i xs) ⊎ (P x ⊎ Among P (drop i xs)) → P x ⊎ Among P xs
    from (inl h) = inr (subst (Among P) (take-append-drop i xs) (among_left P (take i xs) (drop i xs) h))
    from (inr (inl h)) = inl h
    from (inr (inr h)) = inr (subst (Among P) (take-append-drop i xs) (among_right P (take i xs) (drop i xs) h))

pub inserted_among : {A : Type 0} (P : A → Type 0) (xs : List A) (i : ℕ) (x : A) → P x ⊎ Among P xs → Among P (insert xs i x)
inserted_among P xs i x (inl h) = among_right P (take i xs) (x ∷ drop i xs) (inl h)
inserted_among P xs i x (inr h) = from (among_split P (take i xs) (drop i xs) (subst (Among P) (sym (take-append-drop i xs)) h))
  where
    from : Among P (take i xs) ⊎ Among P (drop i xs) → Among P (insert xs i x)
    from (inl k) = among_left P (take i xs) (x ∷ drop i xs) k
    from (inr k) = among_right P (take i xs) (x ∷ drop i xs) (inr k)

-- one more item at the end
pub stands_left : {A : Type 0} (P : A → Type 0) (xs ys : List A) (i : ℕ) → Stands P xs i → Stands P (xs ++ ys) i
stands_left P [] ys i h = absurd h
stands_left P (x ∷ xs) ys zero h = h
stands_left P (x ∷ xs) ys (suc i) h = stands_left P xs ys i h

pub stands_last : {A : Type 0} (P : A → Type 0) (xs : List A) (x : A) → P x → Stands P (xs ++ x ∷ []) (length xs)
stands_last P [] x h = h
stands_last P (y ∷ xs) x h = stands_last P xs x h

pub stands_push : {A : Type 0} (P : A → Type 0) (xs : List A) (x : A) (i : ℕ) → Stands P (xs ++ x ∷ []) i → Stands P xs i ⊎ ((i ≡ length xs) × P x)
stands_push P [] x zero h = inr (refl, h)
stands_push P [] x (suc i) h = absurd h
stands_push P (y ∷ xs) x zero h = inl h
stands_push P (y ∷ xs) x (suc i) h = ⊎_elim (λ k. inl k) (λ k. inr (ap suc k.0, k.1)) (stands_push P xs x i h)

pub stands_front : {A : Type 0} (P : A → Type 0) (n : ℕ) (xs : List A) (i : ℕ) → Stands P (take n xs) i → Stands P xs i
stands_front P zero xs i h = absurd h
stands_front P (suc n) [] i h = h
stands_front P (suc n) (x ∷ xs) zero h = h
stands_front P (suc n) (x ∷ xs) (suc i) h = stands_front P n xs i h

pub stands_with : {A : Type 0} (P Q R : A → Type 0) → ((x : A) → P x → Q x → R x) → (xs : List A) (i : ℕ) → Stands P xs i → Stands Q xs i → Stands R xs i
stands_with P Q R f [] i h k = h
stands_with P Q R f (x ∷ xs) zero h k = f x h k
stands_with P Q R f (x ∷ xs) (suc i) h k = stands_with P Q R f xs i h k

pub stands_some : {A : Type 0} (P : A → Type 0) (xs : List A) (i : ℕ) → Stands P xs i → (x : A) × P x
stands_some P [] i h = absurd h
stands_some P (x ∷ xs) zero h = (x, h)
stands_some P (x ∷ xs) (suc i) h = stands_some P xs i h
