-- What is kept under a serial.
use Rattle.std.proofs.Common.{◌≡◌, ℕ, zero, suc, ◌+◌, ◌-◌, ◌<◌, true, false, eqb, ltb, map, Some, None, sym, refl, ap, ◌∙◌, arith, le-ltb, lt-ltb, eq-eqb, ne_eqb}
use native.Mathlib.Decide.{dec_lt}
use Rattle.std.specs.List.{range_with_len}
use Rattle.console.specs.Keeps.{Kept, View, at_serial, kept_at, kept_in}

-- a row among those from a on
row_under : (f : ℕ → Kept) (s : ℕ) → ((i : ℕ) → (f i).serial ≡ s + i) → (a n i : ℕ) → i < n → at_serial (s + (a + i)) (map f (range_with_len a n)) ≡ Some (f (a + i))
row_under f s e a zero i lt = absurd (omega arith)
row_under f s e a (suc n) zero lt =
    let t : eqb (s + (a + 0)) (f a).serial ≡ true = eq-eqb _ _ (omega (arith, e a)) in
    let q : a ≡ a + 0 = omega arith in
    rw t (ap (λ (x : ℕ). Some (f x)) q)
row_under f s e a (suc n) (suc i) lt =
    let t : eqb (s + (a + suc i)) (f a).serial ≡ false = ne_eqb _ _ (omega (arith, e a)) in
    let q : (a + 1) + i ≡ a + suc i = omega arith in
    rw t (rw q at (row_under f s e (a + 1) n i (omega arith)))

-- no row has another serial
no_row_under : (f : ℕ → Kept) (s serial : ℕ) → ((i : ℕ) → (f i).serial ≡ s + i) → (a n : ℕ) → ((i : ℕ) → i < n → ¬ (serial ≡ s + (a + i))) → at_serial serial (map f (range_with_len a n)) ≡ None
no_row_under f s serial e a zero none = refl
no_row_under f s serial e a (suc n) none =
    let t : eqb serial (f a).serial ≡ false = ne_eqb _ _ (λ q. none 0 (omega arith) (omega (arith, e a))) in
    rw t (no_row_under f s serial e (a + 1) n (λ i lt q. none (suc i) (omega arith) (omega arith)))

-- a kept row stands under its serial
pub kept_under : (v : View) (i : ℕ) → v.at < v.count → i < v.count → at_serial (v.first + v.base + i) (kept_in v) ≡ Some (kept_at v i)
kept_under v i lt ic =
    let t : ltb v.at v.count ≡ true = lt-ltb _ _ lt in
    let w : 0 + i ≡ i = omega arith in
    rw t (ap (λ (x : ℕ). at_serial (v.first + v.base + x) (map (kept_at v) (range_with_len 0 v.count))) (sym w) ∙ row_under (kept_at v) (v.first + v.base) (λ j. refl) 0 v.count i ic ∙ ap (λ (x : ℕ). Some (kept_at v x)) w)

-- and nothing else does
pub none_under : (v : View) (serial : ℕ) → ((i : ℕ) → v.at < v.count → i < v.count → ¬ (serial ≡ v.first + v.base + i)) → at_serial serial (kept_in v) ≡ None
none_under v serial none = go (dec_lt v.at v.count)
  where
    go : Dec (v.at < v.count) → at_serial serial (kept_in v) ≡ None
    go (yes lt) =
        let t : ltb v.at v.count ≡ true = lt-ltb _ _ lt in
        rw t (no_row_under (kept_at v) (v.first + v.base) serial (λ j. refl) 0 v.count (λ i ic q. none i lt ic (omega arith)))
    go (no ge) =
        let t : ltb v.at v.count ≡ false = le-ltb _ _ (omega arith) in
        rw t

-- so what stands under a serial is the row with that serial
pub under_row : (v : View) (serial : ℕ) (k : Kept) → at_serial serial (kept_in v) ≡ Some k → (i : ℕ) × (v.at < v.count) × (i < v.count) × (serial ≡ v.first + v.base + i) × (k ≡ kept_at v i)
under_row v serial k e = go (dec_lt v.at v.count) (dec_lt serial (v.first + v.base)) (dec_lt serial (v.first + v.base + v.count))
  where
    never : ((i : ℕ) → v.at < v.count → i < v.count → ¬ (serial ≡ v.first + v.base + i)) → ⊥
    never none =
        let q : at_serial serial (kept_in v) ≡ None = none_under v serial none in
        cc

    go : Dec (v.at < v.count) → Dec (serial < v.first + v.base) → Dec (serial < v.first + v.base + v.count) → (i : ℕ) × (v.at < v.count) × (i < v.count) × (serial ≡ v.first + v.base + i) × (k ≡ kept_at v i)
    go (no a) b c = absurd (never (λ i lt ic q. a lt))
    go (yes a) (yes b) c = absurd (never (λ i lt ic q. omega arith))
    go (yes a) (no b) (no c) = absurd (never (λ i lt ic q. omega arith))
    go (yes a) (no b) (yes c) =
        let i : ℕ = serial - (v.first + v.base) in
        let s : serial ≡ v.first + v.base + i = omega arith in
        let t : at_serial serial (kept_in v) ≡ Some (kept_at v i) = ap (λ (x : ℕ). at_serial x (kept_in v)) s ∙ kept_under v i a (omega arith) in
        (i, a, omega arith, s, cc)
