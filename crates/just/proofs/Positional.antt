-- The place of a plain word, by just's index and by the model.
use Rattle.std.proofs.Common.{◌≡◌, ℕ, zero, suc, ◌+◌, Bool, true, false, cond, not, List, [], ◌∷◌, map, Some, None, Option, sym, refl, ap, ◌∙◌, zero-add, arith}
use Rattle.std.specs.Option.{option_map}
use Rattle.std.specs.List.{slice_get}
use Rattle.text.proofs.Splits.{either_way}
use Rattle.reading.specs.Model.{taker}
use Rattle.just.specs.ParameterKind.{is_variadic}
use Rattle.just.specs.Parameter.{Parameter, is_option}
use Rattle.just.specs.InvocationParser.{positional_from}
use Rattle.just.proofs.Meaning.{meaning, variadic_is}

-- the positional index behind n plain words
abbrev pub pos_of : List Parameter → ℕ → ℕ
pos_of [] n = 0
pos_of (p ∷ ps) n = cond (is_option p) (pos_of ps n) (elim n [ zero ↦ 0 | suc m ↦ cond (is_variadic p.kind) 0 (suc (pos_of ps m)) ])

pub pos_none : (ps : List Parameter) → pos_of ps 0 ≡ 0
pos_none [] = refl
pos_none (p ∷ ps) = either_way (is_option p) (λ e. rw e (pos_none ps)) (λ e. rw e)

shift : (k : ℕ) (o : Option ℕ) → option_map (λ j. suc k + j) o ≡ option_map (λ j. k + j) (option_map suc o)
shift k None = refl
shift k (Some j) = let e : suc k + j ≡ k + suc j = omega arith in ap (λ (n : ℕ). Some n) e

here : (k : ℕ) → ◌≡◌ {A = Option ℕ} (Some k) (Some (k + 0))
here k = let e : k ≡ k + 0 = omega arith in ap (λ (n : ℕ). Some n) e

place_from : (k : ℕ) (ps : List Parameter) (n : ℕ) → slice_get (positional_from k ps) (pos_of ps n) ≡ option_map (λ j. k + j) (taker (map meaning ps) n)
place_from k [] n = refl
place_from k (p ∷ ps) zero =
    either_way (is_option p)
    (λ e. rw e (place_from (suc k) ps 0 ∙ shift k (taker (map meaning ps) 0)))
    (λ e. rw e (here k))
place_from k (p ∷ ps) (suc m) =
    either_way (is_option p)
    (λ e. rw e (place_from (suc k) ps (suc m) ∙ shift k (taker (map meaning ps) (suc m))))
    (λ e. rw (e, variadic_is p.kind)
    (either_way (is_variadic p.kind)
    (λ f. rw f (here k))
    (λ f. rw f (place_from (suc k) ps m ∙ shift k (taker (map meaning ps) m)))))

same_option : (o : Option ℕ) → option_map (λ j. 0 + j) o ≡ o
same_option None = refl
same_option (Some j) = ap (λ (n : ℕ). Some n) (zero-add j)

pub place_is : (ps : List Parameter) (n : ℕ) → slice_get (positional_from 0 ps) (pos_of ps n) ≡ taker (map meaning ps) n
place_is ps n = place_from 0 ps n ∙ same_option (taker (map meaning ps) n)

unsuc : (o : Option ℕ) (j : ℕ) → option_map suc o ≡ Some j → (i : ℕ) × (o ≡ Some i) × (j ≡ suc i)
unsuc None j e = let z : ◌≡◌ {A = ℕ} 0 1 = cc in absurd (omega arith)
unsuc (Some i) j e = (i, refl, cc)

-- what a plain word does to the index
pub record Steps (ps : List Parameter) (n j : ℕ) : Type 0 where
  pub parameter : Parameter
  pub stands : slice_get ps j ≡ Some parameter
  pub index : cond (not (is_variadic parameter.kind)) (suc (pos_of ps n)) (pos_of ps n) ≡ pos_of ps (suc n)

later : (p : Parameter) (ps : List Parameter) (n j : ℕ) → is_option p ≡ true → (i : ℕ) × (taker (map meaning ps) n ≡ Some i) × (j ≡ suc i) → ((i : ℕ) → taker (map meaning ps) n ≡ Some i → Steps ps n i) → Steps (p ∷ ps) n j
later p ps n j o (i, t, e) on =
    let s = on i t in
    record { parameter = s.parameter; stands = ap (slice_get (p ∷ ps)) e ∙ s.stands; index = rw o s.index }

next_one : (p : Parameter) (ps : List Parameter) (m j : ℕ) → is_option p ≡ false → is_variadic p.kind ≡ false → (i : ℕ) × (taker (map meaning ps) m ≡ Some i) × (j ≡ suc i) → ((i : ℕ) → taker (map meaning ps) m ≡ Some i → Steps ps m i) → Steps (p ∷ ps) (suc m) j
next_one p ps m j o v (i, t, e) on =
    let s = on i t in
    record { parameter = s.parameter; stands = ap (slice_get (p ∷ ps)) e ∙ s.stands; index = rw (o, v) (lift (is_variadic s.parameter.kind) s.index) }
  where
    lift : (b : Bool) → cond (not b) (suc (pos_of ps m)) (pos_of ps m) ≡ pos_of ps (suc m) → cond (not b) (suc (suc (pos_of ps m))) (suc (pos_of ps m)) ≡ suc (pos_of ps (suc m))
    lift true h = ap suc h
    lift false h = ap suc h

first_one : (p : Parameter) (ps : List Parameter) (j : ℕ) → is_option p ≡ false → ◌≡◌ {A = Option ℕ} (Some 0) (Some j) → Steps (p ∷ ps) 0 j
first_one p ps j o t =
    let e : 0 ≡ j = cc in
    record { parameter = p; stands = ap (slice_get (p ∷ ps)) (sym e); index = rw (o, pos_none ps) (either_way (is_variadic p.kind) (λ v. rw v) (λ v. rw v)) }

further : (p : Parameter) (ps : List Parameter) (m j : ℕ) → is_option p ≡ false → is_variadic p.kind ≡ true → ◌≡◌ {A = Option ℕ} (Some 0) (Some j) → Steps (p ∷ ps) (suc m) j
further p ps m j o v t =
    let e : 0 ≡ j = cc in
    record { parameter = p; stands = ap (slice_get (p ∷ ps)) (sym e); index = rw (o, v) }

pub steps : (ps : List Parameter) (n j : ℕ) → taker (map meaning ps) n ≡ Some j → Steps ps n j
steps [] n j t = let z : ◌≡◌ {A = ℕ} 0 1 = cc in absurd (omega arith)
steps (p ∷ ps) zero j t =
    either_way (is_option p)
    (λ o. later p ps zero j o (unsuc (taker (map meaning ps) zero) j (rw o at t)) (λ i. steps ps zero i))
    (λ o. first_one p ps j o (rw o at t))
steps (p ∷ ps) (suc m) j t =
    either_way (is_option p)
    (λ o. later p ps (suc m) j o (unsuc (taker (map meaning ps) (suc m)) j (rw o at t)) (λ i. steps ps (suc m) i))
    (λ o. either_way (is_variadic p.kind)
    (λ v. further p ps m j o v (rw (o, variadic_is p.kind, v) at t))
    (λ v. next_one p ps m j o v (unsuc (taker (map meaning ps) m) j (rw (o, variadic_is p.kind, v) at t)) (λ i. steps ps m i)))
