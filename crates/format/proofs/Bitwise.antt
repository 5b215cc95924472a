-- Bit maps by their bits.
use Rattle.std.proofs.Common.{◌≡◌, ℕ, zero, suc, ◌+◌, ◌*◌, ◌/◌, ◌%◌, ◌^◌, ◌<◌, Bool, true, false, cond, eqb, List, [], ◌∷◌, get_or, is_some, Some, None, Option, sym, refl, ap, ◌∙◌, mul_comm, pow-suc, arith}
use native.Mathlib.Nat.{div-div-eq-div-mul}
use Rattle.std.proofs.lemmas.Bool.{eqb-true, eqb-false, cond_both}
use Rattle.format.specs.Format.{Format, KeepsIf}
use Rattle.format.specs.Fields.{bit, map_of}

-- a bit by a shift
pub bit_is : (i m : ℕ) → bit i m ≡ eqb (m / 2 ^ i % 2) 1
bit_is zero m = let e : m ≡ m / 2 ^ 0 = omega arith in ap (λ x. eqb (x % 2) 1) e
bit_is (suc i) m =
    let p : 2 * 2 ^ i ≡ 2 ^ suc i = sym (pow-suc 2 i ∙ mul_comm (2 ^ i) 2) in
    let e : m / 2 / 2 ^ i ≡ m / 2 ^ suc i = div-div-eq-div-mul m 2 (2 ^ i) ∙ ap (λ x. m / x) p in
    bit_is i (m / 2) ∙ ap (λ x. eqb (x % 2) 1) e

-- no bit is set behind the highest
pub bit_above : (i m : ℕ) → m < 2 ^ i → bit i m ≡ false
bit_above zero m h = let z : m ≡ 0 = omega arith in ap (bit 0) z
bit_above (suc i) m h =
    let k : m < 2 ^ i * 2 = rw pow-suc at h in
    bit_above i (m / 2) (omega arith)

-- the lowest n bits, the lowest first
abbrev pub lowest : ℕ → ℕ → List Bool
lowest zero m = []
lowest (suc n) m = bit 0 m ∷ lowest n (m / 2)

one_bit : (m : ℕ) → cond (bit 0 m) 1 0 ≡ m % 2
one_bit m = cond_both (bit 0 m) 1 0 (λ v. v ≡ m % 2) (λ e. sym (eqb-true (m % 2) 1 e)) (λ e. omega (arith, eqb-false (m % 2) 1 e))

-- a map is the map of its bits
pub map_is : (n m : ℕ) → m < 2 ^ n → m ≡ map_of (lowest n m)
map_is zero m h = omega arith
map_is (suc n) m h =
    let k : m < 2 ^ n * 2 = rw pow-suc at h in
    let e = map_is n (m / 2) (omega arith) in
    omega (arith, one_bit m)

-- the map of some bits has these bits
pub bit_of : (i : ℕ) (bs : List Bool) → bit i (map_of bs) ≡ get_or bs i false
bit_of i [] = none i where
  none : (i : ℕ) → bit i 0 ≡ false
  none zero = refl
  none (suc i) = none i
bit_of zero (b ∷ bs) =
    elim b as (λ v. bit 0 (cond v 1 0 + 2 * map_of bs) ≡ v) [
      | true ↦ let e : (1 + 2 * map_of bs) % 2 ≡ 1 = omega arith in ap (λ x. eqb x 1) e
      | false ↦ let e : (0 + 2 * map_of bs) % 2 ≡ 0 = omega arith in ap (λ x. eqb x 1) e
    ]
bit_of (suc i) (b ∷ bs) =
    let e : (cond b 1 0 + 2 * map_of bs) / 2 ≡ map_of bs = cond_both b 1 0 (λ v. (v + 2 * map_of bs) / 2 ≡ map_of bs) (λ _. omega arith) (λ _. omega arith) in
    ap (bit i) e ∙ bit_of i bs

-- a field stands exactly if its bit does
pub stands_bit : {A : Type 0} (b : Bool) (f : Format A) (o : Option A) → KeepsIf b f o → b ≡ is_some o
stands_bit b f None k = k
stands_bit b f (Some a) k = k.0
