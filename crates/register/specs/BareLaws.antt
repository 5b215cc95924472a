-- The bare register keeps the laws of every register: proofs, which stand here since these laws are ghost members. Assumes nothing.
use Rattle.std.specs.Prelude.{◌≡◌, ℕ, zero, suc, ◌≤◌, Bool, true, false, cond, [], ◌∷◌, length, ◌==◌, refl}
use Rattle.std.proofs.Common.{lit≤, arith}
use Rattle.register.specs.Meaning.{ParameterMeaning}
use Rattle.register.specs.Parameters.{Apart, Passes, has_long_name, has_letter_code}
use Rattle.register.specs.Bare.{bare_parameters, star_only}

pub bare_few : (r : ℕ) → length (bare_parameters r) ≤ 16
bare_few r = elim (r == 1) as (λ b. length (cond b (star_only ∷ []) []) ≤ 16) [ true ↦ lit≤ tt | false ↦ lit≤ tt ]

-- none passes a test that neither the one parameter nor nothing passes
none_passes : (test : ParameterMeaning → Bool) (b : Bool) (place : ℕ) → test star_only ≡ false → Passes test (cond b (star_only ∷ []) []) place → ⊥
none_passes test true zero f h = let z : ◌≡◌ {A = ℕ} 0 1 = cc in omega arith
none_passes test true (suc place) f h = let z : ◌≡◌ {A = ℕ} 0 1 = cc in omega arith
none_passes test false place f h = let z : ◌≡◌ {A = ℕ} 0 1 = cc in omega arith

pub bare_apart : (r : ℕ) → Apart (bare_parameters r)
bare_apart r = record {
  longs = λ t i j h g. absurd (none_passes (has_long_name t) (r == 1) i refl h);
  letters = λ c i j h g. absurd (none_passes (has_letter_code c) (r == 1) i refl h);
}
