-- Kinds from the numbers that were read.
use Rattle.std.proofs.Common.{◌≡◌, ℕ, zero, suc, ◌<◌, ◌≤◌, Bool, true, false, Some, Option, Ok, Err, Result, ◌≢◌, nat_lt, sym, refl, ap, ◌∙◌, subst, inl, inr, add-zero, arith}
use Rattle.std.specs.Result.{result_map_both}
use Rattle.std.specs.Option.{unwrap_or}
use Rattle.refusal.specs.declared.Refusal.{Refusal}
use Rattle.refusal.specs.declared.Refusal.TheVariants.{OutOfRange}
use Rattle.format.specs.Format.{Good, number, checked, only_if}
use Rattle.format.specs.Fields.{within}
use Rattle.format.specs.Reads.{Reads, itself}
use Rattle.format.specs.declared.cursor.Cursor.{Cursor}
use Rattle.format.specs.Calls.{ReadsIf}
use Rattle.records.specs.Records.{Kind as KindFits}
use Rattle.records.specs.Numbered.{Given, ReadsAs}
use Rattle.format.proofs.Towards.{kept, broke}
use Rattle.register.specs.Kinds.{kind_number, IsOfNumber as KindOfNumber}
use Rattle.register.specs.declared.kind.Kind.{Kind}
use Rattle.register.specs.declared.kind.Kind.TheVariants.{Module, ModuleAlias, Recipe, RecipeAlias, DisabledRecipe, DisabledAlias, AbsentModule}
use Rattle.register.specs.ParameterNumber.{parameter_number, IsOfNumber}
use Rattle.register.specs.declared.parameter.ParameterKind.{ParameterKind}
use Rattle.register.specs.declared.parameter.ParameterKind.TheVariants.{Singular, Plus, Star}

-- each number below 7 is a kind's
pub kind_with : (n : ℕ) → n < 7 → (k : Kind) × (kind_number k ≡ n)
kind_with zero h = (Module, refl)
kind_with (suc zero) h = (ModuleAlias, refl)
kind_with (suc (suc zero)) h = (Recipe, refl)
kind_with (suc (suc (suc zero))) h = (RecipeAlias, refl)
kind_with (suc (suc (suc (suc zero)))) h = (DisabledRecipe, refl)
kind_with (suc (suc (suc (suc (suc zero))))) h = (DisabledAlias, refl)
kind_with (suc (suc (suc (suc (suc (suc zero)))))) h = (AbsentModule, refl)
kind_with (suc (suc (suc (suc (suc (suc (suc n))))))) h = absurd (omega arith)

abbrev Numbered : ℕ → Type 0
Numbered n = (1 ≤ n) × (n ≤ 2)

numbered : (k : ParameterKind) (n : ℕ) → parameter_number k ≡ Some n → Numbered n
numbered Singular n e = cc
numbered Plus n e = let is : ◌≡◌ {A = ℕ} 1 n = cc in (omega arith, omega arith)
numbered Star n e = let is : ◌≡◌ {A = ℕ} 2 n = cc in (omega arith, omega arith)

of_none : (n : ℕ) → ((k : ParameterKind) → parameter_number k ≢ Some n) → Numbered n → ⊥
of_none zero none h = omega (arith, h.0)
of_none (suc zero) none h = none Plus refl
of_none (suc (suc zero)) none h = none Star refl
of_none (suc (suc (suc n))) none h = omega (arith, h.1)

-- the kind whose number was read, or a refusal where none has it
below_seven : (k : Kind) → kind_number k < 7
below_seven Module = omega arith
below_seven ModuleAlias = omega arith
below_seven Recipe = omega arith
below_seven RecipeAlias = omega arith
below_seven DisabledRecipe = omega arith
below_seven DisabledAlias = omega arith
below_seven AbsentModule = omega arith

module _ (E : Type 0) {c d : Cursor} where
  known_given : (r : Result ℕ Refusal) (out : Result Kind Refusal) → Reads (number 1) itself c r d → Given (KindOfNumber {E = E}) c.at out r → Reads (checked OutOfRange (λ n. n < 7) (number 1)) (λ _ k. kind_number k) c out d
  known_given (Ok n) out s (Ok k, of, is) =
      let g = kept OutOfRange (λ n. n < 7) (number 1) s n refl (subst (λ n. n < 7) of (below_seven k)) in
      subst (λ o. Reads (checked OutOfRange (λ n. n < 7) (number 1)) (λ _ k. kind_number k) c o d) (sym is) (record { same = g.same; says = subst (λ o. Good (checked OutOfRange (λ n. n < 7) (number 1)) c.image.now c.at o d.at) (sym of) g.says })
  known_given (Ok n) out s (Err e, none, is) =
      subst (λ o. Reads (checked OutOfRange (λ n. n < 7) (number 1)) (λ _ k. kind_number k) c o d) (sym is) (broke OutOfRange (λ n. n < 7) (number 1) s (λ _ k. kind_number k) n refl (λ h. let k = kind_with n h in none k.0 k.1))
  known_given (Err e) out s is =
      subst (λ o. Reads (checked OutOfRange (λ n. n < 7) (number 1)) (λ _ k. kind_number k) c o d) (sym is) (record { same = s.same; says = inl s.says })

  pub known_read : (out : Result Kind Refusal) → ReadsAs (KindOfNumber {E = E}) c out d → Reads (checked OutOfRange (λ n. n < 7) (number 1)) (λ _ k. kind_number k) c out d
  known_read out s = known_given s.got out s.reads s.given

-- a known kind that also fits
pub fits_read : {c d : Cursor} (b : Bool) (out : Result Kind Refusal) → Reads (checked OutOfRange (λ n. nat_lt n 4 ≡ b) (checked OutOfRange (λ n. n < 7) (number 1))) (λ _ k. kind_number k) c out d → Reads (checked OutOfRange (KindFits b) (number 1)) (λ _ k. kind_number k) c out d
fits_read b (Ok k) s = record { same = s.same; says = record { keeps = (s.says.keeps.0.0, record { known = s.says.keeps.0.1; fits = s.says.keeps.1 }); stands = s.says.stands } }
fits_read {c = c} b (Err e) s = record { same = s.same; says = faulty s.says } where
  faulty : (checked OutOfRange (λ n. nat_lt n 4 ≡ b) (checked OutOfRange (λ n. n < 7) (number 1))).Faulty c.image.now c.at e → (checked OutOfRange (KindFits b) (number 1)).Faulty c.image.now c.at e
  faulty (inl (inl x)) = inl x
  faulty (inl (inr (p, is))) = inr (record { value = p.value; to = p.to; good = p.good; broken = λ h. p.broken h.known }, is)
  faulty (inr (p, is)) = inr (record { value = p.value; to = p.to; good = record { keeps = p.good.keeps.0; stands = p.good.stands }; broken = λ h. p.broken h.fits }, is)

-- the parameter kind whose number was read, or a refusal where none has it
module _ (E : Type 0) {c d : Cursor} where
  parameter_given : (r : Result ℕ Refusal) (out : Result ParameterKind Refusal) → Reads (number 1) itself c r d → Given (IsOfNumber {E = E}) c.at out r → Reads (only_if true (within 1 2 1)) (λ _ kind. parameter_number kind) c out d
  parameter_given (Ok n) out s (Ok k, of, is) =
      let g = kept OutOfRange Numbered (number 1) s n refl (numbered k n of) in
      subst (λ o. Reads (only_if true (within 1 2 1)) (λ _ kind. parameter_number kind) c o d) (sym is) (record { same = g.same; says = subst (λ o. Good (only_if true (within 1 2 1)) c.image.now c.at o d.at) (sym of) (record { keeps = (refl, g.says.keeps); stands = g.says.stands }) })
  parameter_given (Ok n) out s (Err e, none, is) =
      let g = broke OutOfRange Numbered (number 1) s itself n refl (of_none n none) in
      subst (λ o. Reads (only_if true (within 1 2 1)) (λ _ kind. parameter_number kind) c o d) (sym is) (record { same = g.same; says = (refl, g.says) })
  parameter_given (Err e) out s is =
      subst (λ o. Reads (only_if true (within 1 2 1)) (λ _ kind. parameter_number kind) c o d) (sym is) (record { same = s.same; says = (refl, inl s.says) })

-- the same behind a bit; without it, Singular
pub parameter_kind_read : {E : Type 0} {Read : Cursor → Result ParameterKind Refusal → Cursor → Type 0} {b : Bool} {c d : Cursor} {got : Result (Option ParameterKind) Refusal} (out : Result ParameterKind Refusal) → ReadsIf Read b c got d → ((r : Result ParameterKind Refusal) → Read c r d → ReadsAs (IsOfNumber {E = E}) c r d) → out ≡ result_map_both (λ o. unwrap_or o Singular) (λ e. e) got → Reads (only_if b (within 1 2 1)) (λ _ kind. parameter_number kind) c out d
parameter_kind_read {b = false} {c = c} {d = d} out s each is =
    let p = s.absent refl in
    let o = is ∙ ap (result_map_both (λ o. unwrap_or o Singular) (λ e. e)) p.0 in
    subst (λ x. Reads (only_if false (within 1 2 1)) (λ _ kind. parameter_number kind) c out x) (sym p.1) (subst (λ o. Reads (only_if false (within 1 2 1)) (λ _ kind. parameter_number kind) c o c) (sym o) (record { same = refl; says = record { keeps = refl; stands = record { is = refl; ends = add-zero c.at } } }))
parameter_kind_read {b = true} {c = c} {d = d} out s each is =
    let p = s.present refl in
    let a = each p.0 p.1 in
    subst (λ o. Reads (only_if true (within 1 2 1)) (λ _ kind. parameter_number kind) c o d) (sym (is ∙ ap (result_map_both (λ o. unwrap_or o Singular) (λ e. e)) p.2 ∙ plain p.0)) (parameter_given _ a.got p.0 a.reads a.given) where
      plain : (r : Result ParameterKind Refusal) → result_map_both (λ o. unwrap_or o Singular) (λ e. e) (result_map_both Some (λ e. e) r) ≡ r
      plain (Ok v) = refl
      plain (Err e) = refl
