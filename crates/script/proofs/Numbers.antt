-- Digits of a number, one after the other.
use Rattle.std.proofs.Common.{◌≡◌, ℕ, ◌≤◌, List, [], ◌∷◌, length, Some, None, Option, sym, refl, ap, subst, arith, ◌∙◌}
use Rattle.std.proofs.lemmas.Iterator.{YieldsList}
use Rattle.std.specs.Iterator.{TryFoldsItems, TryFoldTurn, AlwaysYields, Yields}
use Rattle.std.specs.List.{FoldsTo}
use Rattle.std.specs.Fn.{Called}
use Rattle.std.specs.Option.{MatchOption}
use Rattle.std.specs.ControlFlow.{continue_value}
use Rattle.std.specs.declared.ops.ControlFlow.{ControlFlow}
use denote.Param.Members.{Mut}
use Rattle.script.specs.Call.{with_digit, digits_on, number_of}

digits_none : (t : List ℕ) → digits_on None t ≡ None
digits_none [] = refl
digits_none (c ∷ t) = refl

pub number_from_digits : (text : List ℕ) → 1 ≤ length text → digits_on (Some 0) text ≡ number_of text
number_from_digits [] l = absurd (omega arith)
number_from_digits (c ∷ t) l = refl

abbrev pub Goes : (E : Type 0) → Option ℕ → ControlFlow E ℕ → Type 0
Goes E w c = w ≡ continue_value c

-- a closure that takes one digit more, over a whole text
module _ {S A F : Type 0} (E : Type 0) (steps : S → Option A → S → Type 0) (v : A → ℕ) (g : Mut F (ℕ × (A × Unit {0})) (Option ℕ)) (f : F) (r : Option ℕ) (k : (b : ℕ) (x : A) (w : Option ℕ) (q : F) → Called g f (b, (x, tt)) w q → (q ≡ f) × (w ≡ with_digit b (v x))) where
  over : (xs : List A) (ys : List ℕ) (s t u : S) (o : Option A) (b : ℕ) (j : F) (a : ℕ) → AlwaysYields steps v s ys → Yields steps s xs t → steps t o u → FoldsTo (TryFoldTurn g (Goes E)) (f, b) xs (j, a) → MatchOption o (r ≡ Some a) (λ x. (w : Option ℕ) × (h : F) × (e : E) × Called g j (a, (x, tt)) w h × (w ≡ None) × (r ≡ None)) → r ≡ digits_on (Some b) ys
  over [] [] s t u None b j a e y p c l = l ∙ ap Some (sym (ap (λ (q : F × ℕ). q.1) c))
  over [] [] s t u (Some x) b j a e y p c l = absurd (e x u (subst (λ z. steps z (Some x) u) (sym y) p))
  over [] (z ∷ ys) s t u None b j a e y p c l = absurd (e.0 u (subst (λ z. steps z None u) (sym y) p))
  over [] (z ∷ ys) s t u (Some x) b j a e y p c l =
      let q = (e.1 x u (subst (λ z. steps z (Some x) u) (sym y) p)).0 in
      let m = k b x l.0 l.1 (subst (λ (q : F × ℕ). Called g q.0 (q.1, (x, tt)) l.0 l.1) (sym c) l.3) in
      l.5 ∙ sym (ap (λ o. digits_on o ys) (ap (with_digit b) (sym q) ∙ sym m.1 ∙ l.4) ∙ digits_none ys)
  over (x ∷ xs) [] s t u o b j a e y p c l = absurd (e x y.0 y.1)
  over (x ∷ xs) (z ∷ ys) s t u o b j a e y p c l =
      let q = e.1 x y.0 y.1 in
      let m = k b x c.1.0 c.0.0 c.1.1 in
      over xs ys y.0 t u o c.0.1 j a q.1 y.2 p (subst (λ (w : F × ℕ). FoldsTo (TryFoldTurn g (Goes E)) w xs (j, a)) {x = c.0} {y = (f, c.0.1)} (λ i. (m.0 i, c.0.1)) c.2) l
      ∙ ap (λ o. digits_on o ys) (sym c.1.2 ∙ m.1 ∙ ap (with_digit b) q.0)

pub digits_from_try_fold : {S A F E : Type 0} {steps : S → Option A → S → Type 0} {v : A → ℕ} {g : Mut F (ℕ × (A × Unit {0})) (Option ℕ)} {s : S} {ys : List ℕ} (u : S) (f : F) (b : ℕ) (r : Option ℕ)
    → TryFoldsItems steps g (Goes E) (λ (e : E) w. w ≡ None) s f b r u → YieldsList steps v s ys → ((b : ℕ) (x : A) (w : Option ℕ) (q : F) → Called g f (b, (x, tt)) w q → (q ≡ f) × (w ≡ with_digit b (v x))) → r ≡ digits_on (Some b) ys
digits_from_try_fold {E = E} {steps = steps} {v = v} {g = g} {s = s} {ys = ys} u f b r d e k = over E steps v g f r k d.0 ys s d.4.0 u d.1 b d.2 d.3 e.runs d.4.1 d.4.2 d.5 d.6
