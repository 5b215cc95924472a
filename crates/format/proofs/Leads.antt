-- How a part that is still to be read leads to the whole: what the part gives, the whole gives.
use Rattle.std.proofs.Common.{◌≡◌, ℕ, List, subst, inl, inr}
use Rattle.refusal.specs.declared.Refusal.{Refusal}
use Rattle.format.specs.Format.{Format, Good, both, named}
use Rattle.format.proofs.Stands.{joins}

pub record Leads {A B : Type 0} (image : List ℕ) (whole : Format A) (from : ℕ) (part : Format B) (at : ℕ) (make : B → A) : Type 0 where
  pub on : (b : B) (to : ℕ) → Good part image at b to → Good whole image from (make b) to
  pub off : (e : Refusal) → part.Faulty image at e → whole.Faulty image from e

pub start : {A : Type 0} (image : List ℕ) (f : Format A) (at : ℕ) → Leads image f at f at (λ a. a)
start image f at = record { on = λ b to g. g; off = λ e w. w }

module _ {A B C : Type 0} {image : List ℕ} {whole : Format A} {from : ℕ} (f : Format B) (g : B → Format C) {at : ℕ} {make : B × C → A} (l : Leads image whole from (both f g) at make) where
  pub stops : (e : Refusal) → f.Faulty image at e → whole.Faulty image from e
  unfolding both
  stops e w = l.off e (inl w)

  pub passes : (b : B) (m : ℕ) → Good f image at b m → Leads image whole from (g b) m (λ c. make (b, c))
  unfolding both
  passes b m s = record {
    on = λ c to t. l.on (b, c) to (record { keeps = (s.keeps, t.keeps); stands = joins (f.bytes b) ((g b).bytes c) image at m to s.stands t.stands });
    off = λ e w. l.off e (inr (record { first = b; to = m; good = s; fault = w }));
  }

pub by_name : {A B : Type 0} (from : A → B) (f : Format B) (image : List ℕ) (at to : ℕ) (a : A) (b : B) → b ≡ from a → Good f image at b to → Good (named from f) image at a to
by_name from f image at to a b e g = let h = subst (λ x. Good f image at x to) e g in record { keeps = h.keeps; stands = h.stands }
