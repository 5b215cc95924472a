-- A cursor on its way through a part of an image.
use Rattle.std.proofs.Common.{◌≡◌, ℕ, List, IsErrAnd, Ok, Err, Result, sym, refl, ap, ◌∙◌, subst, inr}
use Rattle.std.proofs.lemmas.Result.{err_from_is_err_and}
use Rattle.refusal.specs.declared.Refusal.{Refusal}
use Rattle.format.specs.Format.{Format, Good, checked, both, named}
use Rattle.format.specs.Reads.{Says, Reads}
use Rattle.format.specs.declared.cursor.Cursor.{Cursor}
use Rattle.format.proofs.Leads.{Leads, start, stops, passes, by_name}

-- the whole from cursor c is read up to cursor d, where the part is next; make says what the part's value makes of the whole
pub record Towards {A B : Type 0} (whole : Format A) (c : Cursor) (part : Format B) (d : Cursor) (make : B → A) : Type 0 where
  pub same : d.image.now ≡ c.image.now
  pub leads : Leads c.image.now whole c.at part d.at make

pub begin : {A : Type 0} (f : Format A) (c : Cursor) → Towards f c f c (λ a. a)
begin f c = record { same = refl; leads = start c.image.now f c.at }

-- what was read of the image that c has
module _ {B V : Type 0} (f : Format B) (told : List ℕ → V → B) (c d e : Cursor) (r : Result V Refusal) (same : d.image.now ≡ c.image.now) (s : Reads f told d r e) where
  said : Says f told c.image.now d.at r e.at
  said = subst (λ i. Says f told i d.at r e.at) same s.says

  pub got : (v : V) → r ≡ Ok v → Good f c.image.now d.at (told c.image.now v) e.at
  got v is = subst (λ x. Says f told c.image.now d.at x e.at) is said

  pub lost : (x : Refusal) → r ≡ Err x → f.Faulty c.image.now d.at x
  lost x is = subst (λ y. Says f told c.image.now d.at y e.at) is said

pub was : {W : Type 0} (out : Result W Refusal) (x : Refusal) → IsErrAnd out (λ y. y ≡ x) → out ≡ Err x
was out x o = let p = err_from_is_err_and out o in p.1 ∙ ap Err p.2

pub refuses : {A V : Type 0} (f : Format A) (told : List ℕ → V → A) (c e : Cursor) (out : Result V Refusal) (x : Refusal) → e.image.now ≡ c.image.now → out ≡ Err x → f.Faulty c.image.now c.at x → Reads f told c out e
refuses f told c e out x same is w = record { same = same; says = subst (λ y. Says f told c.image.now c.at y e.at) (sym is) w }

-- a part, and then another
module _ {A B C V : Type 0} {whole : Format A} {c d e : Cursor} (f : Format B) (g : B → Format C) {make : B × C → A} {told : List ℕ → V → B} {r : Result V Refusal} (t : Towards whole c (both f g) d make) (s : Reads f told d r e) where
  pub through : (v : V) → r ≡ Ok v → Towards whole c (g (told c.image.now v)) e (λ x. make (told c.image.now v, x))
  through v is = record {
    same = s.same ∙ t.same;
    leads = passes f g t.leads (told c.image.now v) e.at (got f told c d e r t.same s v is);
  }

  pub stopped : {D W : Type 0} (from : D → A) (outs : List ℕ → W → D) {out : Result W Refusal} {x : Refusal} → r ≡ Err x → IsErrAnd out (λ y. y ≡ x) → Reads (named from whole) outs c out e
  stopped from outs {out} {x} is o = refuses (named from whole) outs c e out x (s.same ∙ t.same) (was out x o) (stops f g t.leads x (lost f told c d e r t.same s x is))

-- the last part
module _ {A B V : Type 0} {whole : Format A} {c d e : Cursor} {f : Format B} {make : B → A} {told : List ℕ → V → B} {r : Result V Refusal} (t : Towards whole c f d make) (s : Reads f told d r e) where
  pub ends : (v : V) → r ≡ Ok v → Good whole c.image.now c.at (make (told c.image.now v)) e.at
  ends v is = t.leads.on _ _ (got f told c d e r t.same s v is)

  pub stopped_last : {D W : Type 0} (from : D → A) (outs : List ℕ → W → D) {out : Result W Refusal} {x : Refusal} → r ≡ Err x → IsErrAnd out (λ y. y ≡ x) → Reads (named from whole) outs c out e
  stopped_last from outs {out} {x} is o = refuses (named from whole) outs c e out x (s.same ∙ t.same) (was out x o) (t.leads.off x (lost f told c d e r t.same s x is))

  pub finished : {D W : Type 0} (from : D → A) (outs : List ℕ → W → D) (v : V) (w : W) → r ≡ Ok v → make (told c.image.now v) ≡ from (outs c.image.now w) → Reads (named from whole) outs c (Ok w) e
  finished from outs v w is eq = record { same = s.same ∙ t.same; says = by_name from whole c.image.now c.at e.at (outs c.image.now w) _ eq (ends v is) }

-- a part behind a rule
module _ {A V : Type 0} (refusal : ℕ → Refusal) (Rule : A → Type 0) (f : Format A) {told : List ℕ → V → A} {c e : Cursor} {r : Result V Refusal} (s : Reads f told c r e) where
  pub kept : (v : V) → r ≡ Ok v → Rule (told c.image.now v) → Reads (checked refusal Rule f) told c (Ok v) e
  kept v is k = let g = got f told c c e r refl s v is in record { same = s.same; says = record { keeps = (g.keeps, k); stands = g.stands } }

  pub broke : {W : Type 0} (outs : List ℕ → W → A) (v : V) → r ≡ Ok v → (Rule (told c.image.now v) → ⊥) → Reads (checked refusal Rule f) outs c (Err (refusal c.at)) e
  broke outs v is k = record { same = s.same; says = inr (record { value = told c.image.now v; to = e.at; good = got f told c c e r refl s v is; broken = k }, refl) }
