-- Each format has one value or one fault at most.
use Rattle.std.proofs.Common.{◌≡◌, ℕ, zero, suc, ◌+◌, ◌*◌, ◌/◌, ◌%◌, ◌^◌, ◌<◌, ◌≤◌, Bool, ◌⊎◌, List, [], ◌∷◌, length, Some, None, Option, sym, refl, ap, ◌∙◌, subst, inl, inr, pow-suc, arith, lit<}
use Rattle.std.proofs.lemmas.Bool.{both_ways}
use Rattle.refusal.specs.declared.Refusal.{Refusal}
use Rattle.text.specs.Identifier.{Text}
use Rattle.format.specs.Format.{Stands, Format, Good, Breaks, Later, little, number, sized, checked, both, only_if, named, none, onward, rows}
use Rattle.format.specs.Fields.{below, within, text, counted}
use Rattle.format.specs.Sure.{Sure}
use Rattle.format.proofs.Stands as stand

-- numbers
pub length_little : (w v : ℕ) → length (little w v) ≡ w
length_little zero v = refl
length_little (suc w) v = ap suc (length_little w (v / 256))

little_one : (w a b : ℕ) → a < 256 ^ w → b < 256 ^ w → little w a ≡ little w b → a ≡ b
little_one zero a b h k e = omega arith
little_one (suc w) a b h k e =
    let p : a % 256 ≡ b % 256 = cc in
    let t : little w (a / 256) ≡ little w (b / 256) = cc in
    let h1 : a < 256 ^ w * 256 = rw pow-suc at h in
    let k1 : b < 256 ^ w * 256 = rw pow-suc at k in
    let q : a / 256 ≡ b / 256 = little_one w (a / 256) (b / 256) (omega arith) (omega arith) t in
    omega arith

little_within : (w v : ℕ) (image : List ℕ) (at to : ℕ) → 0 < w → Stands (little w v) image at to → at + w ≤ length image
little_within zero v image at to h s = absurd (omega arith)
little_within (suc w) v image at to h s = omega (arith, stand.within _ _ _ _ _ s, length_little w (v / 256))

pub number_sure : (w : ℕ) → 0 < w → Sure (number w)
number_sure w h = record {
  one = λ image at a b to up s t. little_one w a b s.keeps t.keeps (stand.same_here _ _ _ _ _ _ (length_little w a ∙ sym (length_little w b)) s.stands t.stands);
  apart = λ image at a to e s t. let u = little_within w a image at to h s.stands in let v = t.1 in omega arith;
  same = λ image at e d s t. s.0 ∙ sym t.0;
}

-- texts
pub sized_sure : Sure sized
sized_sure = record {
  one = λ image at a b to up s t.
      let e : length a ≡ length b = sym (stand.first-is _ _ _ _ _ s.stands) ∙ stand.first-is _ _ _ _ _ t.stands in
      let z : length a ∷ a ≡ length b ∷ b = stand.same_here _ _ _ _ _ _ (ap suc e) s.stands t.stands in
      cc;
  apart = λ image at a to e s t. let u = stand.within _ _ _ _ _ s.stands in let f = stand.first-is _ _ _ _ _ s.stands in let v = t.1 in omega arith;
  same = λ image at e d s t. s.0 ∙ sym t.0;
}

-- a value behind a rule
module _ {A : Type 0} (refusal : ℕ → Refusal) (Rule : A → Type 0) (f : Format A) (sf : Sure f) where
  unchecked : (image : List ℕ) (at : ℕ) (a : A) (to : ℕ) → Good (checked refusal Rule f) image at a to → Good f image at a to
  unchecked image at a to s = record { keeps = s.keeps.0; stands = s.stands }

  unbroken : (image : List ℕ) (at : ℕ) (a : A) (to : ℕ) → Good f image at a to → Rule a → Breaks f Rule image at → ⊥
  unbroken image at a to s p b = b.broken (subst Rule (sf.one image at a b.value to b.to s b.good) p)

  pub checked_sure : Sure (checked refusal Rule f)
  checked_sure = record {
    one = λ image at a b to up s t. sf.one image at a b to up (unchecked _ _ _ _ s) (unchecked _ _ _ _ t);
    apart = λ image at a to e s t. elim t [
      | inl w ↦ sf.apart image at a to e (unchecked _ _ _ _ s) w
      | inr w ↦ unbroken image at a to (unchecked _ _ _ _ s) s.keeps.1 w.0
    ];
    same = λ image at e d s t. elim s [
      | inl u ↦ elim t [ inl v ↦ sf.same image at e d u v | inr v ↦ absurd (sf.apart image at _ _ e v.0.good u) ]
      | inr u ↦ elim t [ inl v ↦ absurd (sf.apart image at _ _ d u.0.good v) | inr v ↦ u.1 ∙ sym v.1 ]
    ];
  }

-- one part and then another
module _ {A B : Type 0} (f : Format A) (g : A → Format B) (sf : Sure f) (sg : (a : A) → Sure (g a)) where
  abbrev After : List ℕ → ℕ → Refusal → Type 0
  After image at e = f.Faulty image at e ⊎ Later f g image at e

  moved : (image : List ℕ) (at : ℕ) (a c : A) (b : B) (m n to : ℕ) → Good f image at a m → Good f image at c n → Good (g c) image n b to → Good (g a) image m b to
  moved image at a c b m n to s t u =
      let e = sf.one image at a c m n s t in
      let z : n ≡ m = sym t.stands.ends ∙ ap (λ x. at + length (f.bytes x)) (sym e) ∙ s.stands.ends in
      subst (λ x. Good (g x) image m b to) (sym e) (subst (λ x. Good (g c) image x b to) z u)

  moved_fault : (image : List ℕ) (at : ℕ) (a : A) (m : ℕ) (d : Refusal) → Good f image at a m → Later f g image at d → (g a).Faulty image m d
  moved_fault image at a m d s l =
      let e = sf.one image at a l.first m l.to s l.good in
      let z : l.to ≡ m = sym l.good.stands.ends ∙ ap (λ x. at + length (f.bytes x)) (sym e) ∙ s.stands.ends in
      subst (λ x. (g x).Faulty image m d) (sym e) (subst (λ x. (g l.first).Faulty image x d) z l.fault)

  after_apart : (image : List ℕ) (at : ℕ) (a : A) (b : B) (m to : ℕ) (e : Refusal) → Good f image at a m → Good (g a) image m b to → After image at e → ⊥
  after_apart image at a b m to e s t w = elim w [
    | inl u ↦ sf.apart image at a m e s u
    | inr u ↦ (sg a).apart image m b to e t (moved_fault image at a m e s u)
  ]

  after_same : (image : List ℕ) (at : ℕ) (e d : Refusal) → After image at e → After image at d → e ≡ d
  after_same image at e d s t = elim s [
    | inl u ↦ elim t [ inl v ↦ sf.same image at e d u v | inr v ↦ absurd (sf.apart image at _ _ e v.good u) ]
    | inr u ↦ elim t [
      | inl v ↦ absurd (sf.apart image at _ _ d u.good v)
      | inr v ↦ (sg u.first).same image u.to e d u.fault (moved_fault image at u.first u.to d u.good v)
    ]
  ]

  first_good : (image : List ℕ) (at : ℕ) (x : A × B) (to : ℕ) → Good (both f g) image at x to → Good f image at x.0 (at + length (f.bytes x.0))
  unfolding both
  first_good image at x to s = record { keeps = s.keeps.0; stands = stand.front _ _ _ _ to s.stands }

  second_good : (image : List ℕ) (at : ℕ) (x : A × B) (to : ℕ) → Good (both f g) image at x to → Good (g x.0) image (at + length (f.bytes x.0)) x.1 to
  unfolding both
  second_good image at x to s = record { keeps = s.keeps.1; stands = stand.behind _ _ _ _ to s.stands }

  pub both_sure : Sure (both f g)
  unfolding both
  both_sure = record {
    one = λ image at x y to up s t.
        let a : x.0 ≡ y.0 = sf.one image at x.0 y.0 _ _ (first_good _ _ x _ s) (first_good _ _ y _ t) in
        let b : x.1 ≡ y.1 = (sg x.0).one image _ x.1 y.1 to up (second_good _ _ x _ s) (moved image at x.0 y.0 y.1 _ _ up (first_good _ _ x _ s) (first_good _ _ y _ t) (second_good _ _ y _ t)) in
        ap (λ c. (c, x.1)) a ∙ ap (λ c. (y.0, c)) b;
    apart = λ image at x to e s t. after_apart image at x.0 x.1 _ to e (first_good _ _ x _ s) (second_good _ _ x _ s) t;
    same = after_same;
  }

module _ {A : Type 0} (f : Format A) (sf : Sure f) where
  pub only_sure : (b : Bool) → Sure (only_if b f)
  only_sure b = record {
    one = λ image at x y. only_one image at x y;
    apart = λ image at x. only_apart image at x;
    same = λ image at e d s t. sf.same image at e d s.1 t.1;
  } where
    only_one : (image : List ℕ) (at : ℕ) (x y : Option A) (to up : ℕ) → Good (only_if b f) image at x to → Good (only_if b f) image at y up → x ≡ y
    only_one image at None None to up s t = refl
    only_one image at None (Some y) to up s t = absurd (both_ways b s.keeps t.keeps.0)
    only_one image at (Some x) None to up s t = absurd (both_ways b t.keeps s.keeps.0)
    only_one image at (Some x) (Some y) to up s t = ap Some (sf.one image at x y to up (record { keeps = s.keeps.1; stands = s.stands }) (record { keeps = t.keeps.1; stands = t.stands }))

    only_apart : (image : List ℕ) (at : ℕ) (x : Option A) (to : ℕ) (e : Refusal) → Good (only_if b f) image at x to → (only_if b f).Faulty image at e → ⊥
    only_apart image at None to e s t = both_ways b s.keeps t.0
    only_apart image at (Some x) to e s t = sf.apart image at x to e (record { keeps = s.keeps.1; stands = s.stands }) t.1

pub named_sure : {A B : Type 0} (from : A → B) (f : Format B) → ((a b : A) → from a ≡ from b → a ≡ b) → Sure f → Sure (named from f)
named_sure from f inj sf = record {
  one = λ image at a b to up s t. inj a b (sf.one image at (from a) (from b) to up (record { keeps = s.keeps; stands = s.stands }) (record { keeps = t.keeps; stands = t.stands }));
  apart = λ image at a to e s t. sf.apart image at (from a) to e (record { keeps = s.keeps; stands = s.stands }) t;
  same = sf.same;
}

pub none_sure : {A : Type 0} → Sure (none {A = A})
none_sure = record {
  one = λ image at a b to up s t. s.keeps ∙ sym t.keeps;
  apart = λ image at a to e s t. t;
  same = λ image at e d s t. absurd s;
}

module _ {A : Type 0} (f : Format A) (g : A → Format (List A)) (sf : Sure f) (sg : (a : A) → Sure (g a)) where
  split : (image : List ℕ) (at : ℕ) (a : A) (rs : List A) (to : ℕ) → Good (onward f g) image at (a ∷ rs) to → Good (both f g) image at (a, rs) to
  unfolding both
  split image at a rs to s = record { keeps = s.keeps; stands = s.stands }

  on_one : (image : List ℕ) (at : ℕ) (x y : List A) (to up : ℕ) → Good (onward f g) image at x to → Good (onward f g) image at y up → x ≡ y
  unfolding both
  on_one image at [] y to up s t = absurd s.keeps
  on_one image at (a ∷ rs) [] to up s t = absurd t.keeps
  on_one image at (a ∷ rs) (b ∷ qs) to up s t = ap (λ x. x.0 ∷ x.1) ((both_sure f g sf sg).one image at (a, rs) (b, qs) to up (split _ _ _ _ _ s) (split _ _ _ _ _ t))

  on_apart : (image : List ℕ) (at : ℕ) (x : List A) (to : ℕ) (e : Refusal) → Good (onward f g) image at x to → (onward f g).Faulty image at e → ⊥
  unfolding both
  on_apart image at [] to e s t = s.keeps
  on_apart image at (a ∷ rs) to e s t = (both_sure f g sf sg).apart image at (a, rs) to e (split _ _ _ _ _ s) t

  pub onward_sure : Sure (onward f g)
  unfolding both
  onward_sure = record { one = on_one; apart = on_apart; same = (both_sure f g sf sg).same }

pub rows_sure : {A : Type 0} (row : Option A → Format A) → ((o : Option A) → Sure (row o)) → (n : ℕ) (last : Option A) → Sure (rows row last n)
rows_sure row s zero last = none_sure
rows_sure row s (suc n) last = onward_sure (row last) (λ a. rows row (Some a) n) (s last) (λ a. rows_sure row s n (Some a))

-- the fields
pub below_sure : (n w : ℕ) → 0 < w → Sure (below n w)
below_sure n w h = checked_sure _ _ _ (number_sure w h)

pub within_sure : (least most w : ℕ) → 0 < w → Sure (within least most w)
within_sure least most w h = checked_sure _ _ _ (number_sure w h)

pub text_sure : (least : ℕ) (Rule : Text → Type 0) → Sure (text least Rule)
text_sure least Rule = checked_sure _ _ _ (checked_sure _ _ _ sized_sure)

pub counted_sure : {A : Type 0} (least most : ℕ) (f : Format A) → Sure f → Sure (counted least most f)
counted_sure least most f s =
    named_sure _ _ (λ a b e. ap (λ x. x.1) e) (both_sure _ _ (within_sure least most 1 (lit< tt)) λ n. rows_sure (λ _. f) (λ _. s) n None)
