-- Bytes that stand in an image, end to end.
use Rattle.std.proofs.Common.{◌≡◌, ℕ, ◌+◌, ◌-◌, ◌<◌, List, ◌∷◌, ◌++◌, length, get_or, take, drop, sym, refl, ap, ◌∙◌, arith, length-append, length-drop}
use Rattle.std.proofs.lemmas.List.{append_assoc, drop-drop, drop_at, take_at, get_or-drop}
use Rattle.format.specs.Format.{Stands}

module _ (xs ys image : List ℕ) (at : ℕ) where
  pub joins : (m to : ℕ) → Stands xs image at m → Stands ys image m to → Stands (xs ++ ys) image at to
  joins m to s t = record {
    is = s.is ∙ ap (λ r. xs ++ r) t.is ∙ sym (append_assoc xs ys (drop to image));
    ends = let a = s.ends in let b = t.ends in simp length-append (omega arith);
  }

  rest : (to : ℕ) → Stands (xs ++ ys) image at to → drop (at + length xs) image ≡ ys ++ drop to image
  rest to s = sym (drop-drop (length xs) at image) ∙ ap (drop (length xs)) (s.is ∙ append_assoc xs ys (drop to image)) ∙ drop_at xs (ys ++ drop to image) (length xs) refl

  pub front : (to : ℕ) → Stands (xs ++ ys) image at to → Stands xs image at (at + length xs)
  front to s = record {
    is = s.is ∙ append_assoc xs ys (drop to image) ∙ ap (λ r. xs ++ r) (sym (rest to s));
    ends = refl;
  }

  pub behind : (to : ℕ) → Stands (xs ++ ys) image at to → Stands ys image (at + length xs) to
  behind to s = record {
    is = rest to s;
    ends = let a = s.ends in omega (arith, length-append xs ys);
  }

-- two lists of one length at one place are one
pub same_here : (xs ys image : List ℕ) (at to up : ℕ) → length xs ≡ length ys → Stands xs image at to → Stands ys image at up → xs ≡ ys
same_here xs ys image at to up e s t =
    sym (take_at xs (drop to image) (length xs) refl) ∙ ap (take (length xs)) (sym s.is ∙ t.is) ∙ take_at ys (drop up image) (length xs) (sym e)

-- what stands lies within the image
pub within : (x : ℕ) (xs image : List ℕ) (at to : ℕ) → Stands (x ∷ xs) image at to → at + length xs < length image
within x xs image at to s =
    let e : length image - at ≡ length (x ∷ xs ++ drop to image) = sym (length-drop at image) ∙ ap length s.is in
    omega (arith, simp length-append at e)

pub first-is : (x : ℕ) (xs image : List ℕ) (at to : ℕ) → Stands (x ∷ xs) image at to → get_or image at 0 ≡ x
first-is x xs image at to s = ap (λ n. get_or image n 0) (omega arith) ∙ sym (get_or-drop at image 0 0) ∙ ap (λ l. get_or l 0 0) s.is
