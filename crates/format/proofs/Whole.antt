-- A value from an image's first byte to its last.
use Rattle.std.proofs.Common.{◌≡◌, ℕ, ◌+◌, ◌≤◌, List, ◌++◌, length, sym, ap, ◌∙◌, arith}
use Rattle.std.proofs.lemmas.List.{drop_all, append-nil}
use Rattle.format.specs.Format.{Format, Good}
use Rattle.format.specs.Sure.{Sure}
use Rattle.format.specs.Encoded.{Encoded}

module _ {A : Type 0} (f : Format A) where
  held : (image : List ℕ) (a : A) → f.Keeps a → image ≡ f.bytes a → Good f image 0 a (length image)
  held image a k e = record {
    keeps = k;
    stands = record {
      is = e ∙ sym (append-nil (f.bytes a)) ∙ ap (λ r. f.bytes a ++ r) (sym (drop_all (length image) image (omega arith)));
      ends = let l = ap length e in omega arith;
    };
  }

  written : (image : List ℕ) (a : A) (to : ℕ) → Good f image 0 a to → length image ≤ to → image ≡ f.bytes a
  written image a to g l = g.stands.is ∙ ap (λ r. f.bytes a ++ r) (drop_all to image l) ∙ append-nil (f.bytes a)

  pub encoded : Encoded f
  encoded = record { held = held; written = written }

  -- two values at one place end at one place
  pub ends_same : Sure f → (image : List ℕ) (at : ℕ) (a b : A) (to up : ℕ) → Good f image at a to → Good f image at b up → to ≡ up
  ends_same s image at a b to up g h = sym g.stands.ends ∙ ap (λ x. at + length (f.bytes x)) (s.one image at a b to up g h) ∙ h.stands.ends
