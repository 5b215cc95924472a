-- At every place of every image a format has one value or one fault at most, and never both. Assumes nothing.
use Rattle.std.specs.Prelude.{◌≡◌, ℕ, ◌<◌, List}
use Rattle.refusal.specs.declared.Refusal.{Refusal}
use Rattle.format.specs.Format.{Format, Good, number}
use Rattle.format.specs.Fields.{below, within, bits, plain_text, name_text}

pub record Sure {A : Type 0} (f : Format A) : Type 0 where
  pub one : (image : List ℕ) (at : ℕ) (a b : A) (to up : ℕ) → Good f image at a to → Good f image at b up → a ≡ b
  pub apart : (image : List ℕ) (at : ℕ) (a : A) (to : ℕ) (e : Refusal) → Good f image at a to → f.Faulty image at e → ⊥
  pub same : (image : List ℕ) (at : ℕ) (e d : Refusal) → f.Faulty image at e → f.Faulty image at d → e ≡ d

-- the same of each field
pub record FieldsSure : Type 0 where
  pub numbers : (w : ℕ) → 0 < w → Sure (number w)
  pub limited : (limit w : ℕ) → 0 < w → Sure (below limit w)
  pub ranges : (least most w : ℕ) → 0 < w → Sure (within least most w)
  pub maps : (n w : ℕ) → 0 < w → Sure (bits n w)
  pub texts : (least : ℕ) → Sure (plain_text least)
  pub names : Sure name_text
