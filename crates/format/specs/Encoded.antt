-- An image holds one value from its first byte to its last exactly if it is that value, written. Assumes nothing.
use Rattle.std.specs.Prelude.{◌≡◌, ℕ, ◌≤◌, List, length}
use Rattle.format.specs.Format.{Format, Good}

pub record Encoded {A : Type 0} (f : Format A) : Type 0 where
  pub held : (image : List ℕ) (a : A) → f.Keeps a → image ≡ f.bytes a → Good f image 0 a (length image)
  pub written : (image : List ℕ) (a : A) (to : ℕ) → Good f image 0 a to → length image ≤ to → image ≡ f.bytes a
