-- What reading a part of an image answers. Assumes nothing.
use Rattle.std.specs.Prelude.{◌≡◌, ℕ, List, Ok, Err, Option, Result}
use Rattle.std.specs.Option.{option_map}
use Rattle.refusal.specs.declared.Refusal.{Refusal}
use Rattle.format.specs.Format.{Format, Good}
use Rattle.format.specs.declared.cursor.Cursor.{Cursor}

-- the value that stands from `at` up to `to`, or the first fault; told says what a row means over the image's bytes
abbrev pub Says : {A V : Type 0} → Format A → (List ℕ → V → A) → List ℕ → ℕ → Result V Refusal → ℕ → Type 0
Says f told image at (Ok v) to = Good f image at (told image v) to
Says f told image at (Err e) to = f.Faulty image at e

-- a part was read: the value that stands there, with the cursor behind it, or its first fault
pub record Reads {A V : Type 0} (f : Format A) (told : List ℕ → V → A) (c : Cursor) (r : Result V Refusal) (d : Cursor) : Type 0 where
  pub same : d.image.now ≡ c.image.now
  pub says : Says f told c.image.now c.at r d.at

-- a value that needs no image
abbrev pub itself : {V : Type 0} → List ℕ → V → V
itself image v = v

abbrev pub optionally : {A V : Type 0} → (List ℕ → V → A) → List ℕ → Option V → Option A
optionally told image o = option_map (told image) o
