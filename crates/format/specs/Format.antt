-- What a part of an image is: how its values are written, which values may stand, and what the first fault of a part that starts at a place is. A format is described once; writing, reading and refusing all follow from that. Assumes nothing.
use Rattle.std.specs.Prelude.{◌≡◌, ℕ, zero, suc, ◌+◌, ◌/◌, ◌%◌, ◌^◌, ◌<◌, ◌≤◌, Bool, true, false, ◌⊎◌, List, [], ◌∷◌, ◌++◌, length, drop, Some, None, Option, slice_index}
use Rattle.refusal.specs.declared.Refusal.{Refusal}
use Rattle.refusal.specs.declared.Refusal.TheVariants.{FieldCutOff}

-- the bytes xs stand in the image from place `at` up to place `to`
pub record Stands (xs image : List ℕ) (at to : ℕ) : Type 0 where
  pub is : drop at image ≡ xs ++ drop to image
  pub ends : at + length xs ≡ to

pub record Format (A : Type 0) : Type 1 where
  -- how a value is written
  pub bytes : A → List ℕ
  -- the values that may stand
  pub Keeps : A → Type 0
  -- Faulty image at e: of the part that starts at `at`, the first check that fails is told as e
  pub Faulty : List ℕ → ℕ → Refusal → Type 0

-- a value of the format stands in the image from `at` up to `to`
pub record Good {A : Type 0} (f : Format A) (image : List ℕ) (at : ℕ) (a : A) (to : ℕ) : Type 0 where
  pub keeps : f.Keeps a
  pub stands : Stands (f.bytes a) image at to

-- a number as w bytes, the lowest first
abbrev pub little : ℕ → ℕ → List ℕ
little zero v = []
little (suc w) v = v % 256 ∷ little w (v / 256)

-- any number of w bytes; cut off where the image ends before it does
abbrev pub number : ℕ → Format ℕ
number w = record {
  bytes = little w;
  Keeps = λ v. v < 256 ^ w;
  Faulty = λ image at e. (e ≡ FieldCutOff at) × (length image < at + w);
}

-- a length byte and that many bytes; cut off where the image ends before they do
abbrev pub sized : Format (List ℕ)
sized = record {
  bytes = λ t. length t ∷ t;
  Keeps = λ t. length t < 256;
  Faulty = λ image at e. (e ≡ FieldCutOff at) × (length image ≤ at + slice_index image at);
}

-- a value stands at a place, and breaks a rule
pub record Breaks {A : Type 0} (f : Format A) (Rule : A → Type 0) (image : List ℕ) (at : ℕ) : Type 0 where
  pub value : A
  pub to : ℕ
  pub good : Good f image at value to
  pub broken : Rule value → ⊥

-- a value that keeps a rule, which is asked once the value is there; else the refusal, at the place where the value starts
abbrev pub checked : {A : Type 0} → (ℕ → Refusal) → (A → Type 0) → Format A → Format A
checked refusal Rule f = record {
  bytes = f.bytes;
  Keeps = λ a. f.Keeps a × Rule a;
  Faulty = λ image at e. f.Faulty image at e ⊎ (Breaks f Rule image at × (e ≡ refusal at));
}

-- a first part stands at a place, and what follows it has the fault
pub record Later {A B : Type 0} (f : Format A) (g : A → Format B) (image : List ℕ) (at : ℕ) (e : Refusal) : Type 0 where
  pub first : A
  pub to : ℕ
  pub good : Good f image at first to
  pub fault : (g first).Faulty image to e

-- one part, and then another whose format may depend on it
unfoldable pub both : {A B : Type 0} → Format A → (A → Format B) → Format (A × B)
both f g = record {
  bytes = λ x. f.bytes x.0 ++ (g x.0).bytes x.1;
  Keeps = λ x. f.Keeps x.0 × (g x.0).Keeps x.1;
  Faulty = λ image at e. f.Faulty image at e ⊎ Later f g image at e;
}

-- a part that stands only if its bit does
abbrev pub written_if : {A : Type 0} → Format A → Option A → List ℕ
written_if f None = []
written_if f (Some a) = f.bytes a

abbrev pub KeepsIf : {A : Type 0} → Bool → Format A → Option A → Type 0
KeepsIf b f None = b ≡ false
KeepsIf b f (Some a) = (b ≡ true) × f.Keeps a

abbrev pub only_if : {A : Type 0} → Bool → Format A → Format (Option A)
only_if b f = record {
  bytes = written_if f;
  Keeps = KeepsIf b f;
  Faulty = λ image at e. (b ≡ true) × f.Faulty image at e;
}

-- the same values under other names
abbrev pub named : {A B : Type 0} → (A → B) → Format B → Format A
named from f = record {
  bytes = λ a. f.bytes (from a);
  Keeps = λ a. f.Keeps (from a);
  Faulty = f.Faulty;
}

-- no row
abbrev pub none : {A : Type 0} → Format (List A)
none = record {
  bytes = λ rs. [];
  Keeps = λ rs. rs ≡ [];
  Faulty = λ image at e. ⊥;
}

-- a row, and then others
abbrev pub written_on : {A : Type 0} → Format A → (A → Format (List A)) → List A → List ℕ
written_on f g [] = []
written_on f g (a ∷ rs) = f.bytes a ++ (g a).bytes rs

abbrev pub KeepsOn : {A : Type 0} → Format A → (A → Format (List A)) → List A → Type 0
KeepsOn f g [] = ⊥
KeepsOn f g (a ∷ rs) = f.Keeps a × (g a).Keeps rs

abbrev pub onward : {A : Type 0} → Format A → (A → Format (List A)) → Format (List A)
onward f g = record {
  bytes = written_on f g;
  Keeps = KeepsOn f g;
  Faulty = λ image at e. f.Faulty image at e ⊎ Later f g image at e;
}

-- so many rows end to end, where the format of a row may depend on the row before
abbrev pub rows : {A : Type 0} → (Option A → Format A) → Option A → ℕ → Format (List A)
rows row last zero = none
rows row last (suc n) = onward (row last) (λ a. rows row (Some a) n)
