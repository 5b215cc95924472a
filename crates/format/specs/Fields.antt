-- The fields of an image: numbers in a range, bit maps, texts, counted rows. Assumes nothing.
use Rattle.std.specs.Prelude.{◌≡◌, ℕ, zero, suc, ◌+◌, ◌*◌, ◌/◌, ◌%◌, ◌^◌, ◌<◌, ◌≤◌, Bool, true, cond, List, [], ◌∷◌, length, None, ◌==◌}
use Rattle.std.specs.List.{ContainsAt as Has}
use Rattle.refusal.specs.declared.Refusal.TheVariants.{OutOfRange, ForbiddenText}
use Rattle.text.specs.Identifier.{Text, identifier}
use Rattle.text.specs.Utf8.{Utf8}
use Rattle.format.specs.Format.{Format, number, sized, checked, both, named, rows}

-- a number of w bytes below a limit
abbrev pub below : ℕ → ℕ → Format ℕ
below limit w = checked OutOfRange (λ v. v < limit) (number w)

-- a number of w bytes from one bound to another
abbrev pub within : ℕ → ℕ → ℕ → Format ℕ
within least most w = checked OutOfRange (λ v. (least ≤ v) × (v ≤ most)) (number w)

-- a bit map of w bytes, of which the lowest n bits may be set
abbrev pub bits : ℕ → ℕ → Format ℕ
bits n w = below (2 ^ n) w

-- whether a bit of a map is set; bit 0 is the lowest
abbrev pub bit : ℕ → ℕ → Bool
bit zero map = map % 2 == 1
bit (suc i) map = bit i (map / 2)

-- the map with these bits, the lowest first
abbrev pub map_of : List Bool → ℕ
map_of [] = 0
map_of (b ∷ bs) = cond b 1 0 + 2 * map_of bs

-- a text of at least so many bytes, and at most 32: cut off, else of a length out of range
abbrev pub ranged : ℕ → Format Text
ranged least = checked OutOfRange (λ t. (least ≤ length t) × (length t ≤ 32)) sized

-- a text that keeps a rule, else it is forbidden
abbrev pub text : ℕ → (Text → Type 0) → Format Text
text least Rule = checked ForbiddenText Rule (ranged least)

-- UTF-8 without zero bytes
pub record Plain (t : Text) : Type 0 where
  pub utf8 : Utf8 t
  pub nonzero : Has t 0 → ⊥

abbrev pub plain_text : ℕ → Format Text
plain_text least = text least Plain

-- a name: a text that is an identifier
abbrev pub name_text : Format Text
name_text = text 1 (λ t. identifier t ≡ true)

-- a count byte, and that many rows
abbrev pub counted : {A : Type 0} → ℕ → ℕ → Format A → Format (List A)
counted least most f = named (λ rs. (length rs, rs)) (both (within least most 1) (λ n. rows (λ _. f) None n))
