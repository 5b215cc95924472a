-- A word's dashes, name and value, by just and by the rules.
use Rattle.std.proofs.Common.{◌≡◌, ℕ, Bool, true, false, cond, not, ◌&&◌, eqb, List, [], ◌∷◌, map, Some, None, Option, refl, ap, ◌∙◌}
use Rattle.std.specs.Option.{option_map}
use Rattle.std.specs.Str.{bytes_eq}
use Rattle.std.proofs.lemmas.Bool.{false≢true}
use Rattle.text.specs.Identifier.{Text}
use Rattle.text.proofs.Splits.{either_way}
use Rattle.reading.specs.Letters.{letters}
use Rattle.reading.specs.Switches as rules
use Rattle.reading.specs.Switches.{is_dashed, two_dashes, up_to_equals, behind_equals, name, switches}
use Rattle.reading.specs.Model.{is_nil}
use Rattle.just.specs.Str as str
use Rattle.just.specs.Str.{Halves}
use Rattle.just.specs.Results.{if_let}
use Rattle.just.specs.Error.Switch.{Long, Short}
use Rattle.just.specs.InvocationParser.{undashed, name_of, value_of, switches_of}
use Rattle.just.proofs.Meaning.{switch_means}

pub dashed_is : (w : Text) → (str.starts_with (45 ∷ []) w && not (bytes_eq w (45 ∷ []))) ≡ is_dashed w
dashed_is [] = refl
dashed_is (b ∷ []) = either_way (eqb b 45) (λ e. rw e) (λ e. rw e)
dashed_is (b ∷ c ∷ t) = either_way (eqb b 45) (λ e. rw e) (λ e. rw e)

pub two_is : (w : Text) → str.starts_with (45 ∷ 45 ∷ []) w ≡ two_dashes w
two_is [] = refl
two_is (b ∷ []) = either_way (eqb b 45) (λ e. rw e) (λ e. rw e)
two_is (b ∷ c ∷ t) = either_way (eqb b 45) (λ e. rw e (either_way (eqb c 45) (λ f. rw f) (λ f. rw f))) (λ e. rw e)

-- a word without dashes is not asked
pub undashed_is : (w : Text) → is_dashed w ≡ true → undashed w ≡ rules.undashed w
undashed_is [] d = refl
undashed_is (b ∷ []) d = absurd (false≢true d)
undashed_is (b ∷ c ∷ t) d = rw d (either_way (eqb c 45) (λ f. rw f) (λ f. rw f))

left_is : (b : ℕ) (t : Text) (o : Option Halves) → if_let o (λ (h : Halves). h.left) t ≡ up_to_equals t → if_let {A = Halves} (option_map {U = Halves} (λ (h : Halves). record { left = b ∷ h.left; right = h.right }) o) (λ (h : Halves). h.left) (b ∷ t) ≡ b ∷ up_to_equals t
left_is b t None e = ap (λ (u : Text). b ∷ u) e
left_is b t (Some h) e = ap (λ (u : Text). b ∷ u) e

pub name_is : (t : Text) → name_of t ≡ up_to_equals t
name_is [] = refl
name_is (b ∷ t) = either_way (eqb b 61) (λ e. rw e) (λ e. rw e (left_is b t (str.split_once 61 t) (name_is t)))

right_is : (b : ℕ) (o : Option Halves) (v : Option Text) → option_map (λ (h : Halves). h.right) o ≡ v → option_map {T = Halves} (λ (h : Halves). h.right) (option_map {U = Halves} (λ (h : Halves). record { left = b ∷ h.left; right = h.right }) o) ≡ v
right_is b None v e = e
right_is b (Some h) v e = e

pub value-is : (t : Text) → value_of t ≡ behind_equals t
value-is [] = refl
value-is (b ∷ t) = either_way (eqb b 61) (λ e. rw e) (λ e. rw e (right_is b (str.split_once 61 t) (behind_equals t) (value-is t)))

pub empty_is : (t : Text) → str.is_empty t ≡ is_nil t
empty_is [] = refl
empty_is (b ∷ t) = refl

letters_mean : (cs : List ℕ) → map switch_means (map Short cs) ≡ map rules.Switch.Letter cs
letters_mean [] = refl
letters_mean (c ∷ cs) = ap (λ (ss : List rules.Switch). rules.Switch.Letter c ∷ ss) (letters_mean cs)

-- the name of a word of switches decodes to its letters
abbrev pub Spelt : Text → Type 0
Spelt w = is_dashed w ≡ true → str.chars (name w) ≡ letters (name w)

spelled_mean : (two : Bool) (n : Text) → str.chars n ≡ letters n → map switch_means (cond two (Long n ∷ []) (map Short (str.chars n))) ≡ rules.spelled two n
spelled_mean true n e = refl
spelled_mean false n e = letters_mean (str.chars n) ∙ ap (λ (cs : List ℕ). map rules.Switch.Letter cs) e

pub switches_mean : (w : Text) → is_dashed w ≡ true → Spelt w → map switch_means (switches_of w (name w)) ≡ switches w
switches_mean w d spelt = ap (λ (two : Bool). map switch_means (cond two (Long (name w) ∷ []) (map Short (str.chars (name w))))) (two_is w) ∙ spelled_mean (two_dashes w) (name w) (spelt d)
