-- What the questions on a recipe's parameters answer, and the laws of every register. Assumes nothing.
use Rattle.std.specs.Prelude.{◌≡◌, ℕ, suc, Bool, true, false, cond, List, [], ◌∷◌, is_some, Some, None, Option, ◌==◌}
use Rattle.std.specs.Option.{option_map, option_flatten}
use Rattle.std.specs.List.{slice_get}
use Rattle.std.specs.Str.{bytes_eq}
use Rattle.text.specs.Identifier.{Text}
use Rattle.register.specs.Meaning.{ParameterMeaning}
use Rattle.register.specs.declared.parameter.Parameter.{Parameter}

abbrev pub parameter_at : List ParameterMeaning → ℕ → Option ParameterMeaning
parameter_at ps place = slice_get ps place

abbrev pub without_texts : ParameterMeaning → Parameter
without_texts p = record {
  has_default = is_some p.default;
  flag = p.flag;
  multiple = p.multiple;
  value = p.value;
  kind = p.kind;
  has_long = is_some p.long;
  letter = p.letter;
  min = p.min;
  max = p.max;
  pattern = p.pattern;
}

abbrev pub default_at : List ParameterMeaning → ℕ → Option Text
default_at ps place = option_flatten (option_map (λ p. p.default) (slice_get ps place))

abbrev pub long_at : List ParameterMeaning → ℕ → Option Text
long_at ps place = option_flatten (option_map (λ p. p.long) (slice_get ps place))

abbrev pub letter_at : List ParameterMeaning → ℕ → Option ℕ
letter_at ps place = option_flatten (option_map (λ p. p.letter) (slice_get ps place))

-- whether a parameter has this long name, or this letter
abbrev pub is_text : Text → Option Text → Bool
is_text t None = false
is_text t (Some s) = bytes_eq s t

abbrev pub is_code : ℕ → Option ℕ → Bool
is_code c None = false
is_code c (Some d) = d == c

abbrev pub has_long_name : Text → ParameterMeaning → Bool
has_long_name t p = is_text t p.long

abbrev pub has_letter_code : ℕ → ParameterMeaning → Bool
has_letter_code c p = is_code c p.letter

-- the first place whose item passes a test
abbrev pub place_of : {X : Type 0} → (X → Bool) → List X → Option ℕ
place_of test [] = None
place_of test (x ∷ xs) = cond (test x) (Some 0) (option_map suc (place_of test xs))

abbrev pub long_place : List ParameterMeaning → Text → Option ℕ
long_place ps t = place_of (has_long_name t) ps

abbrev pub letter_place : List ParameterMeaning → ℕ → Option ℕ
letter_place ps c = place_of (has_letter_code c) ps

-- the item at this place passes the test
abbrev pub Passes : {X : Type 0} → (X → Bool) → List X → ℕ → Type 0
Passes test xs place = option_map test (slice_get xs place) ≡ Some true

-- at most one item passes the test
abbrev pub AtMostOne : {X : Type 0} → (X → Bool) → List X → Type 0
AtMostOne test xs = (i j : ℕ) → Passes test xs i → Passes test xs j → i ≡ j

-- no two parameters share a long name or a letter
pub record Apart (ps : List ParameterMeaning) : Type 0 where
  pub longs : (t : Text) → AtMostOne (has_long_name t) ps
  pub letters : (c : ℕ) → AtMostOne (has_letter_code c) ps

-- among parameters that are apart, a look-up finds a place exactly when the parameter there has that long name, or that letter
pub record LookUpsStand : Type 0 where
  pub long_found : (ps : List ParameterMeaning) (t : Text) (i : ℕ) → long_place ps t ≡ Some i → long_at ps i ≡ Some t
  pub long_only : (ps : List ParameterMeaning) → Apart ps → (t : Text) (i : ℕ) → long_at ps i ≡ Some t → long_place ps t ≡ Some i
  pub letter_found : (ps : List ParameterMeaning) (c i : ℕ) → letter_place ps c ≡ Some i → letter_at ps i ≡ Some c
  pub letter_only : (ps : List ParameterMeaning) → Apart ps → (c i : ℕ) → letter_at ps i ≡ Some c → letter_place ps c ≡ Some i
