-- A switch word taken apart: its switches, and the value behind `=`. Assumes nothing.
use Rattle.std.specs.Prelude.{ℕ, Bool, true, false, cond, ◌&&◌, List, [], ◌∷◌, map, Some, None, Option, ◌==◌}
use Rattle.std.specs.Option.{option_map}
use Rattle.text.specs.Identifier.{Text}
use Rattle.register.specs.Meaning.{ParameterMeaning}
use Rattle.register.specs.Parameters.{parameter_at, long_place, letter_place}
use Rattle.reading.specs.Letters.{letters}

-- the end mark, `--`
abbrev pub end_mark : Text
end_mark = 45 ∷ 45 ∷ []

-- a dash and more
abbrev pub is_dashed : Text → Bool
is_dashed [] = false
is_dashed (b ∷ []) = false
is_dashed (b ∷ c ∷ t) = b == 45

abbrev pub two_dashes : Text → Bool
two_dashes [] = false
two_dashes (b ∷ []) = false
two_dashes (b ∷ c ∷ t) = b == 45 && c == 45

abbrev pub tail : Text → Text
tail [] = []
tail (b ∷ t) = t

-- a switch word without its dashes: two, or one where it does not start with two
abbrev pub undashed : Text → Text
undashed w = cond (two_dashes w) (tail (tail w)) (tail w)

-- up to the first `=`
abbrev pub up_to_equals : Text → Text
up_to_equals [] = []
up_to_equals (b ∷ t) = cond (b == 61) [] (b ∷ up_to_equals t)

-- behind the first `=`
abbrev pub behind_equals : Text → Option Text
behind_equals [] = None
behind_equals (b ∷ t) = cond (b == 61) (Some t) (behind_equals t)

abbrev pub name : Text → Text
name w = up_to_equals (undashed w)

abbrev pub attached : Text → Option Text
attached w = behind_equals (undashed w)

pub data Switch : Type 0 where
  Long : Text → Switch
  Letter : ℕ → Switch

-- one long name, or a run of letters
abbrev pub spelled : Bool → Text → List Switch
spelled true t = Long t ∷ []
spelled false t = map Letter (letters t)

abbrev pub switches : Text → List Switch
switches w = spelled (two_dashes w) (name w)

-- the place of the parameter that a switch names
abbrev pub place_by : List ParameterMeaning → Switch → Option ℕ
place_by ps (Long t) = long_place ps t
place_by ps (Letter c) = letter_place ps c

-- a parameter with its place
pub record Called : Type 0 where
  pub place : ℕ
  pub parameter : ParameterMeaning

abbrev pub called_at : List ParameterMeaning → Option ℕ → Option Called
called_at ps None = None
called_at ps (Some k) = option_map (λ p. record { place = k; parameter = p }) (parameter_at ps k)

-- the parameter that a switch calls, if it is known
abbrev pub called : List ParameterMeaning → Switch → Option Called
called ps s = called_at ps (place_by ps s)
