-- What the marks of a parameter mean for a reading. Assumes nothing.
use Rattle.std.specs.Prelude.{◌≡◌, ℕ, suc, Bool, true, false, cond, not, ◌&&◌, ◌||◌, List, [], ◌∷◌, is_some, Some, None, Option, nat_lt}
use Rattle.register.specs.Meaning.{ParameterMeaning}
use Rattle.register.specs.declared.parameter.ParameterKind.{ParameterKind}
use Rattle.register.specs.declared.parameter.ParameterKind.TheVariants.{Singular, Plus, Star}

-- an option has a long name or a letter
abbrev pub is_option : ParameterMeaning → Bool
is_option p = is_some p.long || is_some p.letter

abbrev pub any_option : List ParameterMeaning → Bool
any_option [] = false
any_option (p ∷ ps) = is_option p || any_option ps

abbrev pub is_star : ParameterKind → Bool
is_star Singular = false
is_star Plus = false
is_star Star = true

abbrev pub is_variadic : ParameterKind → Bool
is_variadic Singular = false
is_variadic Plus = true
is_variadic Star = true

-- flags and `value` options take the text `true`, and no other
abbrev pub takes_true : ParameterMeaning → Bool
takes_true p = p.flag || p.value

-- Plus, Star or `multiple` holds two switch values
abbrev pub holds_several : ParameterMeaning → Bool
holds_several p = is_variadic p.kind || p.multiple

abbrev pub above_zero : Option ℕ → Bool
above_zero None = false
above_zero (Some n) = nat_lt 0 n

-- required: no default, no flag, and not Star unless min is above 0
abbrev pub required : ParameterMeaning → Bool
required p = not (is_some p.default) && (not p.flag && (not (is_star p.kind) || above_zero p.min))

-- what may stay without a text: it has a default, or is a flag or a Star
abbrev pub may_be_empty : ParameterMeaning → Bool
may_be_empty p = is_some p.default || (p.flag || is_star p.kind)

-- how many parameters pass a test
abbrev pub counted : (ParameterMeaning → Bool) → List ParameterMeaning → ℕ
counted test [] = 0
counted test (p ∷ ps) = cond (test p) (suc (counted test ps)) (counted test ps)

abbrev pub required_count : List ParameterMeaning → ℕ
required_count ps = counted required ps

-- the required parameters that are no options
abbrev pub required_plain : List ParameterMeaning → ℕ
required_plain ps = counted (λ p. required p && not (is_option p)) ps

-- The n-th plain word (from 0) goes to the parameter at place k: the n-th that is no option, and the first Plus or Star among those takes all further words.
pub data Takes : List ParameterMeaning → ℕ → ℕ → Type 0 where
  pass : {p : ParameterMeaning} {ps : List ParameterMeaning} {n k : ℕ} → is_option p ≡ true → Takes ps n k → Takes (p ∷ ps) n (suc k)
  first : {p : ParameterMeaning} {ps : List ParameterMeaning} → is_option p ≡ false → Takes (p ∷ ps) 0 0
  further : {p : ParameterMeaning} {ps : List ParameterMeaning} {n : ℕ} → is_option p ≡ false → is_variadic p.kind ≡ true → Takes (p ∷ ps) (suc n) 0
  next : {p : ParameterMeaning} {ps : List ParameterMeaning} {n k : ℕ} → is_option p ≡ false → is_variadic p.kind ≡ false → Takes ps n k → Takes (p ∷ ps) (suc n) (suc k)

abbrev pub Homeless : List ParameterMeaning → ℕ → Type 0
Homeless ps n = (k : ℕ) → Takes ps n k → ⊥

-- a rule of each parameter, with its place, counted from k
abbrev pub Each : (ℕ → ParameterMeaning → Type 0) → ℕ → List ParameterMeaning → Type 0
Each rule k [] = Unit {0}
Each rule k (p ∷ ps) = rule k p × Each rule (suc k) ps
