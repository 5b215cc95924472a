-- The first fault of the words of one order behind its path: all before it keeps the rules, and here one breaks. Words are counted within the order. Assumes nothing.
use Rattle.std.specs.Prelude.{◌≡◌, ℕ, suc, true, false, ◌⊎◌, List, [], ◌∷◌, ◌++◌, length, Some, None, Option, ◌≢◌}
use Rattle.refusal.specs.declared.Refusal.{Refusal}
use Rattle.refusal.specs.declared.Refusal.TheVariants.{InvalidOption, UnknownOption, FlagWithValue, NonFinalOptionWithValue, OptionMissingValue, DuplicateOption, MissingOption, PositionalArgumentCountMismatch, ArgumentTooFewValues, ArgumentTooManyValues, ArgumentPatternMismatch}
use Rattle.text.specs.Identifier.{Text}
use Rattle.register.specs.Meaning.{ParameterMeaning}
use Rattle.judge.specs.Meaning.{JudgeMeaning}
use Rattle.reading.specs.Signature.{Each, is_option, takes_true, required_plain}
use Rattle.reading.specs.Switches.{Switch, Called, called, name, attached, switches}
use Rattle.reading.specs.Reading.{Given, Value, true_text, group, is_full, reached, wants, values, plains, words_of, IsSwitch, Roles, Ends, is_missing, Served, is_checked, at_least, at_most, accepted, Sound}
use Rattle.reading.specs.Reading.Waiting.{For}

-- The first fault of a run of switches in word `at`, counted from letter j.
pub data Slip (ps : List ParameterMeaning) (at : ℕ) (behind : Option Text) : List Value → ℕ → List Switch → Refusal → Type 0 where
  unknown : {vs : List Value} {j : ℕ} {s : Switch} {ss : List Switch} → called ps s ≡ None → Slip ps at behind vs j (s ∷ ss) (UnknownOption at j)
  flag_with_value : {vs : List Value} {j : ℕ} {s : Switch} {c : Called} {v : Text} → called ps s ≡ Some c → takes_true c.parameter ≡ true → behind ≡ Some v → Slip ps at behind vs j (s ∷ []) (FlagWithValue at j)
  non_final : {vs : List Value} {j : ℕ} {s r : Switch} {ss : List Switch} {c : Called} → called ps s ≡ Some c → takes_true c.parameter ≡ false → Slip ps at behind vs j (s ∷ r ∷ ss) (NonFinalOptionWithValue at j)
  twice_true : {vs : List Value} {j : ℕ} {s : Switch} {c : Called} → called ps s ≡ Some c → takes_true c.parameter ≡ true → behind ≡ None → is_full c vs ≡ true → Slip ps at behind vs j (s ∷ []) (DuplicateOption at j)
  twice_attached : {vs : List Value} {j : ℕ} {s : Switch} {c : Called} {v : Text} → called ps s ≡ Some c → takes_true c.parameter ≡ false → behind ≡ Some v → is_full c vs ≡ true → Slip ps at behind vs j (s ∷ []) (DuplicateOption at j)
  twice : {vs : List Value} {j : ℕ} {s r : Switch} {ss : List Switch} {c : Called} → called ps s ≡ Some c → takes_true c.parameter ≡ true → is_full c vs ≡ true → Slip ps at behind vs j (s ∷ r ∷ ss) (DuplicateOption at j)
  later : {vs : List Value} {j : ℕ} {s r : Switch} {ss : List Switch} {c : Called} {f : Refusal} → called ps s ≡ Some c → takes_true c.parameter ≡ true → is_full c vs ≡ false → Slip ps at behind (vs ++ record { parameter = c.place; text = true_text; word = at } ∷ []) (suc j) (r ∷ ss) f → Slip ps at behind vs j (s ∷ r ∷ ss) f

-- The words from here on begin with a fault.
pub data Faulty (ps : List ParameterMeaning) (n : ℕ) (before : List Given) : List Text → Refusal → Type 0 where
  missing_value : {c : Called} {at j : ℕ} → wants ps n before ≡ For c at j → Faulty ps n before [] (OptionMissingValue at j)
  twice : {c : Called} {at j : ℕ} {w : Text} {ws : List Text} → wants ps n before ≡ For c at j → is_full c (values ps n before) ≡ true → Faulty ps n before (w ∷ ws) (DuplicateOption at j)
  invalid : {w : Text} {ws : List Text} → IsSwitch ps n before w → name w ≡ [] → Faulty ps n before (w ∷ ws) (InvalidOption (reached n before))
  slip : {w : Text} {ws : List Text} {f : Refusal} → IsSwitch ps n before w → (name w ≢ []) → Slip ps (reached n before) (attached w) (values ps n before) 0 (switches w) f → Faulty ps n before (w ∷ ws) f

-- the first parameter, from place k on, that breaks a rule, and its fault
pub data First (good : ℕ → ParameterMeaning → Type 0) (bad : ℕ → ParameterMeaning → Refusal → Type 0) : ℕ → List ParameterMeaning → Refusal → Type 0 where
  here : {k : ℕ} {p : ParameterMeaning} {ps : List ParameterMeaning} {f : Refusal} → bad k p f → First good bad k (p ∷ ps) f
  later : {k : ℕ} {p : ParameterMeaning} {ps : List ParameterMeaning} {f : Refusal} → good k p → First good bad (suc k) ps f → First good bad k (p ∷ ps) f

abbrev pub OptionServed : List Value → ℕ → ParameterMeaning → Type 0
OptionServed vs k p = is_option p ≡ true → Served vs k p

pub data OptionMissing (vs : List Value) (k : ℕ) (p : ParameterMeaning) : Refusal → Type 0 where
  missing : is_option p ≡ true → is_missing vs k p ≡ true → OptionMissing vs k p (MissingOption 0 k)

-- the first value that is not accepted, and the word in which it stands
pub data Rejected (judge : JudgeMeaning) (pattern : Option ℕ) : List Value → ℕ → Type 0 where
  here : {v : Value} {vs : List Value} → accepted judge pattern v ≡ false → Rejected judge pattern (v ∷ vs) v.word
  later : {v : Value} {vs : List Value} {at : ℕ} → accepted judge pattern v ≡ true → Rejected judge pattern vs at → Rejected judge pattern (v ∷ vs) at

pub data Unsound (judge : JudgeMeaning) (vs : List Value) (k : ℕ) (p : ParameterMeaning) : Refusal → Type 0 where
  too_few : is_checked vs k p ≡ true → at_least p.min (length (group k vs)) ≡ false → Unsound judge vs k p (ArgumentTooFewValues 0 k (length (group k vs)))
  too_many : is_checked vs k p ≡ true → at_least p.min (length (group k vs)) ≡ true → at_most p.max (length (group k vs)) ≡ false → Unsound judge vs k p (ArgumentTooManyValues 0 k (length (group k vs)))
  mismatch : {at : ℕ} → is_checked vs k p ≡ true → at_least p.min (length (group k vs)) ≡ true → at_most p.max (length (group k vs)) ≡ true → Rejected judge p.pattern (group k vs) at → Unsound judge vs k p (ArgumentPatternMismatch at k)

-- Counts fail: first an option is missing, by parameter; then plain words; then the values, by parameter.
pub data Miscounted (ps : List ParameterMeaning) (judge : JudgeMeaning) (n : ℕ) (given : List Given) : Refusal → Type 0 where
  option : {f : Refusal} → First (OptionServed (values ps n given)) (OptionMissing (values ps n given)) 0 ps f → Miscounted ps judge n given f
  plain : Each (OptionServed (values ps n given)) 0 ps → (Each (Served (values ps n given)) 0 ps → ⊥) → Miscounted ps judge n given (PositionalArgumentCountMismatch 0 (plains given) (required_plain ps))
  unsound : {f : Refusal} → Each (Served (values ps n given)) 0 ps → First (Sound judge (values ps n given)) (Unsound judge (values ps n given)) 0 ps f → Miscounted ps judge n given f

pub record FaultyOrder (ps : List ParameterMeaning) (judge : JudgeMeaning) (n : ℕ) (words : List Text) (f : Refusal) : Type 0 where
  pub before : List Given
  pub rest : List Text
  pub cut : words_of before ++ rest ≡ words
  pub roles : Roles ps n before
  pub fault : Faulty ps n before rest f ⊎ (Ends ps n before rest × Miscounted ps judge n before f)
