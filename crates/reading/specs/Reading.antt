-- A lawful reading of the words of one order. Words are counted within the order, from 0; its path has the first n of them. Assumes nothing.
use Rattle.std.specs.Prelude.{◌≡◌, ℕ, suc, Bool, true, false, cond, not, ◌&&◌, ◌||◌, List, [], ◌∷◌, ◌++◌, length, Some, None, Option, ◌==◌, ◌≢◌, nat_le}
use Rattle.text.specs.Identifier.{Text}
use Rattle.register.specs.Meaning.{ParameterMeaning}
use Rattle.judge.specs.Meaning.{JudgeMeaning}
use Rattle.reading.specs.Signature.{Takes, Homeless, Each, any_option, takes_true, holds_several, may_be_empty}
use Rattle.reading.specs.Switches.{Switch, Called, called, end_mark, is_dashed, name, attached, switches}
use Rattle.reading.specs.declared.role.Role.{Role}
use Rattle.reading.specs.declared.role.Role.TheVariants.{PathWord, SwitchWord, SwitchValue, EndMark, PlainWord}

-- a word with the role that it is given
pub record Given : Type 0 where
  pub word : Text
  pub role : Role

-- a text for the parameter at a place, and the word in which it stands
pub record Value : Type 0 where
  pub parameter : ℕ
  pub text : Text
  pub word : ℕ

-- `true`, which flags and `value` options take
abbrev pub true_text : Text
true_text = 116 ∷ 114 ∷ 117 ∷ 101 ∷ []

-- a parameter's group: its values, in sequence
abbrev pub group : ℕ → List Value → List Value
group k [] = []
group k (v ∷ vs) = cond (k == v.parameter) (v ∷ group k vs) (group k vs)

abbrev pub filled : List Value → Bool
filled [] = false
filled (v ∷ vs) = true

-- an option that holds one switch value has it already
abbrev pub is_full : Called → List Value → Bool
is_full c vs = not (holds_several c.parameter) && filled (group c.place vs)

-- In what follows the given words of an order behind its path stand last first.

abbrev pub words_of : List Given → List Text
words_of [] = []
words_of (g ∷ gs) = words_of gs ++ g.word ∷ []

abbrev pub roles_of : List Given → List Role
roles_of [] = []
roles_of (g ∷ gs) = roles_of gs ++ g.role ∷ []

-- how many words the order has with them, and so the number of the next word
abbrev pub reached : ℕ → List Given → ℕ
reached n [] = n
reached n (g ∷ gs) = suc (reached n gs)

abbrev pub is_end_mark : Role → Bool
is_end_mark PathWord = false
is_end_mark SwitchWord = false
is_end_mark SwitchValue = false
is_end_mark EndMark = true
is_end_mark (PlainWord k) = false

abbrev pub ended : List Given → Bool
ended [] = false
ended (g ∷ gs) = is_end_mark g.role || ended gs

-- switches are read: the recipe has options and the order no end mark yet
abbrev pub reads_switches : List ParameterMeaning → List Given → Bool
reads_switches ps gs = any_option ps && not (ended gs)

abbrev pub one_more_plain : Role → ℕ → ℕ
one_more_plain PathWord n = n
one_more_plain SwitchWord n = n
one_more_plain SwitchValue n = n
one_more_plain EndMark n = n
one_more_plain (PlainWord k) n = suc n

-- how many plain words were accepted
abbrev pub plains : List Given → ℕ
plains [] = 0
plains (g ∷ gs) = one_more_plain g.role (plains gs)

-- who the next word is for: the option that the switch in this word, at this letter, calls
pub data Waiting : Type 0 where
  Nobody : Waiting
  For : Called → ℕ → ℕ → Waiting

abbrev pub waits_for : ℕ → ℕ → Option Called → Waiting
waits_for at j None = Nobody
waits_for at j (Some c) = cond (takes_true c.parameter) Nobody (For c at j)

-- the last switch of a run wants the next word unless it takes `true`
abbrev pub last_wants : List ParameterMeaning → ℕ → ℕ → List Switch → Waiting
last_wants ps at j [] = Nobody
last_wants ps at j (s ∷ []) = waits_for at j (called ps s)
last_wants ps at j (s ∷ r ∷ ss) = last_wants ps at (suc j) (r ∷ ss)

-- nobody waits behind a word with `=`
abbrev pub unless_attached : Option Text → Waiting → Waiting
unless_attached None who = who
unless_attached (Some v) who = Nobody

abbrev pub wanted_by : List ParameterMeaning → ℕ → Text → Role → Waiting
wanted_by ps at w PathWord = Nobody
wanted_by ps at w SwitchWord = unless_attached (attached w) (last_wants ps at 0 (switches w))
wanted_by ps at w SwitchValue = Nobody
wanted_by ps at w EndMark = Nobody
wanted_by ps at w (PlainWord k) = Nobody

abbrev pub wants : List ParameterMeaning → ℕ → List Given → Waiting
wants ps n [] = Nobody
wants ps n (g ∷ gs) = wanted_by ps (reached n gs) g.word g.role

-- The values that the roles give.

abbrev pub attached_to : ℕ → Called → Option Text → List Value
attached_to at c None = []
attached_to at c (Some v) = record { parameter = c.place; text = v; word = at } ∷ []

-- a switch that takes `true` gives it, another gives what stands behind `=`
abbrev pub switch_gives : ℕ → Option Text → Option Called → List Value
switch_gives at behind None = []
switch_gives at behind (Some c) = cond (takes_true c.parameter) (record { parameter = c.place; text = true_text; word = at } ∷ []) (attached_to at c behind)

abbrev pub run_gives : List ParameterMeaning → ℕ → Option Text → List Switch → List Value
run_gives ps at behind [] = []
run_gives ps at behind (s ∷ ss) = switch_gives at behind (called ps s) ++ run_gives ps at behind ss

abbrev pub value_for : ℕ → Text → Waiting → List Value
value_for at w Nobody = []
value_for at w (For c from j) = record { parameter = c.place; text = w; word = at } ∷ []

abbrev pub role_gives : List ParameterMeaning → ℕ → Waiting → Text → Role → List Value
role_gives ps at who w PathWord = []
role_gives ps at who w SwitchWord = run_gives ps at (attached w) (switches w)
role_gives ps at who w SwitchValue = value_for at w who
role_gives ps at who w EndMark = []
role_gives ps at who w (PlainWord k) = record { parameter = k; text = w; word = at } ∷ []

abbrev pub values : List ParameterMeaning → ℕ → List Given → List Value
values ps n [] = []
values ps n (g ∷ gs) = values ps n gs ++ role_gives ps (reached n gs) (wants ps n gs) g.word g.role

-- Switches.

-- A lawful run of switches of one word behind the values vs: each is known, each but the last takes `true`, a last one that takes `true` has no `=`, and none is given twice.
pub data Run (ps : List ParameterMeaning) (at : ℕ) (behind : Option Text) : List Value → List Switch → Type 0 where
  last_true : {vs : List Value} {s : Switch} {c : Called} → called ps s ≡ Some c → takes_true c.parameter ≡ true → behind ≡ None → is_full c vs ≡ false → Run ps at behind vs (s ∷ [])
  last_attached : {vs : List Value} {s : Switch} {c : Called} {v : Text} → called ps s ≡ Some c → takes_true c.parameter ≡ false → behind ≡ Some v → is_full c vs ≡ false → Run ps at behind vs (s ∷ [])
  last_waiting : {vs : List Value} {s : Switch} {c : Called} → called ps s ≡ Some c → takes_true c.parameter ≡ false → behind ≡ None → Run ps at behind vs (s ∷ [])
  then : {vs : List Value} {s r : Switch} {ss : List Switch} {c : Called} → called ps s ≡ Some c → takes_true c.parameter ≡ true → is_full c vs ≡ false → Run ps at behind (vs ++ record { parameter = c.place; text = true_text; word = at } ∷ []) (r ∷ ss) → Run ps at behind vs (s ∷ r ∷ ss)

-- Roles.

-- no switch word and no end mark here
abbrev pub NoSwitch : List ParameterMeaning → List Given → Text → Type 0
NoSwitch ps before w = reads_switches ps before ≡ true → is_dashed w ≢ true

-- a word that is to be read as switches
pub record IsSwitch (ps : List ParameterMeaning) (n : ℕ) (before : List Given) (w : Text) : Type 0 where
  pub unclaimed : wants ps n before ≡ Nobody
  pub open! : reads_switches ps before ≡ true
  pub no_end : w ≡ end_mark → ⊥
  pub dashed : is_dashed w ≡ true

-- A word has its role by the words before it.
pub data Fits (ps : List ParameterMeaning) (n : ℕ) (before : List Given) (w : Text) : Role → Type 0 where
  value : {c : Called} {at j : ℕ} → wants ps n before ≡ For c at j → is_full c (values ps n before) ≡ false → Fits ps n before w SwitchValue
  end : wants ps n before ≡ Nobody → reads_switches ps before ≡ true → w ≡ end_mark → Fits ps n before w EndMark
  switch : IsSwitch ps n before w → (name w ≢ []) → Run ps (reached n before) (attached w) (values ps n before) (switches w) → Fits ps n before w SwitchWord
  plain : {k : ℕ} → wants ps n before ≡ Nobody → NoSwitch ps before w → Takes ps (plains before) k → Fits ps n before w (PlainWord k)

pub data Roles (ps : List ParameterMeaning) (n : ℕ) : List Given → Type 0 where
  none : Roles ps n []
  more : {before : List Given} {w : Text} {r : Role} → Roles ps n before → Fits ps n before w r → Roles ps n (record { word = w; role = r } ∷ before)

-- The order ends with the line, or before the first plain word without a parameter.
pub data Ends (ps : List ParameterMeaning) (n : ℕ) (before : List Given) : List Text → Type 0 where
  line : wants ps n before ≡ Nobody → Ends ps n before []
  homeless : {w : Text} {ws : List Text} → wants ps n before ≡ Nobody → NoSwitch ps before w → Homeless ps (plains before) → Ends ps n before (w ∷ ws)

-- Counts.

-- a parameter is missing if its group is empty and may not be
abbrev pub is_missing : List Value → ℕ → ParameterMeaning → Bool
is_missing vs k p = not (filled (group k vs)) && not (may_be_empty p)

abbrev pub Served : List Value → ℕ → ParameterMeaning → Type 0
Served vs k p = is_missing vs k p ≡ false

abbrev pub at_least : Option ℕ → ℕ → Bool
at_least None n = true
at_least (Some m) n = nat_le m n

abbrev pub at_most : Option ℕ → ℕ → Bool
at_most None n = true
at_most (Some m) n = nat_le n m

abbrev pub accepted : JudgeMeaning → Option ℕ → Value → Bool
accepted judge None v = true
accepted judge (Some pattern) v = judge pattern v.text

abbrev pub all_accepted : JudgeMeaning → Option ℕ → List Value → Bool
all_accepted judge pattern [] = true
all_accepted judge pattern (v ∷ vs) = accepted judge pattern v && all_accepted judge pattern vs

-- a group of a parameter without `value`, where it is not empty, respects min, max and pattern
abbrev pub is_checked : List Value → ℕ → ParameterMeaning → Bool
is_checked vs k p = not p.value && filled (group k vs)

pub record Proper (judge : JudgeMeaning) (p : ParameterMeaning) (vs : List Value) : Type 0 where
  pub least : at_least p.min (length vs) ≡ true
  pub most : at_most p.max (length vs) ≡ true
  pub pattern : all_accepted judge p.pattern vs ≡ true

abbrev pub Sound : JudgeMeaning → List Value → ℕ → ParameterMeaning → Type 0
Sound judge vs k p = is_checked vs k p ≡ true → Proper judge p (group k vs)

-- The words behind the path of n words, with their roles, and the words that are left for the next orders.
pub record LawfulOrder (ps : List ParameterMeaning) (judge : JudgeMeaning) (n : ℕ) (words : List Text) (given : List Given) (rest : List Text) : Type 0 where
  pub cut : words_of given ++ rest ≡ words
  pub roles : Roles ps n given
  pub ends : Ends ps n given rest
  pub served : Each (Served (values ps n given)) 0 ps
  pub sound : Each (Sound judge (values ps n given)) 0 ps
