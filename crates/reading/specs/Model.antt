-- The reading as a function on lists, word by word: a tool of the proofs, and no part of the rules. Assumes nothing.
use Rattle.std.specs.Prelude.{ℕ, zero, suc, ◌+◌, Bool, true, false, cond, not, ◌&&◌, ◌||◌, List, [], ◌∷◌, ◌++◌, map, length, drop, Some, None, Ok, Err, Option, Result, nat_lt}
use Rattle.std.specs.Option.{option_map}
use Rattle.std.specs.Str.{bytes_eq}
use Rattle.refusal.specs.declared.Refusal.{Refusal}
use Rattle.refusal.specs.Shift.{shifted_by}
use Rattle.refusal.specs.declared.Refusal.TheVariants.{DefaultRecipeRequiresArguments, InvalidOption, UnknownOption, FlagWithValue, NonFinalOptionWithValue, OptionMissingValue, DuplicateOption, MissingOption, PositionalArgumentCountMismatch, ArgumentTooFewValues, ArgumentTooManyValues, ArgumentPatternMismatch}
use Rattle.text.specs.Identifier.{Text}
use Rattle.register.specs.Meaning.{ParameterMeaning, SignatureMeaning}
use Rattle.judge.specs.Meaning.{JudgeMeaning}
use Rattle.reading.specs.Signature.{is_option, is_variadic, any_option, takes_true, required_count, required_plain}
use Rattle.reading.specs.Switches.{Switch, Called, called, end_mark, is_dashed, name, attached, switches}
use Rattle.reading.specs.Reading.{Given, Value, Waiting, true_text, group, is_full, reached, wants, values, plains, ended, roles_of, is_missing, is_checked, at_least, at_most, accepted}
use Rattle.reading.specs.Reading.Waiting.{Nobody, For}
use Rattle.path.specs.declared.path.Path.{Path}
use Rattle.reading.specs.Line.{Order, Reading, shifted_value, groups_from, repeated}
use Rattle.reading.specs.declared.role.Role.{Role}
use Rattle.reading.specs.declared.role.Role.TheVariants.{PathWord, SwitchWord, SwitchValue, EndMark, PlainWord}

-- the place of the parameter that the n-th plain word goes to
abbrev pub taker : List ParameterMeaning → ℕ → Option ℕ
taker [] n = None
taker (p ∷ ps) n = cond (is_option p) (option_map suc (taker ps n)) (elim n [ zero ↦ Some 0 | suc m ↦ cond (is_variadic p.kind) (Some 0) (option_map suc (taker ps m)) ])

-- The switches of one word, in word `at`: the values so far and whom the next word is for, or a fault.

pub data Did : Type 0 where
  Gave : List Value → Waiting → Did
  Wrong : Refusal → Did

abbrev pub give : ℕ → ℕ → Called → Text → List Value → Did
give at j c t vs = cond (is_full c vs) (Wrong (DuplicateOption at j)) (Gave (vs ++ record { parameter = c.place; text = t; word = at } ∷ []) Nobody)

abbrev pub last_step : ℕ → ℕ → Option Called → Option Text → List Value → Did
last_step at j None behind vs = Wrong (UnknownOption at j)
last_step at j (Some c) None vs = cond (takes_true c.parameter) (give at j c true_text vs) (Gave vs (For c at j))
last_step at j (Some c) (Some v) vs = cond (takes_true c.parameter) (Wrong (FlagWithValue at j)) (give at j c v vs)

abbrev pub then_step : ℕ → ℕ → Option Called → List Value → (List Value → Did) → Did
then_step at j None vs go = Wrong (UnknownOption at j)
then_step at j (Some c) vs go =
    cond (takes_true c.parameter)
    (cond (is_full c vs) (Wrong (DuplicateOption at j)) (go (vs ++ record { parameter = c.place; text = true_text; word = at } ∷ [])))
    (Wrong (NonFinalOptionWithValue at j))

abbrev pub run : List ParameterMeaning → ℕ → Option Text → List Value → ℕ → List Switch → Did
run ps at behind vs j [] = Gave vs Nobody
run ps at behind vs j (s ∷ []) = last_step at j (called ps s) behind vs
run ps at behind vs j (s ∷ r ∷ ss) = then_step at j (called ps s) vs (λ hs. run ps at behind hs (suc j) (r ∷ ss))

-- The words of an order so far.

pub record State : Type 0 where
  pub words : ℕ
  pub ended : Bool
  pub plains : ℕ
  pub values : List Value
  pub waiting : Waiting
  pub roles : List Role

abbrev pub state_of : List ParameterMeaning → ℕ → List Given → State
state_of ps n gs = record { words = reached n gs; ended = ended gs; plains = plains gs; values = values ps n gs; waiting = wants ps n gs; roles = roles_of gs }

-- behind a path of n words
abbrev pub started : ℕ → State
started n = record { words = n; ended = false; plains = 0; values = []; waiting = Nobody; roles = [] }

-- what a word does: it has a role, or the order ends before it, or it is at fault
pub data Next : Type 0 where
  Go : Role → State → Next
  Stop : Next
  Fail : Refusal → Next

abbrev pub is_nil : Text → Bool
is_nil [] = true
is_nil (b ∷ t) = false

abbrev pub plain_step : State → Text → Option ℕ → Next
plain_step st w None = Stop
plain_step st w (Some k) = Go (PlainWord k) (record { words = suc st.words; ended = st.ended; plains = suc st.plains; values = st.values ++ record { parameter = k; text = w; word = st.words } ∷ []; waiting = Nobody; roles = st.roles ++ PlainWord k ∷ [] })

abbrev pub end_step : State → Next
end_step st = Go EndMark (record { words = suc st.words; ended = true; plains = st.plains; values = st.values; waiting = Nobody; roles = st.roles ++ EndMark ∷ [] })

abbrev pub switched : State → Did → Next
switched st (Gave vs who) = Go SwitchWord (record { words = suc st.words; ended = st.ended; plains = st.plains; values = vs; waiting = who; roles = st.roles ++ SwitchWord ∷ [] })
switched st (Wrong f) = Fail f

abbrev pub switch_step : List ParameterMeaning → State → Text → Next
switch_step ps st w = cond (is_nil (name w)) (Fail (InvalidOption st.words)) (switched st (run ps st.words (attached w) st.values 0 (switches w)))

abbrev pub free_step : List ParameterMeaning → State → Text → Next
free_step ps st w =
    cond (any_option ps && not st.ended)
    (cond (bytes_eq w end_mark) (end_step st) (cond (is_dashed w) (switch_step ps st w) (plain_step st w (taker ps st.plains))))
    (plain_step st w (taker ps st.plains))

abbrev pub value_step : State → Text → Called → ℕ → ℕ → Next
value_step st w c at j =
    cond (is_full c st.values) (Fail (DuplicateOption at j))
    (Go SwitchValue (record { words = suc st.words; ended = st.ended; plains = st.plains; values = st.values ++ record { parameter = c.place; text = w; word = st.words } ∷ []; waiting = Nobody; roles = st.roles ++ SwitchValue ∷ [] }))

abbrev pub step_by : List ParameterMeaning → State → Text → Waiting → Next
step_by ps st w Nobody = free_step ps st w
step_by ps st w (For c at j) = value_step st w c at j

abbrev pub step : List ParameterMeaning → State → Text → Next
step ps st w = step_by ps st w st.waiting

-- All words from here on: where the order ends, and the words that are left.

pub data Scanned : Type 0 where
  Stopped : State → List Text → Scanned
  Broken : Refusal → Scanned

abbrev pub at_line_end : State → Waiting → Scanned
at_line_end st Nobody = Stopped st []
at_line_end st (For c at j) = Broken (OptionMissingValue at j)

abbrev pub on_step : Next → State → List Text → (State → Scanned) → Scanned
on_step (Go r t) st ws go = go t
on_step Stop st ws go = Stopped st ws
on_step (Fail f) st ws go = Broken f

abbrev pub scan : List ParameterMeaning → State → List Text → Scanned
scan ps st [] = at_line_end st st.waiting
scan ps st (w ∷ ws) = on_step (step ps st w) st (w ∷ ws) (λ t. scan ps t ws)

-- Counts: the first fault that is found.

abbrev pub else! : Option Refusal → Option Refusal → Option Refusal
else! None g = g
else! (Some f) g = Some f

abbrev pub first_of : (ℕ → ParameterMeaning → Option Refusal) → ℕ → List ParameterMeaning → Option Refusal
first_of check k [] = None
first_of check k (p ∷ ps) = else! (check k p) (first_of check (suc k) ps)

abbrev pub check_option : List Value → ℕ → ParameterMeaning → Option Refusal
check_option vs k p = cond (is_option p) (cond (is_missing vs k p) (Some (MissingOption 0 k)) None) None

abbrev pub any_missing : List Value → ℕ → List ParameterMeaning → Bool
any_missing vs k [] = false
any_missing vs k (p ∷ ps) = is_missing vs k p || any_missing vs (suc k) ps

abbrev pub check_plain : List Value → ℕ → List ParameterMeaning → Option Refusal
check_plain vs found ps = cond (any_missing vs 0 ps) (Some (PositionalArgumentCountMismatch 0 found (required_plain ps))) None

abbrev pub check_pattern : JudgeMeaning → ℕ → Option ℕ → List Value → Option Refusal
check_pattern judge k pattern [] = None
check_pattern judge k pattern (v ∷ vs) = cond (accepted judge pattern v) (check_pattern judge k pattern vs) (Some (ArgumentPatternMismatch v.word k))

abbrev pub check_group : JudgeMeaning → ℕ → ParameterMeaning → List Value → Option Refusal
check_group judge k p vs =
    cond (at_least p.min (length vs))
    (cond (at_most p.max (length vs)) (check_pattern judge k p.pattern vs) (Some (ArgumentTooManyValues 0 k (length vs))))
    (Some (ArgumentTooFewValues 0 k (length vs)))

abbrev pub check_sound : JudgeMeaning → List Value → ℕ → ParameterMeaning → Option Refusal
check_sound judge vs k p = cond (is_checked vs k p) (check_group judge k p (group k vs)) None

abbrev pub tally : List ParameterMeaning → JudgeMeaning → List Value → ℕ → Option Refusal
tally ps judge vs found =
    else! (first_of (check_option vs) 0 ps)
    (else! (check_plain vs found ps)
    (first_of (check_sound judge vs) 0 ps))

-- One order behind its path of n words.

pub data Ordered : Type 0 where
  Took : State → List Text → Ordered
  Refuses : Refusal → Ordered

abbrev pub tallied : State → List Text → Option Refusal → Ordered
tallied st rest None = Took st rest
tallied st rest (Some f) = Refuses f

abbrev pub scanned : List ParameterMeaning → JudgeMeaning → Scanned → Ordered
scanned ps judge (Broken f) = Refuses f
scanned ps judge (Stopped st rest) = tallied st rest (tally ps judge st.values st.plains)

abbrev pub read_order : List ParameterMeaning → JudgeMeaning → ℕ → List Text → Ordered
read_order ps judge n ws = scanned ps judge (scan ps (started n) ws)

-- The line, order by order; `first` is the order's first word. Fuel above the number of words suffices.

abbrev pub told_order : List ParameterMeaning → ℕ → ℕ → State → Order
told_order ps first recipe st = record { recipe = recipe; first = first; words = st.words; groups = groups_from 0 ps (map (shifted_value first) st.values) }

abbrev pub told_roles : ℕ → State → List Role
told_roles n st = repeated n PathWord ++ st.roles

abbrev pub nothing : Reading
nothing = record { orders = []; roles = [] }

abbrev pub onto : Order → List Role → Result Reading Refusal → Result Reading Refusal
onto o rs (Ok r) = Ok (record { orders = o ∷ r.orders; roles = rs ++ r.roles })
onto o rs (Err f) = Err f

abbrev pub order_then : (ℕ → List Text → Result Reading Refusal) → List ParameterMeaning → ℕ → ℕ → ℕ → Ordered → Result Reading Refusal
order_then go ps first recipe n (Refuses f) = Err (shifted_by first f)
order_then go ps first recipe n (Took st []) = onto (told_order ps first recipe st) (told_roles n st) (Ok nothing)
order_then go ps first recipe n (Took st (w ∷ ws)) = onto (told_order ps first recipe st) (told_roles n st) (go (first + st.words) (w ∷ ws))

abbrev pub walked : SignatureMeaning → JudgeMeaning → (ℕ → List Text → Result Reading Refusal) → ℕ → List Text → Result Path Refusal → Result Reading Refusal
walked s judge go first ws (Err f) = Err (shifted_by first f)
walked s judge go first ws (Ok path) =
    cond (path.default && nat_lt 0 (required_count (s.parameters path.recipe)))
    (Err (shifted_by first (DefaultRecipeRequiresArguments 0 (required_count (s.parameters path.recipe)))))
    (order_then go (s.parameters path.recipe) first path.recipe path.words (read_order (s.parameters path.recipe) judge path.words (drop path.words ws)))

-- `walk` answers the path of the words from an order's first word on
abbrev pub lines : (List Text → Result Path Refusal) → SignatureMeaning → JudgeMeaning → ℕ → ℕ → List Text → Result Reading Refusal
lines walk s judge zero first ws = Ok nothing
lines walk s judge (suc fuel) first ws = walked s judge (lines walk s judge fuel) first ws (walk ws)

abbrev pub line_from : (List Text → Result Path Refusal) → SignatureMeaning → JudgeMeaning → ℕ → List Text → Result Reading Refusal
line_from walk s judge first ws = lines walk s judge (suc (length ws)) first ws

abbrev pub read_line : (List Text → Result Path Refusal) → SignatureMeaning → JudgeMeaning → List Text → Result Reading Refusal
read_line walk s judge ws = line_from walk s judge 0 ws

-- Orders that were read before, and then the answer of the words that are left.

abbrev pub behind : Reading → Result Reading Refusal → Result Reading Refusal
behind done (Ok r) = Ok (record { orders = done.orders ++ r.orders; roles = done.roles ++ r.roles })
behind done (Err f) = Err f

abbrev pub pushed : Reading → Order → List Role → Reading
pushed done o rs = record { orders = done.orders ++ o ∷ []; roles = done.roles ++ rs }
