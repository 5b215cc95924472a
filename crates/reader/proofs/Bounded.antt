-- The words of faults and values, and how many values words give, in the model of the reading. Assumes nothing.
use Rattle.std.proofs.Common.{◌≡◌, ℕ, suc, ◌+◌, ◌≤◌, Bool, true, false, cond, not, ◌&&◌, eqb, List, [], ◌∷◌, ◌++◌, length, Some, None, Option, refl, ap, arith, length-append}
use Rattle.std.specs.Str.{bytes_eq}
use Rattle.refusal.specs.declared.Refusal.{Refusal}
use Rattle.refusal.specs.Told.{told_of}
use Rattle.text.specs.Identifier.{Text}
use Rattle.text.specs.Line.{closed}
use Rattle.register.specs.Meaning.{NameMeaning, ParameterMeaning}
use Rattle.judge.specs.Meaning.{JudgeMeaning}
use Rattle.path.specs.Path.{Modulepath, word_behind, Gives, Stops, Lacks, Strays, PathFault}
use Rattle.reading.specs.Signature.{takes_true, is_option, any_option}
use Rattle.reading.specs.Switches.{Switch, Called, called, end_mark, is_dashed, name, attached, switches}
use Rattle.reading.specs.Reading.{Value, Waiting, true_text, group, is_full, is_missing, is_checked, at_least, at_most, accepted}
use Rattle.reading.specs.Reading.Waiting.{Nobody, For}
use Rattle.reading.specs.Model.{Did, State, Next, Scanned, Ordered, give, last_step, then_step, run, is_nil, plain_step, end_step, switched, switch_step, free_step, value_step, step_by, step, at_line_end, on_step, scan, started, taker, else!, first_of, check_option, any_missing, check_pattern, check_sound, tally, tallied, scanned, read_order}
use Rattle.reading.specs.Model.Did.{Gave, Wrong}
use Rattle.reading.specs.Model.Next.{Go, Stop, Fail}
use Rattle.reading.specs.Model.Scanned.{Stopped, Broken}
use Rattle.reading.specs.Model.Ordered.{Took, Refuses}
use Rattle.reading.specs.declared.role.Role.TheVariants.{SwitchWord, SwitchValue, EndMark, PlainWord}
use Rattle.reading.proofs.Bounds.{switches_few}

abbrev pub WordIn : ℕ → Refusal → Type 0
WordIn n f = (told_of f).word ≤ n

abbrev pub AllIn : ℕ → List Value → Type 0
AllIn n [] = Unit {0}
AllIn n (v ∷ vs) = (v.word ≤ n) × AllIn n vs

abbrev pub WaitIn : ℕ → Waiting → Type 0
WaitIn n Nobody = Unit {0}
WaitIn n (For c at j) = at ≤ n

-- one of two, by a test
by_test : {X : Type 0} (P : X → Type 0) (b : Bool) {x y : X} → P x → P y → P (cond b x y)
by_test P true p q = p
by_test P false p q = q

all_with : (n : ℕ) (vs : List Value) (v : Value) → AllIn n vs → v.word ≤ n → AllIn n (vs ++ v ∷ [])
all_with n [] v a h = (h, tt)
all_with n (x ∷ vs) v a h = (a.0, all_with n vs v a.1 h)

group_in : (n k : ℕ) (vs : List Value) → AllIn n vs → AllIn n (group k vs)
group_in n k [] a = tt
group_in n k (v ∷ vs) a = by_test (AllIn n) (eqb k v.parameter) (a.0, group_in n k vs a.1) (group_in n k vs a.1)

-- Switches.

abbrev pub DidIn : ℕ → ℕ → Did → Type 0
DidIn n most (Gave vs who) = AllIn n vs × WaitIn n who × (length vs ≤ most)
DidIn n most (Wrong f) = WordIn n f

module _ (n at : ℕ) (h : at ≤ n) where
  give_in : (j : ℕ) (c : Called) (t : Text) (vs : List Value) (most : ℕ) → AllIn n vs → suc (length vs) ≤ most → DidIn n most (give at j c t vs)
  give_in j c t vs most a l =
      by_test (DidIn n most) (is_full c vs) h
      (all_with n vs (record { parameter = c.place; text = t; word = at }) a h, tt, (let k = length-append vs (record { parameter = c.place; text = t; word = at } ∷ []) in omega arith))

  last_in : (j : ℕ) (known : Option Called) (behind : Option Text) (vs : List Value) (most : ℕ) → AllIn n vs → suc (length vs) ≤ most → DidIn n most (last_step at j known behind vs)
  last_in j None behind vs most a l = h
  last_in j (Some c) None vs most a l = by_test (DidIn n most) (takes_true c.parameter) (give_in j c true_text vs most a l) (a, h, omega arith)
  last_in j (Some c) (Some v) vs most a l = by_test (DidIn n most) (takes_true c.parameter) h (give_in j c v vs most a l)

  then_in : (j : ℕ) (known : Option Called) (vs : List Value) (go : List Value → Did) (most : ℕ) → AllIn n vs → ((hs : List Value) → AllIn n hs → length hs ≡ suc (length vs) → DidIn n most (go hs)) → DidIn n most (then_step at j known vs go)
  then_in j None vs go most a k = h
  then_in j (Some c) vs go most a k =
      let v : Value = record { parameter = c.place; text = true_text; word = at } in
      by_test (DidIn n most) (takes_true c.parameter)
      (by_test (DidIn n most) (is_full c vs) h (k (vs ++ v ∷ []) (all_with n vs v a h) (let l = length-append vs (v ∷ []) in omega arith)))
      h

  run_in : (ps : List ParameterMeaning) (behind : Option Text) (vs : List Value) (j : ℕ) (ss : List Switch) (most : ℕ) → AllIn n vs → length vs + length ss ≤ most → DidIn n most (run ps at behind vs j ss)
  run_in ps behind vs j [] most a l = (a, tt, omega arith)
  run_in ps behind vs j (s ∷ []) most a l = last_in j (called ps s) behind vs most a (omega arith)
  run_in ps behind vs j (s ∷ r ∷ ss) most a l = then_in j (called ps s) vs (λ hs. run ps at behind hs (suc j) (r ∷ ss)) most a (λ hs b e. run_in ps behind hs (suc j) (r ∷ ss) most b (omega arith))

-- Words.

pub record Grown (n : ℕ) (w : Text) (st t : State) : Type 0 where
  pub words : t.words ≡ suc st.words
  pub roles : length t.roles ≡ suc (length st.roles)
  pub all : AllIn n t.values
  pub wait : WaitIn n t.waiting
  pub few : length t.values ≤ length st.values + suc (length w)

abbrev pub NextIn : ℕ → Text → State → Next → Type 0
NextIn n w st (Go r t) = Grown n w st t
NextIn n w st Stop = Unit {0}
NextIn n w st (Fail f) = WordIn n f

module _ (ps : List ParameterMeaning) (n : ℕ) (w : Text) (st : State) (h : st.words ≤ n) (a : AllIn n st.values) where
  plain_in : (o : Option ℕ) → NextIn n w st (plain_step st w o)
  plain_in None = tt
  plain_in (Some k) =
      let v : Value = record { parameter = k; text = w; word = st.words } in
      record { words = refl; roles = (let l = length-append st.roles (PlainWord k ∷ []) in omega arith); all = all_with n st.values v a h; wait = tt; few = (let l = length-append st.values (v ∷ []) in omega arith) }

  end_in : NextIn n w st (end_step st)
  end_in = record { words = refl; roles = (let l = length-append st.roles (EndMark ∷ []) in omega arith); all = a; wait = tt; few = omega arith }

  switched_in : (d : Did) → DidIn n (length st.values + suc (length w)) d → NextIn n w st (switched st d)
  switched_in (Gave vs who) d = record { words = refl; roles = (let l = length-append st.roles (SwitchWord ∷ []) in omega arith); all = d.0; wait = d.1; few = d.2 }
  switched_in (Wrong f) d = d

  switch_in : NextIn n w st (switch_step ps st w)
  switch_in = by_test (NextIn n w st) (is_nil (name w)) h (switched_in (run ps st.words (attached w) st.values 0 (switches w)) (run_in n st.words h ps (attached w) st.values 0 (switches w) (length st.values + suc (length w)) a (let k = switches_few w in omega arith)))

  free_in : NextIn n w st (free_step ps st w)
  free_in =
      by_test (NextIn n w st) (any_option ps && not st.ended)
      (by_test (NextIn n w st) (bytes_eq w end_mark) end_in (by_test (NextIn n w st) (is_dashed w) switch_in (plain_in (taker ps st.plains))))
      (plain_in (taker ps st.plains))

  value_in : (c : Called) (at j : ℕ) → at ≤ n → NextIn n w st (value_step st w c at j)
  value_in c at j k =
      let v : Value = record { parameter = c.place; text = w; word = st.words } in
      by_test (NextIn n w st) (is_full c st.values) k
      (record { words = refl; roles = (let l = length-append st.roles (SwitchValue ∷ []) in omega arith); all = all_with n st.values v a h; wait = tt; few = (let l = length-append st.values (v ∷ []) in omega arith) })

  step_by_in : (who : Waiting) → WaitIn n who → NextIn n w st (step_by ps st w who)
  step_by_in Nobody k = free_in
  step_by_in (For c at j) k = value_in c at j k

-- All words: so many are left, and no more values than the words before them have bytes.

pub record Ran (n : ℕ) (st : State) (ws : List Text) (t : State) (rest : List Text) : Type 0 where
  pub all : AllIn n t.values
  pub words : t.words + length rest ≡ st.words + length ws
  pub roles : length t.roles + length rest ≡ length st.roles + length ws
  pub few : length t.values + length (closed rest) ≤ length st.values + length (closed ws)

abbrev pub ScannedIn : ℕ → State → List Text → Scanned → Type 0
ScannedIn n st ws (Stopped t rest) = Ran n st ws t rest
ScannedIn n st ws (Broken f) = WordIn n f

end_scan_in : (n : ℕ) (st : State) (who : Waiting) → WaitIn n who → AllIn n st.values → ScannedIn n st [] (at_line_end st who)
end_scan_in n st Nobody k a = record { all = a; words = refl; roles = refl; few = omega arith }
end_scan_in n st (For c at j) k a = k

module _ (ps : List ParameterMeaning) (n : ℕ) where
  onward : (st : State) (w : Text) (ws : List Text) (t : State) → Grown n w st t → (x : Scanned) → ScannedIn n t ws x → ScannedIn n st (w ∷ ws) x
  onward st w ws t g (Stopped u rest) i =
      let e = g.words in let r = g.roles in let f = g.few in let iw = i.words in let ir = i.roles in let il = i.few in
      let l = length-append w (0 ∷ closed ws) in
      record { all = i.all; words = omega arith; roles = omega arith; few = omega arith }
  onward st w ws t g (Broken f) i = i

  on_in : (st : State) (w : Text) (ws : List Text) → AllIn n st.values → (x : Next) → NextIn n w st x → ((t : State) → Grown n w st t → ScannedIn n t ws (scan ps t ws)) → ScannedIn n st (w ∷ ws) (on_step x st (w ∷ ws) (λ t. scan ps t ws))
  on_in st w ws a (Go r t) g go = onward st w ws t g (scan ps t ws) (go t g)
  on_in st w ws a Stop g go = record { all = a; words = refl; roles = refl; few = omega arith }
  on_in st w ws a (Fail f) g go = g

  scan_in : (st : State) (ws : List Text) → st.words + length ws ≤ n → WaitIn n st.waiting → AllIn n st.values → ScannedIn n st ws (scan ps st ws)
  scan_in st [] l k a = end_scan_in n st st.waiting k a
  scan_in st (w ∷ ws) l k a =
      on_in st w ws a (step ps st w) (step_by_in ps n w st (omega arith) a st.waiting k)
      (λ t g. scan_in t ws (let e = g.words in omega arith) g.wait g.all)

-- Counts.

abbrev pub OptionIn : ℕ → Option Refusal → Type 0
OptionIn n None = Unit {0}
OptionIn n (Some f) = WordIn n f

else_in : (n : ℕ) (x y : Option Refusal) → OptionIn n x → OptionIn n y → OptionIn n (else! x y)
else_in n None y p q = q
else_in n (Some f) y p q = p

first_in : (n : ℕ) (check : ℕ → ParameterMeaning → Option Refusal) → ((k : ℕ) (p : ParameterMeaning) → OptionIn n (check k p)) → (k : ℕ) (ps : List ParameterMeaning) → OptionIn n (first_of check k ps)
first_in n check c k [] = tt
first_in n check c k (p ∷ ps) = else_in n (check k p) (first_of check (suc k) ps) (c k p) (first_in n check c (suc k) ps)

pattern_in : (n : ℕ) (judge : JudgeMeaning) (k : ℕ) (pattern : Option ℕ) (vs : List Value) → AllIn n vs → OptionIn n (check_pattern judge k pattern vs)
pattern_in n judge k pattern [] a = tt
pattern_in n judge k pattern (v ∷ vs) a = by_test (OptionIn n) (accepted judge pattern v) (pattern_in n judge k pattern vs a.1) a.0

tally_in : (n : ℕ) (ps : List ParameterMeaning) (judge : JudgeMeaning) (vs : List Value) (found : ℕ) → AllIn n vs → OptionIn n (tally ps judge vs found)
tally_in n ps judge vs found a =
    else_in n _ _ (first_in n (check_option vs) (λ k p. by_test (OptionIn n) (is_option p) (by_test (OptionIn n) (is_missing vs k p) (omega arith) tt) tt) 0 ps)
    (else_in n _ _ (by_test (OptionIn n) (any_missing vs 0 ps) (omega arith) tt)
    (first_in n (check_sound judge vs) (λ k p. by_test (OptionIn n) (is_checked vs k p) (by_test (OptionIn n) (at_least p.min (length (group k vs))) (by_test (OptionIn n) (at_most p.max (length (group k vs))) (pattern_in n judge k p.pattern (group k vs) (group_in n k vs a)) (omega arith)) (omega arith)) tt) 0 ps))

-- Orders.

pub record Kept (n : ℕ) (ws : List Text) (t : State) (rest : List Text) : Type 0 where
  pub words : t.words + length rest ≡ n + length ws
  pub roles : length t.roles + length rest ≡ length ws
  pub few : length t.values + length (closed rest) ≤ length (closed ws)

abbrev pub OrderedIn : ℕ → ℕ → List Text → Ordered → Type 0
OrderedIn most n ws (Took t rest) = Kept n ws t rest
OrderedIn most n ws (Refuses f) = WordIn most f

tallied_in : (most n : ℕ) (ws : List Text) (t : State) (rest : List Text) (o : Option Refusal) → Kept n ws t rest → OptionIn most o → OrderedIn most n ws (tallied t rest o)
tallied_in most n ws t rest None k i = k
tallied_in most n ws t rest (Some f) k i = i

scanned_in : (ps : List ParameterMeaning) (judge : JudgeMeaning) (most n : ℕ) (ws : List Text) (x : Scanned) → ScannedIn most (started n) ws x → OrderedIn most n ws (scanned ps judge x)
scanned_in ps judge most n ws (Broken f) i = i
scanned_in ps judge most n ws (Stopped t rest) i = tallied_in most n ws t rest (tally ps judge t.values t.plains) (let w = i.words in let r = i.roles in let f = i.few in record { words = omega arith; roles = omega arith; few = omega arith }) (tally_in most ps judge t.values t.plains i.all)

pub order_in : (ps : List ParameterMeaning) (judge : JudgeMeaning) (n : ℕ) (ws : List Text) → OrderedIn (n + length ws) n ws (read_order ps judge n ws)
order_in ps judge n ws = scanned_in ps judge (n + length ws) n ws (scan ps (started n) ws) (scan_in ps (n + length ws) (started n) ws (omega arith) tt tt)

-- Paths.

stops_word : {names : NameMeaning} {at word : ℕ} {name : Text} {followed : Bool} {f : Refusal} → Stops names at name followed word f → (told_of f).word ≡ word
stops_word (Stops.unknown_recipe e k) = refl
stops_word (Stops.unknown_submodule e k) = refl
stops_word (Stops.recipe_followed e k) = refl
stops_word (Stops.disabled_recipe k) = refl
stops_word (Stops.disabled_alias k) = refl
stops_word (Stops.absent_module k) = refl

lacks_word : {names : NameMeaning} {at : ℕ} {f : Refusal} → Lacks names at f → (told_of f).word ≡ 0
lacks_word (Lacks.recipes e k) = refl
lacks_word (Lacks.default e k) = refl

behind_in : {ws : List Text} {path : Modulepath} → Gives ws path → (k : ℕ) → k ≤ length path.components → word_behind path k ≤ length ws
behind_in Gives.no_words k h = h
behind_in (Gives.each_word e) k h = h
behind_in (Gives.one_word e m p) k h = omega arith

strays_in : {names : NameMeaning} {ws : List Text} {path : Modulepath} {f : Refusal} → Gives ws path → Strays names path f → WordIn (length ws) f
strays_in {ws = ws} {path = path} g (Strays.at_name {front} {rest} {name} r s) =
    let e = ap length r.cut in let l = length-append front (name ∷ rest) in
    let h = behind_in g (length front) (omega arith) in let k = stops_word s in omega arith
strays_in g (Strays.at_end e l) = let k = lacks_word l in omega arith

pub path_in : {names : NameMeaning} {ws : List Text} {f : Refusal} → PathFault names ws f → WordIn (length ws) f
path_in (PathFault.malformed c m p) = omega arith
path_in (PathFault.strays g s) = strays_in g s
