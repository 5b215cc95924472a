-- Orders that differ in their words' numbers alone go on alike. Assumes nothing.
use Rattle.std.proofs.Common.{◌≡◌, ℕ, suc, Bool, true, false, cond, not, ◌&&◌, ◌||◌, eqb, List, [], ◌∷◌, ◌++◌, map, length, Some, None, Option, sym, refl, ap, ◌∙◌, subst, append_assoc, arith}
use mathlib.Core.List.{map-append}
use Rattle.std.proofs.lemmas.List.{length-map}
use Rattle.text.specs.Identifier.{Text}
use Rattle.register.specs.Meaning.{ParameterMeaning}
use Rattle.judge.specs.Meaning.{JudgeMeaning}
use Rattle.reading.specs.Signature.{Takes, Each, any_option, takes_true, holds_several, may_be_empty}
use Rattle.reading.specs.Switches.{Switch, Called, called, attached, switches}
use Rattle.reading.specs.Reading.{Given, Value, Waiting, true_text, group, filled, is_full, reached, ended, reads_switches, is_end_mark, one_more_plain, plains, wants, wanted_by, waits_for, last_wants, unless_attached, attached_to, switch_gives, run_gives, value_for, role_gives, values, words_of, Run, Fits, Roles, Ends, Served, Sound, at_least, at_most, all_accepted, LawfulOrder}
use Rattle.reading.specs.Reading.Waiting.{Nobody, For}
use Rattle.reading.specs.declared.role.Role.{Role}
use Rattle.reading.specs.declared.role.Role.TheVariants.{PathWord, SwitchWord, SwitchValue, EndMark, PlainWord}
use Rattle.reading.proofs.Runs.{split}
use Rattle.manual.specs.Orders.{text_of, texts_of}
use Rattle.manual.specs.Spellings.{SameOrder, MeanTheSame}

-- a value without its word
pub record Worth : Type 0 where
  pub parameter : ℕ
  pub text : Text

abbrev pub worth : Value → Worth
worth v = record { parameter = v.parameter; text = v.text }

abbrev pub worths : List Value → List Worth
worths vs = map worth vs

-- the option that waits
abbrev pub whom : Waiting → Option Called
whom Nobody = None
whom (For c at j) = Some c

whom_nobody : (who : Waiting) → whom who ≡ None → who ≡ Nobody
whom_nobody Nobody e = refl
whom_nobody (For c at j) e = absurd (let z : ◌≡◌ {A = ℕ} 0 1 = cc in omega arith)

whom_for : (who : Waiting) (c : Called) → whom who ≡ Some c → (at : ℕ) × (j : ℕ) × (who ≡ For c at j)
whom_for Nobody c e = absurd (let z : ◌≡◌ {A = ℕ} 0 1 = cc in omega arith)
whom_for (For d at j) c e = (at, j, (let i : d ≡ c = cc in ap (λ (x : Called). For x at j) i))

-- Groups by worth.

abbrev worth_texts : ℕ → List Worth → List Text
worth_texts k [] = []
worth_texts k (x ∷ xs) = cond (eqb k x.parameter) (x.text ∷ worth_texts k xs) (worth_texts k xs)

group_worths : (k : ℕ) (vs : List Value) → map text_of (group k vs) ≡ worth_texts k (worths vs)
group_worths k [] = refl
group_worths k (v ∷ vs) =
    let h = group_worths k vs in
    split (eqb k v.parameter) (λ t. rw t (ap (λ (x : List Text). v.text ∷ x) h)) (λ f. rw f h)

module _ (vs us : List Value) (same : worths vs ≡ worths us) where
  pub texts_alike : (k : ℕ) → map text_of (group k vs) ≡ map text_of (group k us)
  texts_alike k = group_worths k vs ∙ ap (worth_texts k) same ∙ sym (group_worths k us)

  length_alike : (k : ℕ) → length (group k vs) ≡ length (group k us)
  length_alike k = sym (length-map (group k vs) text_of) ∙ ap length (texts_alike k) ∙ length-map (group k us) text_of

abbrev any_text : List Text → Bool
any_text [] = false
any_text (t ∷ ts) = true

filled_texts : (vs : List Value) → filled vs ≡ any_text (map text_of vs)
filled_texts [] = refl
filled_texts (v ∷ vs) = refl

abbrev texts_accepted : JudgeMeaning → Option ℕ → List Text → Bool
texts_accepted judge pattern [] = true
texts_accepted judge None (t ∷ ts) = true && texts_accepted judge None ts
texts_accepted judge (Some p) (t ∷ ts) = judge p t && texts_accepted judge (Some p) ts

accepted_texts : (judge : JudgeMeaning) (pattern : Option ℕ) (vs : List Value) → all_accepted judge pattern vs ≡ texts_accepted judge pattern (map text_of vs)
accepted_texts judge None [] = refl
accepted_texts judge (Some p) [] = refl
accepted_texts judge None (v ∷ vs) = accepted_texts judge None vs
accepted_texts judge (Some p) (v ∷ vs) = ap (λ (x : Bool). judge p v.text && x) (accepted_texts judge (Some p) vs)

module _ (vs us : List Value) (same : worths vs ≡ worths us) where
  filled_alike : (k : ℕ) → filled (group k vs) ≡ filled (group k us)
  filled_alike k = filled_texts (group k vs) ∙ ap any_text (texts_alike vs us same k) ∙ sym (filled_texts (group k us))

  pub full_alike : (c : Called) → is_full c vs ≡ false → is_full c us ≡ false
  full_alike c f = ap (λ (x : Bool). not (holds_several c.parameter) && x) (sym (filled_alike c.place)) ∙ f

  served_alike : (k : ℕ) (p : ParameterMeaning) → Served vs k p → Served us k p
  served_alike k p s = ap (λ (x : Bool). not x && not (may_be_empty p)) (sym (filled_alike k)) ∙ s

  sound_alike : (judge : JudgeMeaning) (k : ℕ) (p : ParameterMeaning) → Sound judge vs k p → Sound judge us k p
  sound_alike judge k p s c =
      let h = s (ap (λ (x : Bool). not p.value && x) (filled_alike k) ∙ c) in
      let l = length_alike vs us same k in
      record {
        least = ap (at_least p.min) (sym l) ∙ h.least;
        most = ap (at_most p.max) (sym l) ∙ h.most;
        pattern = accepted_texts judge p.pattern (group k us) ∙ ap (texts_accepted judge p.pattern) (sym (texts_alike vs us same k)) ∙ sym (accepted_texts judge p.pattern (group k vs)) ∙ h.pattern;
      }

each_alike : (one other : ℕ → ParameterMeaning → Type 0) → ((k : ℕ) (p : ParameterMeaning) → one k p → other k p) → (k : ℕ) (ps : List ParameterMeaning) → Each one k ps → Each other k ps
each_alike one other f k [] e = tt
each_alike one other f k (p ∷ ps) e = (f k p e.0, each_alike one other f (suc k) ps e.1)

-- Switches.

pub worths-append : (vs us xs ys : List Value) → worths vs ≡ worths us → worths xs ≡ worths ys → worths (vs ++ xs) ≡ worths (us ++ ys)
worths-append vs us xs ys e f = map-append worth vs xs ∙ ap (λ (z : List Worth). z ++ worths xs) e ∙ ap (λ (z : List Worth). worths us ++ z) f ∙ sym (map-append worth us ys)

module _ (ps : List ParameterMeaning) (at to : ℕ) (behind : Option Text) where
  pub run_alike : {vs : List Value} {ss : List Switch} → Run ps at behind vs ss → (us : List Value) → worths vs ≡ worths us → Run ps to behind us ss
  run_alike (Run.last_true {vs} {c = c} e t b f) us w = Run.last_true e t b (full_alike vs us w c f)
  run_alike (Run.last_attached {vs} {c = c} e t b f) us w = Run.last_attached e t b (full_alike vs us w c f)
  run_alike (Run.last_waiting e t b) us w = Run.last_waiting e t b
  run_alike (Run.then {vs} {c = c} e t f u) us w = Run.then e t (full_alike vs us w c f) (run_alike u _ (worths-append vs us (record { parameter = c.place; text = true_text; word = at } ∷ []) (record { parameter = c.place; text = true_text; word = to } ∷ []) w refl))

  attached_alike : (c : Called) → worths (attached_to at c behind) ≡ worths (attached_to to c behind)
  attached_alike c = elim behind as (λ x. worths (attached_to at c x) ≡ worths (attached_to to c x)) [ None ↦ refl | Some v ↦ refl ]

  switch_alike : (o : Option Called) → worths (switch_gives at behind o) ≡ worths (switch_gives to behind o)
  switch_alike None = refl
  switch_alike (Some c) = split (takes_true c.parameter) (λ t. rw t) (λ f. rw f (attached_alike c))

  pub gives_alike : (ss : List Switch) → worths (run_gives ps at behind ss) ≡ worths (run_gives ps to behind ss)
  gives_alike [] = refl
  gives_alike (s ∷ ss) = worths-append (switch_gives at behind (called ps s)) (switch_gives to behind (called ps s)) (run_gives ps at behind ss) (run_gives ps to behind ss) (switch_alike (called ps s)) (gives_alike ss)

waits_alike : (at to i j : ℕ) (o : Option Called) → whom (waits_for at i o) ≡ whom (waits_for to j o)
waits_alike at to i j None = refl
waits_alike at to i j (Some c) = split (takes_true c.parameter) (λ t. rw t) (λ f. rw f)

last_alike : (ps : List ParameterMeaning) (at to i j : ℕ) (ss : List Switch) → whom (last_wants ps at i ss) ≡ whom (last_wants ps to j ss)
last_alike ps at to i j [] = refl
last_alike ps at to i j (s ∷ []) = waits_alike at to i j (called ps s)
last_alike ps at to i j (s ∷ r ∷ ss) = last_alike ps at to (suc i) (suc j) (r ∷ ss)

pub wait_alike : (ps : List ParameterMeaning) (behind : Option Text) (at to i j : ℕ) (ss : List Switch) → whom (unless_attached behind (last_wants ps at i ss)) ≡ whom (unless_attached behind (last_wants ps to j ss))
wait_alike ps None at to i j ss = last_alike ps at to i j ss
wait_alike ps (Some v) at to i j ss = refl

wanted_alike : (ps : List ParameterMeaning) (at to : ℕ) (w : Text) (r : Role) → whom (wanted_by ps at w r) ≡ whom (wanted_by ps to w r)
wanted_alike ps at to w PathWord = refl
wanted_alike ps at to w SwitchWord = wait_alike ps (attached w) at to 0 0 (switches w)
wanted_alike ps at to w SwitchValue = refl
wanted_alike ps at to w EndMark = refl
wanted_alike ps at to w (PlainWord k) = refl

value_alike : (at to : ℕ) (w : Text) (one other : Waiting) → whom one ≡ whom other → worths (value_for at w one) ≡ worths (value_for to w other)
value_alike at to w Nobody Nobody e = refl
value_alike at to w Nobody (For d a b) e = absurd (let z : ◌≡◌ {A = ℕ} 0 1 = cc in omega arith)
value_alike at to w (For c i j) Nobody e = absurd (let z : ◌≡◌ {A = ℕ} 0 1 = cc in omega arith)
value_alike at to w (For c i j) (For d a b) e = let q : c ≡ d = cc in ap (λ (x : Called). record { parameter = x.place; text = w } ∷ []) q

role_alike : (ps : List ParameterMeaning) (at to : ℕ) (one other : Waiting) (w : Text) (r : Role) → whom one ≡ whom other → worths (role_gives ps at one w r) ≡ worths (role_gives ps to other w r)
role_alike ps at to one other w PathWord e = refl
role_alike ps at to one other w SwitchWord e = gives_alike ps at to (attached w) (switches w)
role_alike ps at to one other w SwitchValue e = value_alike at to w one other e
role_alike ps at to one other w EndMark e = refl
role_alike ps at to one other w (PlainWord k) e = refl

-- Given words.

module _ (ps : List ParameterMeaning) (n : ℕ) where
  -- what goes on alike
  pub record Alike (gs hs : List Given) : Type 0 where
    pub who : whom (wants ps n gs) ≡ whom (wants ps n hs)
    pub end : ended gs ≡ ended hs
    pub count : plains gs ≡ plains hs
    pub same : worths (values ps n gs) ≡ worths (values ps n hs)

  pub alike_back : {gs hs : List Given} → Alike gs hs → Alike hs gs
  alike_back a = record { who = sym a.who; end = sym a.end; count = sym a.count; same = sym a.same }

  more_alike : {gs hs : List Given} (w : Text) (r : Role) → Alike gs hs → Alike (record { word = w; role = r } ∷ gs) (record { word = w; role = r } ∷ hs)
  more_alike {gs} {hs} w r a = record {
    who = wanted_alike ps (reached n gs) (reached n hs) w r;
    end = ap (λ (x : Bool). is_end_mark r || x) a.end;
    count = ap (one_more_plain r) a.count;
    same = worths-append (values ps n gs) (values ps n hs) (role_gives ps (reached n gs) (wants ps n gs) w r) (role_gives ps (reached n hs) (wants ps n hs) w r) a.same (role_alike ps (reached n gs) (reached n hs) (wants ps n gs) (wants ps n hs) w r a.who);
  }

  nobody_alike : {gs hs : List Given} → Alike gs hs → wants ps n gs ≡ Nobody → wants ps n hs ≡ Nobody
  nobody_alike {gs} {hs} a e = whom_nobody (wants ps n hs) (sym a.who ∙ ap whom e)

  reads_alike : {gs hs : List Given} → Alike gs hs → reads_switches ps gs ≡ reads_switches ps hs
  reads_alike a = ap (λ (x : Bool). any_option ps && not x) a.end

  fits_alike : {gs hs : List Given} {w : Text} {r : Role} → Alike gs hs → Fits ps n gs w r → Fits ps n hs w r
  fits_alike {gs} {hs} a (Fits.value {c} e f) =
      let q = whom_for (wants ps n hs) c (sym a.who ∙ ap whom e) in
      Fits.value q.2 (full_alike (values ps n gs) (values ps n hs) a.same c f)
  fits_alike a (Fits.end e o d) = Fits.end (nobody_alike a e) (sym (reads_alike a) ∙ o) d
  fits_alike {gs} {hs} {w} a (Fits.switch s d r) =
      Fits.switch (record { unclaimed = nobody_alike a s.unclaimed; open! = sym (reads_alike a) ∙ s.open!; no_end = s.no_end; dashed = s.dashed }) d
      (run_alike ps (reached n gs) (reached n hs) (attached w) r (values ps n hs) a.same)
  fits_alike a (Fits.plain {k} e no! t) = Fits.plain (nobody_alike a e) (λ o d. no! (reads_alike a ∙ o) d) (subst (λ (x : ℕ). Takes ps x k) a.count t)

  ends_alike : {gs hs : List Given} {rest : List Text} → Alike gs hs → Ends ps n gs rest → Ends ps n hs rest
  ends_alike a (Ends.line e) = Ends.line (nobody_alike a e)
  ends_alike a (Ends.homeless e no! h) = Ends.homeless (nobody_alike a e) (λ o d. no! (reads_alike a ∙ o) d) (λ k t. h k (subst (λ (x : ℕ). Takes ps x k) (sym a.count) t))

  roles_alike : (after : List Given) {gs hs : List Given} → Alike gs hs → Roles ps n hs → Roles ps n (after ++ gs) → Roles ps n (after ++ hs) × Alike (after ++ gs) (after ++ hs)
  roles_alike [] a rs ss = (rs, a)
  roles_alike (g ∷ after) a rs (Roles.more {w = w} {r = r} ss f) =
      let h = roles_alike after a rs ss in
      (Roles.more h.0 (fits_alike h.1 f), more_alike w r h.1)

  before_roles : (after : List Given) {gs : List Given} → Roles ps n (after ++ gs) → Roles ps n gs
  before_roles [] rs = rs
  before_roles (g ∷ after) (Roles.more rs f) = before_roles after rs

  -- one spelling gives way to another
  abbrev pub GivesWay : List Given → List Given → Type 0
  GivesWay gs hs = Roles ps n gs → Roles ps n hs × Alike gs hs

  order_alike : (judge : JudgeMeaning) (after gs hs : List Given) (rest : List Text) → GivesWay gs hs → LawfulOrder ps judge n (words_of (after ++ gs) ++ rest) (after ++ gs) rest → LawfulOrder ps judge n (words_of (after ++ hs) ++ rest) (after ++ hs) rest
  order_alike judge after gs hs rest way l =
      let h = way (before_roles after l.roles) in
      let k = roles_alike after h.1 h.0 l.roles in
      let vs = values ps n (after ++ gs) in
      let us = values ps n (after ++ hs) in
      record {
        cut = refl;
        roles = k.0;
        ends = ends_alike k.1 l.ends;
        served = each_alike (Served vs) (Served us) (served_alike vs us k.1.same) 0 ps l.served;
        sound = each_alike (Sound judge vs) (Sound judge us) (sound_alike vs us k.1.same judge) 0 ps l.sound;
      }

  texts_same : (after gs hs : List Given) → GivesWay gs hs → Roles ps n (after ++ gs) → (k : ℕ) → texts_of ps n (after ++ gs) k ≡ texts_of ps n (after ++ hs) k
  texts_same after gs hs way rs k =
      let h = way (before_roles after rs) in
      let j = roles_alike after h.1 h.0 rs in
      texts_alike (values ps n (after ++ gs)) (values ps n (after ++ hs)) j.1.same k

pub mean_the_same : (ps : List ParameterMeaning) (one other : List Given) → ((n : ℕ) (before : List Given) → GivesWay ps n (one ++ before) (other ++ before)) → ((n : ℕ) (before : List Given) → GivesWay ps n (other ++ before) (one ++ before)) → MeanTheSame ps one other
mean_the_same ps one other way back judge n before after rest = record {
  there = order_alike ps n judge after (one ++ before) (other ++ before) rest (way n before);
  back = order_alike ps n judge after (other ++ before) (one ++ before) rest (back n before);
  texts = λ l. texts_same ps n after (one ++ before) (other ++ before) (way n before) l.roles;
}

pub same_itself : (ps : List ParameterMeaning) (one : List Given) → MeanTheSame ps one one
same_itself ps one judge n before after rest = record { there = λ l. l; back = λ l. l; texts = λ l k. refl }

-- a spelling whose last words are spelled otherwise
pub same_then : (ps : List ParameterMeaning) (one front middle other : List Given) → MeanTheSame ps one (middle ++ front) → MeanTheSame ps middle other → MeanTheSame ps one (other ++ front)
same_then ps one front middle other a b judge n before after rest =
    let e : after ++ ((middle ++ front) ++ before) ≡ after ++ (middle ++ (front ++ before)) = ap (λ (x : List Given). after ++ x) (append_assoc middle front before) in
    let f : after ++ (other ++ (front ++ before)) ≡ after ++ ((other ++ front) ++ before) = ap (λ (x : List Given). after ++ x) (sym (append_assoc other front before)) in
    let h : SameOrder ps judge n (after ++ (one ++ before)) (after ++ (middle ++ (front ++ before))) rest = subst (λ (x : List Given). SameOrder ps judge n (after ++ (one ++ before)) x rest) e (a judge n before after rest) in
    let k : SameOrder ps judge n (after ++ (middle ++ (front ++ before))) (after ++ ((other ++ front) ++ before)) rest = subst (λ (x : List Given). SameOrder ps judge n (after ++ (middle ++ (front ++ before))) x rest) f (b judge n (front ++ before) after rest) in
    record { there = λ l. k.there (h.there l); back = λ l. h.back (k.back l); texts = λ l j. h.texts l j ∙ k.texts (h.there l) j }
