-- Two spellings of the same switches. Assumes nothing.
use Rattle.std.proofs.Common.{◌≡◌, ℕ, suc, true, false, eqb, List, [], ◌∷◌, ◌++◌, map, Some, None, Option, sym, refl, ap, ◌∙◌, subst, append_assoc, append-nil, arith}
use Rattle.std.proofs.lemmas.Bool.{ne_eqb}
use Rattle.text.specs.Identifier.{Text}
use Rattle.text.specs.Utf8.{Char, From}
use Rattle.register.specs.Meaning.{ParameterMeaning}
use Rattle.reading.specs.Letters.{letters, code}
use Rattle.reading.specs.Signature.{takes_true}
use Rattle.reading.specs.Switches.{Switch, Called, called, end_mark, is_dashed, up_to_equals, behind_equals, name, attached, switches}
use Rattle.reading.specs.Reading.{Given, Value, Waiting, true_text, is_full, reached, wants, last_wants, unless_attached, run_gives, value_for, values, Run, Fits, Roles}
use Rattle.reading.specs.Reading.Waiting.{Nobody, For}
use Rattle.reading.proofs.Letters.{letters_char}
use Rattle.reading.proofs.Runs.{split}
use Rattle.manual.specs.Spellings.{switch_word, switch_value, long_word, letters_word, with_value, IsLetter, AllLetters, joined, apart, MeanTheSame, SpellingsStand}
use Rattle.manual.proofs.Alike.{whom, worths, worths-append, run_alike, gives_alike, wait_alike, alike_back, GivesWay, mean_the_same, same_itself, same_then}

-- Texts.

behind_none : (t v : Text) → behind_equals t ≡ None → behind_equals (t ++ (61 ∷ v)) ≡ Some v
behind_none [] v e = refl
behind_none (b ∷ t) v e = split (eqb b 61) (λ q. absurd (let h = rw q at e in let z : ◌≡◌ {A = ℕ} 0 1 = cc in omega arith)) (λ q. rw q (behind_none t v (rw q at e)))

up_to_none : (t v : Text) → behind_equals t ≡ None → up_to_equals (t ++ (61 ∷ v)) ≡ up_to_equals t
up_to_none [] v e = refl
up_to_none (b ∷ t) v e = split (eqb b 61) (λ q. absurd (let h = rw q at e in let z : ◌≡◌ {A = ℕ} 0 1 = cc in omega arith)) (λ q. rw q (ap (λ (x : Text). b ∷ x) (up_to_none t v (rw q at e))))

-- no `=` in it
abbrev Free : Text → Type 0
Free [] = Unit {0}
Free (b ∷ t) = (eqb b 61 ≡ false) × Free t

free_behind : (x y : Text) → Free x → behind_equals (x ++ y) ≡ behind_equals y
free_behind [] y f = refl
free_behind (b ∷ x) y f = rw f.0 (free_behind x y f.1)

free_up_to : (x y : Text) → Free x → up_to_equals (x ++ y) ≡ x ++ up_to_equals y
free_up_to [] y f = refl
free_up_to (b ∷ x) y f = rw f.0 (ap (λ (z : Text). b ∷ z) (free_up_to x y f.1))

-- a letter's bytes
record Bytes (char : Text) : Type 0 where
  first : ℕ
  others : Text
  is : char ≡ first ∷ others
  no_dash : eqb first 45 ≡ false
  free : Free char

high : (b : ℕ) → From 0x80 0xBF b → eqb b 61 ≡ false
high b f = ne_eqb b 61 (λ e. let l = f.least in omega arith)

bytes : {char : Text} → Char char → (char ≡ 45 ∷ [] → ⊥) → (char ≡ 61 ∷ [] → ⊥) → Bytes char
bytes (Char.one {a} f) d q = record { first = a; others = []; is = refl; no_dash = ne_eqb a 45 (λ e. d (ap (λ (x : ℕ). x ∷ []) e)); free = (ne_eqb a 61 (λ e. q (ap (λ (x : ℕ). x ∷ []) e)), tt) }
bytes (Char.two {a} {b} f g) d q = let l = f.least in record { first = a; others = b ∷ []; is = refl; no_dash = ne_eqb a 45 (λ e. omega arith); free = (ne_eqb a 61 (λ e. omega arith), (high b g, tt)) }
bytes (Char.three_E0 {b} {c} f g) d q = let l = f.least in record { first = 0xE0; others = b ∷ c ∷ []; is = refl; no_dash = refl; free = (refl, (ne_eqb b 61 (λ e. omega arith), (high c g, tt))) }
bytes (Char.three_E1 {a} {b} {c} f g h) d q = let l = f.least in record { first = a; others = b ∷ c ∷ []; is = refl; no_dash = ne_eqb a 45 (λ e. omega arith); free = (ne_eqb a 61 (λ e. omega arith), (high b g, (high c h, tt))) }
bytes (Char.three_ED {b} {c} f g) d q = let l = f.least in record { first = 0xED; others = b ∷ c ∷ []; is = refl; no_dash = refl; free = (refl, (ne_eqb b 61 (λ e. omega arith), (high c g, tt))) }
bytes (Char.three_EE {a} {b} {c} f g h) d q = let l = f.least in record { first = a; others = b ∷ c ∷ []; is = refl; no_dash = ne_eqb a 45 (λ e. omega arith); free = (ne_eqb a 61 (λ e. omega arith), (high b g, (high c h, tt))) }
bytes (Char.four_F0 {b} {c} {d = e} f g h) d q = let l = f.least in record { first = 0xF0; others = b ∷ c ∷ e ∷ []; is = refl; no_dash = refl; free = (refl, (ne_eqb b 61 (λ i. omega arith), (high c g, (high e h, tt)))) }
bytes (Char.four_F1 {a} {b} {c} {d = e} f g h i) d q = let l = f.least in record { first = a; others = b ∷ c ∷ e ∷ []; is = refl; no_dash = ne_eqb a 45 (λ j. omega arith); free = (ne_eqb a 61 (λ j. omega arith), (high b g, (high c h, (high e i, tt)))) }
bytes (Char.four_F4 {b} {c} {d = e} f g h) d q = let l = f.least in record { first = 0xF4; others = b ∷ c ∷ e ∷ []; is = refl; no_dash = refl; free = (refl, (ne_eqb b 61 (λ i. omega arith), (high c g, (high e h, tt)))) }

-- A value behind `=`, or in the next word.

-- a switch word without `=`, and the same word with it
record Marked (w marked v : Text) : Type 0 where
  same_name : name marked ≡ name w
  same_switches : switches marked ≡ switches w
  bare : attached w ≡ None
  value : attached marked ≡ Some v
  dashed : is_dashed w ≡ true
  marked_dashed : is_dashed marked ≡ true

module _ (ps : List ParameterMeaning) (at : ℕ) (v : Text) where
  abbrev valued : Called → Value
  valued c = record { parameter = c.place; text = v; word = at }

  -- a run whose last switch waits takes what stands behind `=`
  attach : {vs : List Value} {ss : List Switch} → Run ps at None vs ss → (j : ℕ) (c : Called) (a b : ℕ) → last_wants ps at j ss ≡ For c a b → is_full c (vs ++ run_gives ps at None ss) ≡ false → Run ps at (Some v) vs ss
  attach (Run.last_true k t e f) j c a b q g = absurd (let h = rw (k, t) at q in let z : ◌≡◌ {A = ℕ} 0 1 = cc in omega arith)
  attach (Run.last_attached k t e f) j c a b q g = absurd (let z : ◌≡◌ {A = ℕ} 0 1 = cc in omega arith)
  attach (Run.last_waiting {vs} {c = d} k t e) j c a b q g =
      let h = rw (k, t) at q in let i : c ≡ d = cc in
      let y : is_full c vs ≡ false = rw (k, t, append-nil vs) at g in
      Run.last_attached k t refl (subst (λ (x : Called). is_full x vs ≡ false) i y)
  attach (Run.then {vs} {r = r} {ss = ss} {c = d} k t f u) j c a b q g =
      let x : Value = record { parameter = d.place; text = true_text; word = at } in
      let y : is_full c (vs ++ ((x ∷ []) ++ run_gives ps at None (r ∷ ss))) ≡ false = rw (k, t) at g in
      Run.then k t f (attach u (suc j) c a b q (ap (is_full c) (append_assoc vs (x ∷ []) (run_gives ps at None (r ∷ ss))) ∙ y))

  attach_gives : {vs : List Value} {ss : List Switch} → Run ps at None vs ss → (j : ℕ) (c : Called) (a b : ℕ) → last_wants ps at j ss ≡ For c a b → run_gives ps at (Some v) ss ≡ run_gives ps at None ss ++ (valued c ∷ [])
  attach_gives (Run.last_true k t e f) j c a b q = absurd (let h = rw (k, t) at q in let z : ◌≡◌ {A = ℕ} 0 1 = cc in omega arith)
  attach_gives (Run.last_attached k t e f) j c a b q = absurd (let z : ◌≡◌ {A = ℕ} 0 1 = cc in omega arith)
  attach_gives (Run.last_waiting {c = d} k t e) j c a b q = let h = rw (k, t) at q in let i : d ≡ c = cc in rw (k, t) (ap (λ (x : Called). valued x ∷ []) i)
  attach_gives (Run.then {c = d} k t f u) j c a b q = rw (k, t) (ap (λ (x : List Value). record { parameter = d.place; text = true_text; word = at } ∷ x) (attach_gives u (suc j) c a b q))

  -- and the other way
  record Waits (vs : List Value) (j : ℕ) (ss : List Switch) : Type 0 where
    run : Run ps at None vs ss
    option : Called
    letter : ℕ
    wanted : last_wants ps at j ss ≡ For option at letter
    room : is_full option (vs ++ run_gives ps at None ss) ≡ false

  detach : {vs : List Value} {ss : List Switch} → Run ps at (Some v) vs ss → (j : ℕ) → Waits vs j ss
  detach (Run.last_true k t e f) j = absurd (let z : ◌≡◌ {A = ℕ} 0 1 = cc in omega arith)
  detach (Run.last_attached {vs} {c = c} k t e f) j = record { run = Run.last_waiting k t refl; option = c; letter = j; wanted = rw (k, t); room = rw (k, t, append-nil vs) f }
  detach (Run.last_waiting k t e) j = absurd (let z : ◌≡◌ {A = ℕ} 0 1 = cc in omega arith)
  detach (Run.then {vs} {r = r} {ss = ss} {c = d} k t f u) j =
      let h = detach u (suc j) in
      let x : Value = record { parameter = d.place; text = true_text; word = at } in
      record { run = Run.then k t f h.run; option = h.option; letter = h.letter; wanted = h.wanted; room = rw (k, t) (ap (is_full h.option) (sym (append_assoc vs (x ∷ []) (run_gives ps at None (r ∷ ss)))) ∙ h.room) }

no_end_mark : (w : Text) → (name w ≡ [] → ⊥) → w ≡ end_mark → ⊥
no_end_mark w d e = d (ap name e)

module _ (ps : List ParameterMeaning) (w marked v : Text) (m : Marked w marked v) where
  to_marked : (n : ℕ) (before : List Given) → GivesWay ps n (switch_value v ∷ switch_word w ∷ before) (switch_word marked ∷ before)
  to_marked n before (Roles.more (Roles.more rs (Fits.switch s d r)) (Fits.value {c} {at = a} {j} e f)) =
      let at = reached n before in
      let vs = values ps n before in
      let ss = switches w in
      let run : Run ps at None vs ss = subst (λ (x : Option Text). Run ps at x vs ss) m.bare r in
      let wanted : last_wants ps at 0 ss ≡ For c a j = ap (λ (x : Option Text). unless_attached x (last_wants ps at 0 ss)) (sym m.bare) ∙ e in
      let room : is_full c (vs ++ run_gives ps at None ss) ≡ false = ap (λ (x : Option Text). is_full c (vs ++ run_gives ps at x ss)) (sym m.bare) ∙ f in
      let with! : Run ps at (Some v) vs ss = attach ps at v run 0 c a j wanted room in
      let new : Run ps at (attached marked) vs (switches marked) = subst (λ (x : Option Text). Run ps at x vs (switches marked)) (sym m.value) (subst (Run ps at (Some v) vs) (sym m.same_switches) with!) in
      let named : name marked ≡ [] → ⊥ = λ q. d (sym m.same_name ∙ q) in
      let here : Value = record { parameter = c.place; text = v; word = at } in
      let next : Value = record { parameter = c.place; text = v; word = suc at } in
      let old-gives : values ps n (switch_value v ∷ switch_word w ∷ before) ≡ (vs ++ run_gives ps at None ss) ++ (next ∷ []) =
      ap (λ (x : Option Text). (vs ++ run_gives ps at x ss) ++ value_for (suc at) v (wants ps n (switch_word w ∷ before))) m.bare
      ∙ ap (λ (x : Waiting). (vs ++ run_gives ps at None ss) ++ value_for (suc at) v x) e in
      let new-gives : values ps n (switch_word marked ∷ before) ≡ (vs ++ run_gives ps at None ss) ++ (here ∷ []) =
      ap (λ (x : List Switch). vs ++ run_gives ps at (attached marked) x) m.same_switches
      ∙ ap (λ (x : Option Text). vs ++ run_gives ps at x ss) m.value
      ∙ ap (λ (x : List Value). vs ++ x) (attach_gives ps at v run 0 c a j wanted)
      ∙ sym (append_assoc vs (run_gives ps at None ss) (here ∷ [])) in (
        Roles.more rs (Fits.switch (record { unclaimed = s.unclaimed; open! = s.open!; no_end = no_end_mark marked named; dashed = m.marked_dashed }) named new),
        record {
          who = ap (λ (x : Option Text). whom (unless_attached x (last_wants ps at 0 (switches marked)))) (sym m.value);
          end = refl;
          count = refl;
          same = ap worths old-gives ∙ worths-append (vs ++ run_gives ps at None ss) (vs ++ run_gives ps at None ss) (next ∷ []) (here ∷ []) refl refl ∙ ap worths (sym new-gives);
        },
      )

  from_marked : (n : ℕ) (before : List Given) → GivesWay ps n (switch_word marked ∷ before) (switch_value v ∷ switch_word w ∷ before)
  from_marked n before (Roles.more rs (Fits.switch s d r)) =
      let at = reached n before in
      let vs = values ps n before in
      let ss = switches w in
      let run : Run ps at (Some v) vs ss = subst (λ (x : Option Text). Run ps at x vs ss) m.value (subst (Run ps at (attached marked) vs) m.same_switches r) in
      let h = detach ps at v run 0 in
      let named : name w ≡ [] → ⊥ = λ q. d (m.same_name ∙ q) in
      let old : Run ps at (attached w) vs ss = subst (λ (x : Option Text). Run ps at x vs ss) (sym m.bare) h.run in
      let wanted : wants ps n (switch_word w ∷ before) ≡ For h.option at h.letter = ap (λ (x : Option Text). unless_attached x (last_wants ps at 0 ss)) m.bare ∙ h.wanted in
      let room : is_full h.option (values ps n (switch_word w ∷ before)) ≡ false = ap (λ (x : Option Text). is_full h.option (vs ++ run_gives ps at x ss)) m.bare ∙ h.room in
      let roles : Roles ps n (switch_value v ∷ switch_word w ∷ before) = Roles.more (Roles.more rs (Fits.switch (record { unclaimed = s.unclaimed; open! = s.open!; no_end = no_end_mark w named; dashed = m.dashed }) named old)) (Fits.value wanted room) in
      (roles, alike_back ps n (to_marked n before roles).1)

  marked_same : MeanTheSame ps (switch_value v ∷ switch_word w ∷ []) (switch_word marked ∷ [])
  marked_same = mean_the_same ps (switch_value v ∷ switch_word w ∷ []) (switch_word marked ∷ []) to_marked from_marked

long_marked : (t v : Text) → behind_equals t ≡ None → Marked (long_word t) (with_value (long_word t) v) v
long_marked t v e = record {
  same_name = up_to_none t v e;
  same_switches = ap (λ (x : Text). Switch.Long x ∷ []) (up_to_none t v e);
  bare = e;
  value = behind_none t v e;
  dashed = refl;
  marked_dashed = refl;
}

letters_marked : (b : ℕ) (t v : Text) → eqb b 45 ≡ false → behind_equals (b ∷ t) ≡ None → Marked (letters_word (b ∷ t)) (with_value (letters_word (b ∷ t)) v) v
letters_marked b t v d e =
    let n = up_to_none (b ∷ t) v e in
    record {
      same_name = rw d n;
      same_switches = rw d (ap (λ (x : Text). map Switch.Letter (letters x)) n);
      bare = rw d e;
      value = rw d (behind_none (b ∷ t) v e);
      dashed = refl;
      marked_dashed = refl;
    }

letter_marked : (char more v : Text) → IsLetter char → behind_equals more ≡ None → Marked (letters_word (char ++ more)) (with_value (letters_word (char ++ more)) v) v
letter_marked char more v l e =
    let b = bytes l.one l.no_dash l.no_equals in
    let f : behind_equals ((b.first ∷ b.others) ++ more) ≡ None = ap (λ (x : Text). behind_equals (x ++ more)) (sym b.is) ∙ free_behind char more b.free ∙ e in
    subst (λ (x : Text). Marked (letters_word (x ++ more)) (with_value (letters_word (x ++ more)) v) v) (sym b.is) (letters_marked b.first (b.others ++ more) v b.no_dash f)

-- Joined letters.

-- a letter's word, the word of the letters behind it, and the word of them all
record Joined (x y w : Text) : Type 0 where
  front : Switch
  next : Switch
  more : List Switch
  front_switches : switches x ≡ front ∷ []
  rest_switches : switches y ≡ next ∷ more
  all_switches : switches w ≡ front ∷ next ∷ more
  front_bare : attached x ≡ None
  same_attached : attached w ≡ attached y
  front_named : name x ≡ [] → ⊥
  rest_named : name y ≡ [] → ⊥
  all_named : name w ≡ [] → ⊥
  front_dashed : is_dashed x ≡ true
  rest_dashed : is_dashed y ≡ true
  all_dashed : is_dashed w ≡ true

-- the first switch of a run of two and more
record First (ps : List ParameterMeaning) (at : ℕ) (behind : Option Text) (vs : List Value) (s : Switch) (ss : List Switch) : Type 0 where
  option : Called
  calls : called ps s ≡ Some option
  true_alone : takes_true option.parameter ≡ true
  room : is_full option vs ≡ false
  run : Run ps at behind (vs ++ record { parameter = option.place; text = true_text; word = at } ∷ []) ss

first_of : {ps : List ParameterMeaning} {at : ℕ} {behind : Option Text} {vs : List Value} {s r : Switch} {ss : List Switch} → Run ps at behind vs (s ∷ r ∷ ss) → First ps at behind vs s (r ∷ ss)
first_of (Run.then {c = c} k t f u) = record { option = c; calls = k; true_alone = t; room = f; run = u }

-- a switch alone that takes no text
record Alone (ps : List ParameterMeaning) (vs : List Value) (s : Switch) : Type 0 where
  option : Called
  calls : called ps s ≡ Some option
  true_alone : takes_true option.parameter ≡ true
  room : is_full option vs ≡ false

alone_of : (ps : List ParameterMeaning) (at : ℕ) {vs : List Value} {s : Switch} → Run ps at None vs (s ∷ []) → last_wants ps at 0 (s ∷ []) ≡ Nobody → Alone ps vs s
alone_of ps at (Run.last_true {c = c} k t b f) q = record { option = c; calls = k; true_alone = t; room = f }
alone_of ps at (Run.last_attached k t b f) q = absurd (let z : ◌≡◌ {A = ℕ} 0 1 = cc in omega arith)
alone_of ps at (Run.last_waiting k t b) q = absurd (let h = rw (k, t) at q in let z : ◌≡◌ {A = ℕ} 0 1 = cc in omega arith)

module _ (ps : List ParameterMeaning) (x y w : Text) (m : Joined x y w) where
  abbrev later : List Switch
  later = m.next ∷ m.more

  -- the first letter's word gives `true`
  front_gives : (at : ℕ) (c : Called) → called ps m.front ≡ Some c → takes_true c.parameter ≡ true → run_gives ps at (attached x) (switches x) ≡ record { parameter = c.place; text = true_text; word = at } ∷ []
  front_gives at c k t = rw (m.front_bare, m.front_switches, k, t)

  to_apart : (n : ℕ) (before : List Given) → GivesWay ps n (switch_word w ∷ before) (switch_word y ∷ switch_word x ∷ before)
  to_apart n before (Roles.more rs (Fits.switch s d r)) =
      let at = reached n before in
      let vs = values ps n before in
      let run : Run ps at (attached y) vs (m.front ∷ later) = subst (λ (b : Option Text). Run ps at b vs (m.front ∷ later)) m.same_attached (subst (Run ps at (attached w) vs) m.all_switches r) in
      let h = first_of run in
      let c = h.option in
      let flag : Value = record { parameter = c.place; text = true_text; word = at } in
      let alone : Run ps at (attached x) vs (switches x) = subst (Run ps at (attached x) vs) (sym m.front_switches) (Run.last_true h.calls h.true_alone m.front_bare h.room) in
      let gives = front_gives at h.option h.calls h.true_alone in
      let nobody : wants ps n (switch_word x ∷ before) ≡ Nobody = rw (m.front_bare, m.front_switches, h.calls, h.true_alone) in
      let vs' : List Value = values ps n (switch_word x ∷ before) in
      let grown : vs ++ (flag ∷ []) ≡ vs' = ap (λ (l : List Value). vs ++ l) (sym gives) in
      let after : Run ps (suc at) (attached y) vs' (switches y) = subst (Run ps (suc at) (attached y) vs') (sym m.rest_switches) (run_alike ps at (suc at) (attached y) h.run vs' (ap worths grown)) in
      let all : values ps n (switch_word w ∷ before) ≡ (vs ++ (flag ∷ [])) ++ run_gives ps at (attached y) later =
      ap (λ (l : List Switch). vs ++ run_gives ps at (attached w) l) m.all_switches
      ∙ ap (λ (b : Option Text). vs ++ run_gives ps at b (m.front ∷ later)) m.same_attached
      ∙ rw (h.calls, h.true_alone) (sym (append_assoc vs (flag ∷ []) (run_gives ps at (attached y) later))) in
      let spaced : values ps n (switch_word y ∷ switch_word x ∷ before) ≡ vs' ++ run_gives ps (suc at) (attached y) later = ap (λ (l : List Switch). vs' ++ run_gives ps (suc at) (attached y) l) m.rest_switches in (
        Roles.more (Roles.more rs (Fits.switch (record { unclaimed = s.unclaimed; open! = s.open!; no_end = no_end_mark x m.front_named; dashed = m.front_dashed }) m.front_named alone))
            (Fits.switch (record { unclaimed = nobody; open! = s.open!; no_end = no_end_mark y m.rest_named; dashed = m.rest_dashed }) m.rest_named after),
        record {
          who = ap (λ (l : List Switch). whom (unless_attached (attached w) (last_wants ps at 0 l))) m.all_switches
              ∙ ap (λ (b : Option Text). whom (unless_attached b (last_wants ps at 1 later))) m.same_attached
              ∙ wait_alike ps (attached y) at (suc at) 1 0 later
              ∙ ap (λ (l : List Switch). whom (unless_attached (attached y) (last_wants ps (suc at) 0 l))) (sym m.rest_switches);
          end = refl;
          count = refl;
          same = ap worths all ∙ worths-append (vs ++ (flag ∷ [])) vs' (run_gives ps at (attached y) later) (run_gives ps (suc at) (attached y) later) (ap worths grown) (gives_alike ps at (suc at) (attached y) later) ∙ ap worths (sym spaced);
        },
      )

  from_apart : (n : ℕ) (before : List Given) → GivesWay ps n (switch_word y ∷ switch_word x ∷ before) (switch_word w ∷ before)
  from_apart n before (Roles.more (Roles.more rs (Fits.switch s d r)) (Fits.switch s2 d2 r2)) =
      let at = reached n before in
      let vs = values ps n before in
      let vs' : List Value = values ps n (switch_word x ∷ before) in
      let run : Run ps at None vs (m.front ∷ []) = subst (λ (b : Option Text). Run ps at b vs (m.front ∷ [])) m.front_bare (subst (Run ps at (attached x) vs) m.front_switches r) in
      let nobody : last_wants ps at 0 (m.front ∷ []) ≡ Nobody =
      ap (λ (b : Option Text). unless_attached b (last_wants ps at 0 (m.front ∷ []))) (sym m.front_bare)
      ∙ ap (λ (l : List Switch). unless_attached (attached x) (last_wants ps at 0 l)) (sym m.front_switches) ∙ s2.unclaimed in
      let h = alone_of ps at run nobody in
      let flag : Value = record { parameter = h.option.place; text = true_text; word = at } in
      let gives = front_gives at h.option h.calls h.true_alone in
      let grown : vs' ≡ vs ++ (flag ∷ []) = ap (λ (l : List Value). vs ++ l) gives in
      let behind : Run ps at (attached y) (vs ++ (flag ∷ [])) later = run_alike ps (suc at) at (attached y) (subst (Run ps (suc at) (attached y) vs') m.rest_switches r2) (vs ++ (flag ∷ [])) (ap worths grown) in
      let all : Run ps at (attached y) vs (m.front ∷ later) = Run.then h.calls h.true_alone h.room behind in
      let whole : Run ps at (attached w) vs (switches w) = subst (Run ps at (attached w) vs) (sym m.all_switches) (subst (λ (b : Option Text). Run ps at b vs (m.front ∷ later)) (sym m.same_attached) all) in
      let roles : Roles ps n (switch_word w ∷ before) = Roles.more rs (Fits.switch (record { unclaimed = s.unclaimed; open! = s.open!; no_end = no_end_mark w m.all_named; dashed = m.all_dashed }) m.all_named whole) in
      (roles, alike_back ps n (to_apart n before roles).1)

  joined_same : MeanTheSame ps (switch_word w ∷ []) (switch_word y ∷ switch_word x ∷ [])
  joined_same = mean_the_same ps (switch_word w ∷ []) (switch_word y ∷ switch_word x ∷ []) to_apart from_apart

-- the name and the switches of a word of letters
undash : (b : ℕ) (t : Text) → eqb b 45 ≡ false → (name (letters_word (b ∷ t)) ≡ up_to_equals (b ∷ t)) × (attached (letters_word (b ∷ t)) ≡ behind_equals (b ∷ t)) × (switches (letters_word (b ∷ t)) ≡ map Switch.Letter (letters (up_to_equals (b ∷ t))))
undash b t d = (rw d, rw d, rw d)

-- a word of letters that starts with a letter
record Starts (char more : Text) : Type 0 where
  named : name (letters_word (char ++ more)) ≡ char ++ up_to_equals more
  bare : attached (letters_word (char ++ more)) ≡ behind_equals more
  spelled : switches (letters_word (char ++ more)) ≡ Switch.Letter (code char) ∷ map Switch.Letter (letters (up_to_equals more))
  dashed : is_dashed (letters_word (char ++ more)) ≡ true
  some : name (letters_word (char ++ more)) ≡ [] → ⊥

starts : (char more : Text) → IsLetter char → Starts char more
starts char more l =
    let b = bytes l.one l.no_dash l.no_equals in
    let up = free_up_to char more b.free in
    let all = λ (z : Text). letters_word (z ++ more) in
    let u = undash b.first (b.others ++ more) b.no_dash in
    let named : name (all char) ≡ char ++ up_to_equals more = ap (λ (z : Text). name (all z)) b.is ∙ u.0 ∙ ap (λ (z : Text). up_to_equals (z ++ more)) (sym b.is) ∙ up in
    record {
      named = named;
      bare = ap (λ (z : Text). attached (all z)) b.is ∙ u.1 ∙ ap (λ (z : Text). behind_equals (z ++ more)) (sym b.is) ∙ free_behind char more b.free;
      spelled = ap (λ (z : Text). switches (all z)) b.is ∙ u.2 ∙ ap (λ (z : Text). map Switch.Letter (letters (up_to_equals (z ++ more)))) (sym b.is) ∙ ap (λ (z : Text). map Switch.Letter (letters z)) up ∙ ap (map Switch.Letter) (letters_char l.one (up_to_equals more));
      dashed = ap (λ (z : Text). is_dashed (all z)) b.is;
      some = λ q. (let e : (b.first ∷ b.others) ++ up_to_equals more ≡ [] = ap (λ (z : Text). z ++ up_to_equals more) (sym b.is) ∙ sym named ∙ q in let z : ◌≡◌ {A = ℕ} 0 1 = cc in omega arith);
    }

joined_by : (char next more : Text) → IsLetter char → IsLetter next → Joined (letters_word char) (letters_word (next ++ more)) (letters_word (char ++ (next ++ more)))
joined_by char next more l k =
    let one = subst (λ (z : Text). (name (letters_word z) ≡ char) × (attached (letters_word z) ≡ None) × (switches (letters_word z) ≡ Switch.Letter (code char) ∷ []) × (is_dashed (letters_word z) ≡ true) × (name (letters_word z) ≡ [] → ⊥)) (append-nil char) (let h = starts char [] l in (h.named ∙ append-nil char, h.bare, h.spelled, h.dashed, h.some)) in
    let rest = starts next more k in
    let all = starts char (next ++ more) l in
    let b = bytes k.one k.no_dash k.no_equals in
    let up : up_to_equals (next ++ more) ≡ next ++ up_to_equals more = free_up_to next more b.free in
    record {
      front = Switch.Letter (code char);
      next = Switch.Letter (code next);
      more = map Switch.Letter (letters (up_to_equals more));
      front_switches = one.2;
      rest_switches = rest.spelled;
      all_switches = all.spelled ∙ ap (λ (z : Text). Switch.Letter (code char) ∷ map Switch.Letter (letters z)) up ∙ ap (λ (z : List ℕ). Switch.Letter (code char) ∷ map Switch.Letter z) (letters_char k.one (up_to_equals more));
      front_bare = one.1;
      same_attached = all.bare ∙ free_behind next more b.free ∙ sym rest.bare;
      front_named = one.4;
      rest_named = rest.some;
      all_named = all.some;
      front_dashed = one.3;
      rest_dashed = rest.dashed;
      all_dashed = all.dashed;
    }

one_apart : (ps : List ParameterMeaning) (char next : Text) (chars : List Text) (more : Text) → IsLetter char → IsLetter next → MeanTheSame ps (switch_word (letters_word (char ++ joined next chars more)) ∷ []) (switch_word (letters_word (joined next chars more)) ∷ switch_word (letters_word char) ∷ [])
one_apart ps char next [] more l k = joined_same ps (letters_word char) (letters_word (next ++ more)) (letters_word (char ++ (next ++ more))) (joined_by char next more l k)
one_apart ps char next (third ∷ chars) more l k = joined_same ps (letters_word char) (letters_word (next ++ joined third chars more)) (letters_word (char ++ (next ++ joined third chars more))) (joined_by char next (joined third chars more) l k)

letters_apart : (ps : List ParameterMeaning) (char : Text) (chars : List Text) (more : Text) → IsLetter char → AllLetters chars → MeanTheSame ps (switch_word (letters_word (joined char chars more)) ∷ []) (apart char chars more)
letters_apart ps char [] more l ls = same_itself ps (switch_word (letters_word (char ++ more)) ∷ [])
letters_apart ps char (next ∷ chars) more l ls =
    same_then ps (switch_word (letters_word (char ++ joined next chars more)) ∷ []) (switch_word (letters_word char) ∷ []) (switch_word (letters_word (joined next chars more)) ∷ []) (apart next chars more)
    (one_apart ps char next chars more l ls.0)
    (letters_apart ps next chars more ls.0 ls.1)

pub spellings_stand : SpellingsStand
spellings_stand = record {
  long_value_or_equals = λ ps t v e. marked_same ps (long_word t) (with_value (long_word t) v) v (long_marked t v e);
  letter_value_or_equals = λ ps char more v l e. marked_same ps (letters_word (char ++ more)) (with_value (letters_word (char ++ more)) v) v (letter_marked char more v l e);
  joined_letters_or_apart = letters_apart;
}
