-- Options and flags. Assumes nothing.
use Rattle.std.proofs.Common.{◌≡◌, ℕ, suc, ◌≤◌, Bool, true, false, cond, eqb, List, [], ◌∷◌, ◌++◌, map, length, Some, None, Option, sym, refl, ap, ◌∙◌, subst, append_assoc, append-nil, arith, length-append}
use mathlib.Core.List.{map-append}
use Rattle.std.proofs.lemmas.List.{length-map}
use Rattle.std.proofs.lemmas.Bool.{eqb-true, eq-eqb}
use Rattle.text.specs.Identifier.{Text}
use Rattle.register.specs.Meaning.{ParameterMeaning}
use Rattle.reading.specs.Signature.{Takes, is_option, is_variadic, takes_true, holds_several}
use Rattle.reading.specs.Switches.{Switch, Called, called, attached, switches}
use Rattle.reading.specs.Reading.{Given, Value, Waiting, true_text, group, filled, is_full, reached, wants, last_wants, attached_to, switch_gives, run_gives, value_for, values, Run, Fits, Roles}
use Rattle.reading.specs.Reading.Waiting.{Nobody, For}
use Rattle.reading.specs.declared.role.Role.TheVariants.{SwitchWord, SwitchValue}
use Rattle.reading.proofs.Runs.{split, clash}
use Rattle.manual.specs.Orders.{text_of, Stands, At, texts_of}
use Rattle.manual.specs.Options.{AllTrue, TakesNoValue, HasNoValue, OptionsStand}
use Rattle.manual.proofs.Places.{fits_at, goes_to, group-append, group_same, group_other, values_grow, one_in_group, IsCalled, is_called, wants_called, same_at}
use Rattle.manual.proofs.Arguments.{arguments_stand}

-- two cases of a value's parameter
by_place : {C : Type 0} (k : ℕ) (v : Value) → (k ≡ v.parameter → C) → ((k ≡ v.parameter → ⊥) → C) → C
by_place k v f g = split (eqb k v.parameter) (λ t. f (eqb-true k v.parameter t)) (λ e. g (λ q. clash (sym (eq-eqb k v.parameter q) ∙ e)))

not_filled : (vs : List Value) → filled vs ≡ false → vs ≡ []
not_filled [] e = refl
not_filled (v ∷ vs) e = absurd (clash e)

module _ (ps : List ParameterMeaning) (n k : ℕ) (p : ParameterMeaning) (a : At ps k p) (o : is_option p ≡ true) where
  not_plain : {i j : ℕ} → Takes ps i j → k ≡ j → ⊥
  not_plain {i} {j} t e =
      let g = goes_to t in
      let s : g.parameter ≡ p = same_at ps k g.parameter p (subst (λ (x : ℕ). At ps x g.parameter) (sym e) g.there) a in
      clash (sym o ∙ ap is_option (sym s) ∙ g.no_option)

  is_it : (c : Called) → IsCalled ps c → k ≡ c.place → c.parameter ≡ p
  is_it c i e = same_at ps k c.parameter p (subst (λ (x : ℕ). At ps x c.parameter) (sym e) i.there) a

  -- At most once.

  module _ (h : holds_several p ≡ false) where
    add-one : (vs : List Value) (v : Value) (c : Called) → IsCalled ps c → is_full c vs ≡ false → v.parameter ≡ c.place → length (group k vs) ≤ 1 → length (group k (vs ++ v ∷ [])) ≤ 1
    add-one vs v c i f e l =
        by_place k v
        (λ q. let s = is_it c i (q ∙ e) in
        let m : holds_several c.parameter ≡ false = ap holds_several s ∙ h in
        let g : filled (group c.place vs) ≡ false = rw m at f in
        let z : group k vs ≡ [] = not_filled (group k vs) (ap (λ (x : ℕ). filled (group x vs)) (q ∙ e) ∙ g) in
        let y = group-append k vs (v ∷ []) ∙ ap (λ (x : List Value). x ++ group k (v ∷ [])) z ∙ group_same k v (sym q) in
        let len = ap length y in omega arith)
        (λ no!. let y = group-append k vs (v ∷ []) ∙ ap (λ (x : List Value). group k vs ++ x) (group_other k v no!) ∙ append-nil (group k vs) in
        let len = ap length y in omega arith)

    once_run : (at : ℕ) (behind : Option Text) {vs : List Value} {ss : List Switch} → Run ps at behind vs ss → length (group k vs) ≤ 1 → length (group k (vs ++ run_gives ps at behind ss)) ≤ 1
    once_run at behind (Run.last_true {vs} {s} {c} e t b f) l = rw (e, t) (add-one vs (record { parameter = c.place; text = true_text; word = at }) c (is_called ps s c e) f refl l)
    once_run at behind (Run.last_attached {vs} {s} {c} {v} e t b f) l = rw (e, t, b) (add-one vs (record { parameter = c.place; text = v; word = at }) c (is_called ps s c e) f refl l)
    once_run at behind (Run.last_waiting {vs} {s} {c} e t b) l = rw (e, t, b, append-nil vs) l
    once_run at behind (Run.then {vs} {s} {r} {ss} {c} e t f u) l =
        let x : Value = record { parameter = c.place; text = true_text; word = at } in
        let g = once_run at behind u (add-one vs x c (is_called ps s c e) f refl l) in
        rw (e, t) (subst (λ (y : List Value). length (group k y) ≤ 1) (append_assoc vs (x ∷ []) (run_gives ps at behind (r ∷ ss))) g)

    once : {gs : List Given} → Roles ps n gs → length (group k (values ps n gs)) ≤ 1
    once Roles.none = omega arith
    once (Roles.more {before = gs} {w = w} rs (Fits.value {c} {at} {j} e f)) =
        rw e (add-one (values ps n gs) (record { parameter = c.place; text = w; word = reached n gs }) c (wants_called ps n gs c at j e).is_called f refl (once rs))
    once (Roles.more {before = gs} rs (Fits.end e d m)) = rw (append-nil (values ps n gs)) (once rs)
    once (Roles.more {before = gs} {w = w} rs (Fits.switch s d r)) = once_run (reached n gs) (attached w) r (once rs)
    once (Roles.more {before = gs} {w = w} rs (Fits.plain {k = j} e d t)) =
        let x : Value = record { parameter = j; text = w; word = reached n gs } in
        let y = group-append k (values ps n gs) (x ∷ []) ∙ ap (λ (z : List Value). group k (values ps n gs) ++ z) (group_other k x (not_plain t)) ∙ append-nil (group k (values ps n gs)) in
        let len = ap length y in let h = once rs in omega arith

  -- Nothing but `true`.

  module _ (h : takes_true p ≡ true) where
    other_parameter : (c : Called) → IsCalled ps c → takes_true c.parameter ≡ false → k ≡ c.place → ⊥
    other_parameter c i t e = clash (sym h ∙ ap takes_true (sym (is_it c i e)) ∙ t)

    attached_true : (at : ℕ) (c : Called) (behind : Option Text) → IsCalled ps c → takes_true c.parameter ≡ false → group k (attached_to at c behind) ≡ []
    attached_true at c None i t = refl
    attached_true at c (Some v) i t = group_other k (record { parameter = c.place; text = v; word = at }) (other_parameter c i t)

    one_true : (at : ℕ) (c : Called) → AllTrue (map text_of (group k (record { parameter = c.place; text = true_text; word = at } ∷ [])))
    one_true at c =
        let v : Value = record { parameter = c.place; text = true_text; word = at } in
        by_place k v (λ e. rw (group_same k v (sym e)) (refl, tt)) (λ no!. rw (group_other k v no!) tt)

    switch_true : (at : ℕ) (behind : Option Text) (s : Switch) (q : Option Called) → called ps s ≡ q → AllTrue (map text_of (group k (switch_gives at behind q)))
    switch_true at behind s None e = tt
    switch_true at behind s (Some c) e =
        split (takes_true c.parameter)
        (λ t. rw t (one_true at c))
        (λ t. rw (t, attached_true at c behind (is_called ps s c e) t) tt)

    all_true_append : (xs ys : List Text) → AllTrue xs → AllTrue ys → AllTrue (xs ++ ys)
    all_true_append [] ys a b = b
    all_true_append (x ∷ xs) ys a b = (a.0, all_true_append xs ys a.1 b)

    group_true : (vs us : List Value) → AllTrue (map text_of (group k vs)) → AllTrue (map text_of (group k us)) → AllTrue (map text_of (group k (vs ++ us)))
    group_true vs us a b = rw (group-append k vs us, map-append text_of (group k vs) (group k us)) (all_true_append (map text_of (group k vs)) (map text_of (group k us)) a b)

    run_true : (at : ℕ) (behind : Option Text) (ss : List Switch) → AllTrue (map text_of (group k (run_gives ps at behind ss)))
    run_true at behind [] = tt
    run_true at behind (s ∷ ss) = group_true (switch_gives at behind (called ps s)) (run_gives ps at behind ss) (switch_true at behind s (called ps s) refl) (run_true at behind ss)

    all_true : {gs : List Given} → Roles ps n gs → AllTrue (texts_of ps n gs k)
    all_true Roles.none = tt
    all_true (Roles.more {before = gs} {w = w} rs (Fits.value {c} {at} {j} e f)) =
        let v : Value = record { parameter = c.place; text = w; word = reached n gs } in
        let i = wants_called ps n gs c at j e in
        rw e (group_true (values ps n gs) (v ∷ []) (all_true rs) (rw (group_other k v (other_parameter c i.is_called i.takes_text)) tt))
    all_true (Roles.more {before = gs} rs (Fits.end e d m)) = rw (append-nil (values ps n gs)) (all_true rs)
    all_true (Roles.more {before = gs} {w = w} rs (Fits.switch s d r)) = group_true (values ps n gs) (run_gives ps (reached n gs) (attached w) (switches w)) (all_true rs) (run_true (reached n gs) (attached w) (switches w))
    all_true (Roles.more {before = gs} {w = w} rs (Fits.plain {k = j} e d t)) =
        let v : Value = record { parameter = j; text = w; word = reached n gs } in
        group_true (values ps n gs) (v ∷ []) (all_true rs) (rw (group_other k v (not_plain t)) tt)

-- Switches of a word.

no_list : (front : List Switch) (s : Switch) (more : List Switch) → [] ≡ front ++ (s ∷ more) → ⊥
no_list [] s more e = let z : ◌≡◌ {A = ℕ} 0 1 = cc in omega arith
no_list (x ∷ front) s more e = let z : ◌≡◌ {A = ℕ} 0 1 = cc in omega arith

single : {x : Switch} (front : List Switch) (s r : Switch) (more : List Switch) → x ∷ [] ≡ front ++ (s ∷ r ∷ more) → ⊥
single [] s r more q = let z : [] ≡ r ∷ more = cc in let y : ◌≡◌ {A = ℕ} 0 1 = cc in omega arith
single (y ∷ front) s r more q = no_list front s (r ∷ more) (cc)

module _ (ps : List ParameterMeaning) where
  -- a last switch that takes no value has none behind `=`
  last_bare : (at : ℕ) (behind : Option Text) {vs : List Value} {ss : List Switch} → Run ps at behind vs ss → (front : List Switch) (s : Switch) → ss ≡ front ++ (s ∷ []) → TakesNoValue ps s → behind ≡ None
  last_bare at behind (Run.last_true e t b f) front s q h = b
  last_bare at behind (Run.last_attached {s = x} {c = c} e t b f) [] s q h =
      let i : x ≡ s = cc in
      let j : Some c ≡ Some h.option = sym e ∙ ap (called ps) i ∙ h.calls in
      let m : c ≡ h.option = cc in
      absurd (clash (sym h.true_alone ∙ ap (λ (y : Called). takes_true y.parameter) (sym m) ∙ t))
  last_bare at behind (Run.last_attached {s = x} e t b f) (y ∷ front) s q h = absurd (no_list front s [] (cc))
  last_bare at behind (Run.last_waiting e t b) front s q h = b
  last_bare at behind (Run.then {s = x} {r = r} {ss = ss} e t f u) [] s q h = absurd (let z : r ∷ ss ≡ [] = cc in let y : ◌≡◌ {A = ℕ} 0 1 = cc in omega arith)
  last_bare at behind (Run.then {s = x} {r = r} {ss = ss} e t f u) (y ∷ front) s q h = last_bare at behind u front s (cc) h

  -- behind such a switch nobody waits
  last_nobody : (at j : ℕ) (front : List Switch) (s : Switch) → TakesNoValue ps s → last_wants ps at j (front ++ (s ∷ [])) ≡ Nobody
  last_nobody at j [] s h = rw (h.calls, h.true_alone)
  last_nobody at j (x ∷ []) s h = rw (h.calls, h.true_alone)
  last_nobody at j (x ∷ y ∷ front) s h = last_nobody at (suc j) (y ∷ front) s h

  -- a switch that is not last takes no value
  not_last : (at : ℕ) (behind : Option Text) {vs : List Value} {ss : List Switch} → Run ps at behind vs ss → (front : List Switch) (s r : Switch) (more : List Switch) → ss ≡ front ++ (s ∷ r ∷ more) → TakesNoValue ps s
  not_last at behind (Run.last_true e t b f) front s r more q = absurd (single front s r more q)
  not_last at behind (Run.last_attached e t b f) front s r more q = absurd (single front s r more q)
  not_last at behind (Run.last_waiting e t b) front s r more q = absurd (single front s r more q)
  not_last at behind (Run.then {s = x} {c = c} e t f u) [] s r more q = let i : x ≡ s = cc in record { option = c; calls = ap (called ps) (sym i) ∙ e; true_alone = t }
  not_last at behind (Run.then e t f u) (y ∷ front) s r more q = not_last at behind u front s r more (cc)

-- a switch that takes no value gives `true` to its option
run_has : (ps : List ParameterMeaning) (at : ℕ) (behind : Option Text) (front : List Switch) (s : Switch) (more : List Switch) (h : TakesNoValue ps s) → 1 ≤ length (group h.option.place (run_gives ps at behind (front ++ (s ∷ more))))
run_has ps at behind [] s more h =
    let k = h.option.place in
    let v : Value = record { parameter = k; text = true_text; word = at } in
    let e : group k (run_gives ps at behind (s ∷ more)) ≡ v ∷ group k (run_gives ps at behind more) =
    group-append k (switch_gives at behind (called ps s)) (run_gives ps at behind more)
    ∙ ap (λ (x : Option Called). group k (switch_gives at behind x) ++ group k (run_gives ps at behind more)) h.calls
    ∙ ap (λ (b : Bool). group k (cond b (v ∷ []) (attached_to at h.option behind)) ++ group k (run_gives ps at behind more)) h.true_alone
    ∙ ap (λ (x : List Value). x ++ group k (run_gives ps at behind more)) (group_same k v refl) in
    let l = ap length e in omega arith
run_has ps at behind (x ∷ front) s more h =
    let k = h.option.place in
    let i = run_has ps at behind front s more h in
    let e = group-append k (switch_gives at behind (called ps x)) (run_gives ps at behind (front ++ (s ∷ more))) in
    let l = ap length e in
    let m = length-append (group k (switch_gives at behind (called ps x))) (group k (run_gives ps at behind (front ++ (s ∷ more)))) in
    omega arith

has_given : (ps : List ParameterMeaning) (n : ℕ) (after before : List Given) (w : Text) (front : List Switch) (s : Switch) (more : List Switch) (h : TakesNoValue ps s) → switches w ≡ front ++ (s ∷ more) → 1 ≤ length (texts_of ps n (after ++ (record { word = w; role = SwitchWord } ∷ before)) h.option.place)
has_given ps n after before w front s more h q =
    let k = h.option.place in
    let vs = values ps n before in
    let us = run_gives ps (reached n before) (attached w) (switches w) in
    let g = values_grow ps n after (record { word = w; role = SwitchWord } ∷ before) in
    let all = values ps n (after ++ (record { word = w; role = SwitchWord } ∷ before)) in
    let i : 1 ≤ length (group k us) = subst (λ (x : List Switch). 1 ≤ length (group k (run_gives ps (reached n before) (attached w) x))) (sym q) (run_has ps (reached n before) (attached w) front s more h) in
    let a = ap length (ap (group k) g.1 ∙ group-append k (vs ++ us) g.0) in
    let b = length-append (group k (vs ++ us)) (group k g.0) in
    let c = ap length (group-append k vs us) in
    let d = length-append (group k vs) (group k us) in
    let e = length-map (group k all) text_of in
    omega arith

-- the value of a switch stands in its option's group
value_has : (ps : List ParameterMeaning) (n : ℕ) (after before : List Given) (v : Text) (c : Called) (at j : ℕ) → wants ps n before ≡ For c at j → (more : List Text) × (texts_of ps n (after ++ (record { word = v; role = SwitchValue } ∷ before)) c.place ≡ texts_of ps n before c.place ++ (v ∷ more))
value_has ps n after before v c at j e = one_in_group ps n after (record { word = v; role = SwitchValue } ∷ before) (values ps n before) (record { parameter = c.place; text = v; word = reached n before }) (ap (λ (x : Waiting). values ps n before ++ value_for (reached n before) v x) e)

-- what stands in a list of one at most is all of it
all_of_one : (all front : List Text) (v : Text) (more : List Text) → all ≡ front ++ (v ∷ more) → length all ≤ 1 → all ≡ v ∷ []
all_of_one all [] v [] e h = e
all_of_one all [] v (x ∷ more) e h = let l = ap length e in absurd (omega arith)
all_of_one all (x ∷ front) v more e h = let l = ap length e in let m = length-append front (v ∷ more) in absurd (omega arith)

run_of : {ps : List ParameterMeaning} {n : ℕ} {before : List Given} {w : Text} → Fits ps n before w SwitchWord → Run ps (reached n before) (attached w) (values ps n before) (switches w)
run_of (Fits.switch s d r) = r

value_waits : {ps : List ParameterMeaning} {n : ℕ} {before : List Given} {w : Text} → Fits ps n before w SwitchValue → wants ps n before ≡ Nobody → ⊥
value_waits (Fits.value e f) q = let z : ◌≡◌ {A = ℕ} 0 1 = cc in omega arith

no_value : (ps : List ParameterMeaning) (n : ℕ) (before : List Given) (w : Text) (front : List Switch) (s : Switch) → Fits ps n before w SwitchWord → switches w ≡ front ++ (s ∷ []) → TakesNoValue ps s → HasNoValue ps n before w
no_value ps n before w front s f q h =
    let b = last_bare ps (reached n before) (attached w) (run_of f) front s q h in
    record { not_attached = b; not_next = λ next v. value_waits v (rw (b, q) (last_nobody ps (reached n before) 0 front s h)) }

at_most_once : (ps : List ParameterMeaning) (n : ℕ) (given : List Given) → Roles ps n given → (k : ℕ) (p : ParameterMeaning) → At ps k p → is_option p ≡ true → is_variadic p.kind ≡ false → p.multiple ≡ false → length (texts_of ps n given k) ≤ 1
at_most_once ps n given rs k p a o v m = let h = once ps n k p a o (rw (v, m)) rs in let e = length-map (group k (values ps n given)) text_of in omega arith

whole_value : (ps : List ParameterMeaning) (n : ℕ) (given : List Given) → Roles ps n given → (before after : List Given) (v : Text) (c : Called) (at j : ℕ) → Stands given before v SwitchValue after → wants ps n before ≡ For c at j → is_variadic c.parameter.kind ≡ false → c.parameter.multiple ≡ false → texts_of ps n given c.place ≡ v ∷ []
whole_value ps n given rs before after v c at j s e f m =
    let i = (wants_called ps n before c at j e).is_called in
    let h = value_has ps n after before v c at j e in
    all_of_one (texts_of ps n given c.place) (texts_of ps n before c.place) v h.0 (ap (λ (x : List Given). texts_of ps n x c.place) s ∙ h.1) (at_most_once ps n given rs c.place c.parameter i.there i.option f m)

pub options_stand : OptionsStand
options_stand ps judge n words given rest l =
    let fits = λ (before after : List Given) (w : Text) (s : Stands given before w SwitchWord after). (fits_at ps n after before w SwitchWord (subst (Roles ps n) s l.roles)).1 in
    record {
      option_must_be_given = λ k p a o d f t. (arguments_stand.orders ps judge n words given rest l).not_left_out k p a d f t;
      option_at_most_once = at_most_once ps n given l.roles;
      value_for_default = whole_value ps n given l.roles;
      flag_gives_true = λ k p a o t. all_true ps n k p a o t l.roles;
      flag_is_given = λ before after w front s more at q h. subst (λ (x : List Given). 1 ≤ length (texts_of ps n x h.option.place)) (sym at) (has_given ps n after before w front s more h q);
      flag_takes_no_value = λ before after w front s at q h. no_value ps n before w front s (fits before after w at) q h;
      all_but_last_take_no_value = λ before after w front s r more at q. not_last ps (reached n before) (attached w) (run_of (fits before after w at)) front s r more q;
    }
