-- Arguments, defaults, Plus and Star. Assumes nothing.
use Rattle.std.proofs.Common.{◌≡◌, ℕ, zero, suc, ◌<◌, ◌≤◌, true, false, List, [], ◌∷◌, ◌++◌, map, length, take, is_some, Some, None, Option, sym, refl, ap, ◌∙◌, subst, append-nil, le_of_suc-le-suc, not-suc-le-zero, arith}
use Rattle.text.specs.Identifier.{Text}
use Rattle.register.specs.Meaning.{ParameterMeaning}
use Rattle.register.specs.declared.parameter.ParameterKind.TheVariants.{Star}
use Rattle.judge.specs.Meaning.{JudgeMeaning}
use Rattle.reading.specs.Signature.{Takes, Each, is_option, is_star, is_variadic, takes_true, may_be_empty}
use Rattle.reading.specs.Switches.{Switch, Called, called, attached, switches}
use Rattle.reading.specs.Reading.{Given, Value, Waiting, true_text, group, filled, reached, wants, attached_to, switch_gives, run_gives, value_for, role_gives, values, plains, one_more_plain, Fits, Roles, Ends, all_accepted, Served, Sound, LawfulOrder}
use Rattle.reading.specs.Reading.Waiting.{Nobody, For}
use Rattle.reading.specs.declared.role.Role.{Role}
use Rattle.reading.specs.declared.role.Role.TheVariants.{PlainWord}
use Rattle.reading.proofs.Runs.{split, clash}
use Rattle.reading.proofs.Words.{takes_is}
use Rattle.manual.specs.Orders.{text_of, Stands, At, texts_of, plain_count}
use Rattle.manual.specs.Arguments.{ArgumentLaws, ArgumentsStand}
use Rattle.manual.proofs.Places.{fits_at, plain_takes, goes_to, each_at, group-append, group_same, group_other, one_in_group, plains_grow, IsCalled, is_called, wants_called, same_at}

-- Which parameter takes a plain word.

pub takes_one : {ps : List ParameterMeaning} {i j k : ℕ} → Takes ps i j → Takes ps i k → j ≡ k
takes_one s t = let a = takes_is s in let b = takes_is t in cc

-- a Plus or Star that takes a word takes all further ones
pub takes_up : {ps : List ParameterMeaning} {i j : ℕ} → Takes ps i j → (p : ParameterMeaning) → At ps j p → is_variadic p.kind ≡ true → (m : ℕ) → i ≤ m → Takes ps m j
takes_up (Takes.pass e t) p a v m h = Takes.pass e (takes_up t p a v m h)
takes_up (Takes.first e) p a v zero h = Takes.first e
takes_up (Takes.first {p = q} e) p a v (suc m) h = let i : q ≡ p = cc in Takes.further e (rw i v)
takes_up (Takes.further e w) p a v zero h = absurd (not-suc-le-zero h)
takes_up (Takes.further e w) p a v (suc m) h = Takes.further e w
takes_up (Takes.next e w t) p a v zero h = absurd (not-suc-le-zero h)
takes_up (Takes.next e w t) p a v (suc m) h = Takes.next e w (takes_up t p a v m (le_of_suc-le-suc h))

-- where a Plus or Star is no option, each plain word is taken
takes_some : (ps : List ParameterMeaning) (k : ℕ) (p : ParameterMeaning) → At ps k p → is_option p ≡ false → is_variadic p.kind ≡ true → (i : ℕ) → (j : ℕ) × Takes ps i j
takes_some [] k p a o v i = absurd (let z : ◌≡◌ {A = ℕ} 0 1 = cc in omega arith)
takes_some (q ∷ ps) zero p a o v zero = let e : q ≡ p = cc in (0, Takes.first (rw e o))
takes_some (q ∷ ps) zero p a o v (suc i) = let e : q ≡ p = cc in (0, Takes.further (rw e o) (rw e v))
takes_some (q ∷ ps) (suc k) p a o v zero =
    split (is_option q)
    (λ t. let r = takes_some ps k p a o v zero in (suc r.0, Takes.pass t r.1))
    (λ f. (0, Takes.first f))
takes_some (q ∷ ps) (suc k) p a o v (suc i) =
    split (is_option q)
    (λ t. let r = takes_some ps k p a o v (suc i) in (suc r.0, Takes.pass t r.1))
    (λ f. split (is_variadic q.kind)
    (λ m. (0, Takes.further f m))
    (λ m. let r = takes_some ps k p a o v i in (suc r.0, Takes.next f m r.1)))

-- What stands in the group of a parameter that is no option.

module _ (ps : List ParameterMeaning) (n k : ℕ) (p : ParameterMeaning) (a : At ps k p) (o : is_option p ≡ false) where
  not_called : (c : Called) → IsCalled ps c → k ≡ c.place → ⊥
  not_called c i e = let s : c.parameter ≡ p = same_at ps k c.parameter p (rw e i.there) a in clash (sym i.option ∙ ap is_option s ∙ o)

  attached_none : (at : ℕ) (c : Called) (behind : Option Text) → IsCalled ps c → group k (attached_to at c behind) ≡ []
  attached_none at c None i = refl
  attached_none at c (Some v) i = group_other k (record { parameter = c.place; text = v; word = at }) (not_called c i)

  switch_none : (at : ℕ) (behind : Option Text) (s : Switch) (q : Option Called) → called ps s ≡ q → group k (switch_gives at behind q) ≡ []
  switch_none at behind s None e = refl
  switch_none at behind s (Some c) e =
      split (takes_true c.parameter)
      (λ t. rw t (group_other k (record { parameter = c.place; text = true_text; word = at }) (not_called c (is_called ps s c e))))
      (λ t. rw t (attached_none at c behind (is_called ps s c e)))

  run_none : (at : ℕ) (behind : Option Text) (ss : List Switch) → group k (run_gives ps at behind ss) ≡ []
  run_none at behind [] = refl
  run_none at behind (s ∷ ss) = group-append k (switch_gives at behind (called ps s)) (run_gives ps at behind ss) ∙ rw (switch_none at behind s (called ps s) refl, run_none at behind ss)

  waiting_none : (gs : List Given) (at : ℕ) (w : Text) (who : Waiting) → wants ps n gs ≡ who → group k (value_for at w who) ≡ []
  waiting_none gs at w Nobody e = refl
  waiting_none gs at w (For c from j) e = group_other k (record { parameter = c.place; text = w; word = at }) (not_called c (wants_called ps n gs c from j e).is_called)

  module _ (v : is_variadic p.kind ≡ false) where
    -- how many parameters before it are no options
    abbrev rank : ℕ
    rank = plain_count (take k ps)

    plain_rank : {i : ℕ} → Takes ps i k → rank ≡ i
    plain_rank t = let g = goes_to t in g.singular (rw (same_at ps k g.parameter p g.there a) v)

    plain_none : (gs : List Given) {j : ℕ} (at : ℕ) (w : Text) → Takes ps (plains gs) j → (rank ≡ plains gs → ⊥) → group k (record { parameter = j; text = w; word = at } ∷ []) ≡ []
    plain_none gs {j} at w t no! = group_other k (record { parameter = j; text = w; word = at }) (λ e. no! (plain_rank (subst (Takes ps (plains gs)) (sym e) t)))

    -- a word that is not its plain word adds nothing to its group
    gives_none : {gs : List Given} {w : Text} {r : Role} → Fits ps n gs w r → ((j : ℕ) → r ≡ PlainWord j → rank ≡ plains gs → ⊥) → group k (role_gives ps (reached n gs) (wants ps n gs) w r) ≡ []
    gives_none {gs} {w} (Fits.value e f) no! = waiting_none gs (reached n gs) w (wants ps n gs) refl
    gives_none (Fits.end e f d) no! = refl
    gives_none {gs} {w} (Fits.switch s d r) no! = run_none (reached n gs) (attached w) (switches w)
    gives_none {gs} {w} (Fits.plain {k = j} e d t) no! = plain_none gs (reached n gs) w t (no! j refl)

    more_none : {gs : List Given} {w : Text} {r : Role} → Fits ps n gs w r → ((j : ℕ) → r ≡ PlainWord j → rank ≡ plains gs → ⊥) → group k (values ps n (record { word = w; role = r } ∷ gs)) ≡ group k (values ps n gs)
    more_none {gs} {w} {r} f no! =
        group-append k (values ps n gs) (role_gives ps (reached n gs) (wants ps n gs) w r) ∙ ap (λ (x : List Value). group k (values ps n gs) ++ x) (gives_none f no!) ∙ append-nil (group k (values ps n gs))

    -- before its plain word, its group is empty
    empty_before : {gs : List Given} → Roles ps n gs → plains gs ≤ rank → group k (values ps n gs) ≡ []
    empty_before Roles.none h = refl
    empty_before (Roles.more {before} {w} {r} rs f) h =
        let g = plains_grow (record { word = w; role = r } ∷ []) before in
        more_none f (λ j e q. let l : suc (plains before) ≤ rank = subst (λ (x : Role). one_more_plain x (plains before) ≤ rank) e h in omega arith) ∙ empty_before rs (omega arith)

    -- behind it, its group stays as it is
    same_behind : (after base : List Given) → Roles ps n (after ++ base) → rank < plains base → group k (values ps n (after ++ base)) ≡ group k (values ps n base)
    same_behind [] base rs h = refl
    same_behind (g ∷ after) base (Roles.more rs f) h =
        let l = plains_grow after base in
        more_none f (λ j e q. omega arith) ∙ same_behind after base rs h

    whole_group : (after before : List Given) (w : Text) → Roles ps n (after ++ (record { word = w; role = PlainWord k } ∷ before)) → texts_of ps n (after ++ (record { word = w; role = PlainWord k } ∷ before)) k ≡ w ∷ []
    whole_group after before w rs =
        let f = fits_at ps n after before w (PlainWord k) rs in
        let e = plain_rank (plain_takes f.1) in
        let one : Value = record { parameter = k; text = w; word = reached n before } in
        ap (map text_of)
        (same_behind after (record { word = w; role = PlainWord k } ∷ before) rs (omega arith)
        ∙ group-append k (values ps n before) (one ∷ [])
        ∙ ap (λ (x : List Value). x ++ group k (one ∷ [])) (empty_before f.0 (omega arith))
        ∙ group_same k one refl)

-- The laws of a lawful order.

some_texts : (vs : List Value) → filled vs ≡ true → 1 ≤ length (map text_of vs)
some_texts [] e = absurd (clash (sym e))
some_texts (v ∷ vs) e = omega arith

-- a parameter that may not be empty is not
pub served_filled : (vs : List Value) (k : ℕ) (p : ParameterMeaning) → Served vs k p → p.default ≡ None → p.flag ≡ false → is_star p.kind ≡ false → filled (group k vs) ≡ true
served_filled vs k p s d f t = split (filled (group k vs)) (λ e. e) (λ e. absurd (clash (rw (e, d, f, t) at s)))

further_same : (ps : List ParameterMeaning) (n : ℕ) (before after earlier between : List Given) (u w : Text) (j k : ℕ) (p : ParameterMeaning) → Takes ps (plains earlier) j → Takes ps (plains before) k → Stands before earlier u (PlainWord j) between → At ps j p → is_variadic p.kind ≡ true → k ≡ j
further_same ps n before after earlier between u w j k p s t b a v =
    let g = plains_grow between (record { word = u; role = PlainWord j } ∷ earlier) in
    let e = ap plains b in
    takes_one t (takes_up s p a v (plains before) (omega arith))

ends_line : {ps : List ParameterMeaning} {n : ℕ} {given : List Given} {rest : List Text} → Ends ps n given rest → ((i : ℕ) → (j : ℕ) × Takes ps i j) → rest ≡ []
ends_line (Ends.line e) h = refl
ends_line {given = given} (Ends.homeless e no! l) h = let t = h (plains given) in absurd (l t.0 t.1)

module _ (ps : List ParameterMeaning) (judge : JudgeMeaning) (n : ℕ) (words : List Text) (given : List Given) (rest : List Text) (l : LawfulOrder ps judge n words given rest) where
  takes_at : (before after : List Given) (w : Text) (k : ℕ) → Stands given before w (PlainWord k) after → Roles ps n before × Takes ps (plains before) k
  takes_at before after w k s = let f = fits_at ps n after before w (PlainWord k) (subst (Roles ps n) s l.roles) in (f.0, plain_takes f.1)

  default_place : (before after : List Given) (w : Text) (k : ℕ) (p : ParameterMeaning) → Stands given before w (PlainWord k) after → At ps k p → is_variadic p.kind ≡ false → texts_of ps n given k ≡ w ∷ []
  default_place before after w k p s a v =
      let g = goes_to (takes_at before after w k s).1 in
      let o : is_option p ≡ false = ap is_option (sym (same_at ps k g.parameter p g.there a)) ∙ g.no_option in
      ap (λ (x : List Given). texts_of ps n x k) s ∙ whole_group ps n k p a o v after before w (subst (Roles ps n) s l.roles)

  needed : (k : ℕ) (p : ParameterMeaning) → At ps k p → p.default ≡ None → p.flag ≡ false → is_star p.kind ≡ false → 1 ≤ length (texts_of ps n given k)
  needed k p a d f t =
      let vs = values ps n given in
      let s : Served vs k p = subst (λ (x : ℕ). Served vs x p) (omega arith) (each_at (Served vs) 0 ps k p l.served a) in
      some_texts (group k vs) (served_filled vs k p s d f t)

  further : (before after earlier between : List Given) (u w : Text) (j k : ℕ) (p : ParameterMeaning) → Stands given before w (PlainWord k) after → Stands before earlier u (PlainWord j) between → At ps j p → is_variadic p.kind ≡ true → k ≡ j
  further before after earlier between u w j k p s b a v =
      let t = takes_at before after w k s in
      let e = fits_at ps n between earlier u (PlainWord j) (subst (Roles ps n) b t.0) in
      further_same ps n before after earlier between u w j k p (plain_takes e.1) t.1 b a v

  argument_laws : ArgumentLaws ps n given rest
  argument_laws = record {
    plain_words_in_sequence = λ before after w k s. goes_to (takes_at before after w k s).1;
    argument_in_group = λ before after w k s. let h = one_in_group ps n after (record { word = w; role = PlainWord k } ∷ before) (values ps n before) (record { parameter = k; text = w; word = reached n before }) refl in (h.0, ap (λ (x : List Given). texts_of ps n x k) s ∙ h.1);
    argument_for_default = default_place;
    not_left_out = needed;
    plus_one_or_more = λ k p a e d f. needed k p a d f (ap is_star e);
    variadic_takes_further = further;
    variadic_to_line_end = λ k p a o v. ends_line l.ends (takes_some ps k p a o v);
  }

-- Counts.

-- an empty group keeps every rule but that it may be empty
empty_sound : (judge : JudgeMeaning) (vs : List Value) (k : ℕ) (p : ParameterMeaning) → group k vs ≡ [] → Sound judge vs k p
empty_sound judge vs k p e c = absurd (clash (sym c ∙ rw e (split p.value (λ t. rw t) (λ f. rw f))))

may_served : (vs : List Value) (k : ℕ) (p : ParameterMeaning) → may_be_empty p ≡ true → Served vs k p
may_served vs k p m = rw m (split (filled (group k vs)) (λ t. rw t) (λ f. rw f))

star_may : (p : ParameterMeaning) → p.kind ≡ Star → may_be_empty p ≡ true
star_may p e = rw e (split (is_some p.default) (λ t. rw t) (λ f. rw f (split p.flag (λ t. rw t) (λ g. rw g))))

all_accepted_lem : (judge : JudgeMeaning) (vs : List Value) → all_accepted judge None vs ≡ true
all_accepted_lem judge [] = refl
all_accepted_lem judge (v ∷ vs) = all_accepted_lem judge vs

each_served : (k : ℕ) (ps : List ParameterMeaning) → Each (λ _ p. may_be_empty p ≡ true) k ps → Each (Served []) k ps
each_served k [] e = tt
each_served k (p ∷ ps) e = (may_served [] k p e.0, each_served (suc k) ps e.1)

each_sound : (judge : JudgeMeaning) (k : ℕ) (ps : List ParameterMeaning) → Each (Sound judge []) k ps
each_sound judge k [] = tt
each_sound judge k (p ∷ ps) = (empty_sound judge [] k p refl, each_sound judge (suc k) ps)

pub arguments_stand : ArgumentsStand
arguments_stand = record {
  orders = argument_laws;
  counts = record {
    default_left_out = λ judge vs k p d e. (may_served vs k p (rw d), empty_sound judge vs k p e);
    all_left_out = λ ps judge n e. record { cut = refl; roles = Roles.none; ends = Ends.line refl; served = each_served 0 ps e; sound = each_sound judge 0 ps };
    star_any_number = λ judge vs k p e a b c. (may_served vs k p (star_may p e), λ _. record { least = rw a; most = rw b; pattern = rw c (all_accepted_lem judge (group k vs)) });
  };
}
