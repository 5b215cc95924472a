-- The counts: each rule of the parameters is the graph of a check. Assumes nothing.
use Rattle.std.proofs.Common.{◌≡◌, ℕ, suc, Bool, true, false, cond, List, [], ◌∷◌, length, Some, None, Option, sym, refl, ◌∙◌, subst}
use Rattle.std.proofs.lemmas.Bool.{or_parts}
use Rattle.refusal.specs.declared.Refusal.{Refusal}
use Rattle.refusal.specs.declared.Refusal.TheVariants.{PositionalArgumentCountMismatch, ArgumentPatternMismatch}
use Rattle.register.specs.Meaning.{ParameterMeaning}
use Rattle.judge.specs.Meaning.{JudgeMeaning}
use Rattle.reading.specs.Signature.{Each, is_option, required_plain}
use Rattle.reading.specs.Reading.{Given, Value, group, values, plains, is_missing, is_checked, Served, at_least, at_most, accepted, all_accepted, Sound}
use Rattle.reading.specs.Faults.{First, OptionServed, OptionMissing, Rejected, Unsound, Miscounted}
use Rattle.reading.specs.Model.{else!, first_of, check_option, any_missing, check_plain, check_pattern, check_sound, tally}
use Rattle.reading.proofs.Runs.{split, clash}

-- a check's answer, with its reason
abbrev pub Says : Type 0 → (Refusal → Type 0) → Option Refusal → Type 0
Says good bad None = good
Says good bad (Some f) = bad f

says : (G : Type 0) (B : Refusal → Type 0) (b : Bool) (x y : Option Refusal) → (b ≡ true → Says G B x) → (b ≡ false → Says G B y) → Says G B (cond b x y)
says G B true x y f g = f refl
says G B false x y f g = g refl

-- a check finds what breaks a rule
record Finds (good : ℕ → ParameterMeaning → Type 0) (bad : ℕ → ParameterMeaning → Refusal → Type 0) (check : ℕ → ParameterMeaning → Option Refusal) : Type 0 where
  good_is : (k : ℕ) (p : ParameterMeaning) → good k p → check k p ≡ None
  bad_is : (k : ℕ) (p : ParameterMeaning) (f : Refusal) → bad k p f → check k p ≡ Some f
  does : (k : ℕ) (p : ParameterMeaning) → Says (good k p) (bad k p) (check k p)

module _ (good : ℕ → ParameterMeaning → Type 0) (bad : ℕ → ParameterMeaning → Refusal → Type 0) (check : ℕ → ParameterMeaning → Option Refusal) (h : Finds good bad check) where
  each-is : (k : ℕ) (ps : List ParameterMeaning) → Each good k ps → first_of check k ps ≡ None
  each-is k [] e = refl
  each-is k (p ∷ ps) e = rw (h.good_is k p e.0) (each-is (suc k) ps e.1)

  first-is : {k : ℕ} {ps : List ParameterMeaning} {f : Refusal} → First good bad k ps f → first_of check k ps ≡ Some f
  first-is (First.here {k} {p} {f = f} b) = rw (h.bad_is k p f b)
  first-is (First.later {k} {p} g r) = rw (h.good_is k p g) (first-is r)

  first_join : (k : ℕ) (p : ParameterMeaning) (ps : List ParameterMeaning) (o q : Option Refusal) → Says (good k p) (bad k p) o → Says (Each good (suc k) ps) (First good bad (suc k) ps) q → Says (Each good k (p ∷ ps)) (First good bad k (p ∷ ps)) (else! o q)
  first_join k p ps None None g e = (g, e)
  first_join k p ps None (Some f) g e = First.later g e
  first_join k p ps (Some f) q b e = First.here b

  first_does : (k : ℕ) (ps : List ParameterMeaning) → Says (Each good k ps) (First good bad k ps) (first_of check k ps)
  first_does k [] = tt
  first_does k (p ∷ ps) = first_join k p ps (check k p) (first_of check (suc k) ps) (h.does k p) (first_does (suc k) ps)

-- Options.

option_bad : (vs : List Value) (k : ℕ) (p : ParameterMeaning) (f : Refusal) → OptionMissing vs k p f → check_option vs k p ≡ Some f
option_bad vs k p f (OptionMissing.missing o m) = rw (o, m)

option_does : (vs : List Value) (k : ℕ) (p : ParameterMeaning) → Says (OptionServed vs k p) (OptionMissing vs k p) (check_option vs k p)
option_does vs k p =
    let by = says (OptionServed vs k p) (OptionMissing vs k p) in
    by (is_option p) _ _
    (λ o. by (is_missing vs k p) _ _ (λ m. OptionMissing.missing o m) (λ m _. m))
    (λ o e. absurd (clash (sym e ∙ o)))

option_finds : (vs : List Value) → Finds (OptionServed vs) (OptionMissing vs) (check_option vs)
option_finds vs = record {
  good_is = λ k p g. split (is_option p) (λ o. rw (o, g o)) (λ o. rw o);
  bad_is = option_bad vs;
  does = option_does vs;
}

-- Each parameter is served, or one is missing.

served_is : (vs : List Value) (k : ℕ) (ps : List ParameterMeaning) → Each (Served vs) k ps → any_missing vs k ps ≡ false
served_is vs k [] e = refl
served_is vs k (p ∷ ps) e = rw e.0 (served_is vs (suc k) ps e.1)

served_does : (vs : List Value) (k : ℕ) (ps : List ParameterMeaning) → any_missing vs k ps ≡ false → Each (Served vs) k ps
served_does vs k [] e = tt
served_does vs k (p ∷ ps) e = let h = or_parts (is_missing vs k p) (any_missing vs (suc k) ps) e in (h.0, served_does vs (suc k) ps h.1)

-- Values.

-- the first value that is not accepted, told of the parameter at place k
abbrev Mismatch : JudgeMeaning → ℕ → Option ℕ → List Value → Refusal → Type 0
Mismatch judge k pattern vs f = (at : ℕ) × Rejected judge pattern vs at × (f ≡ ArgumentPatternMismatch at k)

pattern_good : (judge : JudgeMeaning) (k : ℕ) (pattern : Option ℕ) (vs : List Value) → all_accepted judge pattern vs ≡ true → check_pattern judge k pattern vs ≡ None
pattern_good judge k pattern [] e = refl
pattern_good judge k pattern (v ∷ vs) e = split (accepted judge pattern v) (λ a. rw a (pattern_good judge k pattern vs (rw a at e))) (λ a. absurd (clash (sym (rw a at e))))

pattern_bad : (judge : JudgeMeaning) (k : ℕ) (pattern : Option ℕ) {vs : List Value} {at : ℕ} → Rejected judge pattern vs at → check_pattern judge k pattern vs ≡ Some (ArgumentPatternMismatch at k)
pattern_bad judge k pattern (Rejected.here a) = rw a
pattern_bad judge k pattern (Rejected.later a r) = rw a (pattern_bad judge k pattern r)

pattern_later : (judge : JudgeMeaning) (k : ℕ) (pattern : Option ℕ) (v : Value) (vs : List Value) → accepted judge pattern v ≡ true → (o : Option Refusal) → Says (all_accepted judge pattern vs ≡ true) (Mismatch judge k pattern vs) o → Says (all_accepted judge pattern (v ∷ vs) ≡ true) (Mismatch judge k pattern (v ∷ vs)) o
pattern_later judge k pattern v vs a None h = rw a h
pattern_later judge k pattern v vs a (Some f) h = (h.0, Rejected.later a h.1, h.2)

pattern_does : (judge : JudgeMeaning) (k : ℕ) (pattern : Option ℕ) (vs : List Value) → Says (all_accepted judge pattern vs ≡ true) (Mismatch judge k pattern vs) (check_pattern judge k pattern vs)
pattern_does judge k pattern [] = refl
pattern_does judge k pattern (v ∷ vs) =
    says (all_accepted judge pattern (v ∷ vs) ≡ true) (Mismatch judge k pattern (v ∷ vs)) (accepted judge pattern v) _ _
    (λ a. pattern_later judge k pattern v vs a _ (pattern_does judge k pattern vs))
    (λ a. (v.word, Rejected.here a, refl))

sound_bad : (judge : JudgeMeaning) (vs : List Value) (k : ℕ) (p : ParameterMeaning) (f : Refusal) → Unsound judge vs k p f → check_sound judge vs k p ≡ Some f
sound_bad judge vs k p f (Unsound.too_few c a) = rw (c, a)
sound_bad judge vs k p f (Unsound.too_many c a b) = rw (c, a, b)
sound_bad judge vs k p f (Unsound.mismatch c a b r) = rw (c, a, b) (pattern_bad judge k p.pattern r)

pattern_sound : (judge : JudgeMeaning) (vs : List Value) (k : ℕ) (p : ParameterMeaning) → is_checked vs k p ≡ true → at_least p.min (length (group k vs)) ≡ true → at_most p.max (length (group k vs)) ≡ true → (o : Option Refusal) → Says (all_accepted judge p.pattern (group k vs) ≡ true) (Mismatch judge k p.pattern (group k vs)) o → Says (Sound judge vs k p) (Unsound judge vs k p) o
pattern_sound judge vs k p c a b None h = λ _. record { least = a; most = b; pattern = h }
pattern_sound judge vs k p c a b (Some f) h = subst (Unsound judge vs k p) (sym h.2) (Unsound.mismatch c a b h.1)

sound_does : (judge : JudgeMeaning) (vs : List Value) (k : ℕ) (p : ParameterMeaning) → Says (Sound judge vs k p) (Unsound judge vs k p) (check_sound judge vs k p)
sound_does judge vs k p =
    let by = says (Sound judge vs k p) (Unsound judge vs k p) in
    by (is_checked vs k p) _ _
    (λ c. by (at_least p.min (length (group k vs))) _ _
    (λ a. by (at_most p.max (length (group k vs))) _ _
    (λ b. pattern_sound judge vs k p c a b _ (pattern_does judge k p.pattern (group k vs)))
    (λ b. Unsound.too_many c a b))
    (λ a. Unsound.too_few c a))
    (λ c e. absurd (clash (sym e ∙ c)))

sound_good : (judge : JudgeMeaning) (vs : List Value) (k : ℕ) (p : ParameterMeaning) → Sound judge vs k p → check_sound judge vs k p ≡ None
sound_good judge vs k p g =
    split (is_checked vs k p)
    (λ c. let q = g c in rw (c, q.least, q.most) (pattern_good judge k p.pattern (group k vs) q.pattern))
    (λ c. rw c)

sound_finds : (judge : JudgeMeaning) (vs : List Value) → Finds (Sound judge vs) (Unsound judge vs) (check_sound judge vs)
sound_finds judge vs = record { good_is = sound_good judge vs; bad_is = sound_bad judge vs; does = sound_does judge vs }

-- All counts.

pub record Counted (ps : List ParameterMeaning) (judge : JudgeMeaning) (vs : List Value) : Type 0 where
  pub served : Each (Served vs) 0 ps
  pub sound : Each (Sound judge vs) 0 ps

option_served : (vs : List Value) (k : ℕ) (ps : List ParameterMeaning) → Each (Served vs) k ps → Each (OptionServed vs) k ps
option_served vs k [] e = tt
option_served vs k (p ∷ ps) e = (λ _. e.0, option_served vs (suc k) ps e.1)

module _ (ps : List ParameterMeaning) (judge : JudgeMeaning) (n : ℕ) (given : List Given) where
  abbrev vs : List Value
  vs = values ps n given

  abbrev tallied : Option Refusal
  tallied = tally ps judge vs (plains given)

  no_option : Each (OptionServed vs) 0 ps → first_of (check_option vs) 0 ps ≡ None
  no_option e = each-is _ _ _ (option_finds vs) 0 ps e

  pub counted_is : Counted ps judge vs → tallied ≡ None
  counted_is c = rw (no_option (option_served vs 0 ps c.served), served_is vs 0 ps c.served, each-is _ _ _ (sound_finds judge vs) 0 ps c.sound)

  some_missing : (Each (Served vs) 0 ps → ⊥) → any_missing vs 0 ps ≡ true
  some_missing no! = split (any_missing vs 0 ps) (λ t. t) (λ f. absurd (no! (served_does vs 0 ps f)))

  pub miscounted_is : {f : Refusal} → Miscounted ps judge n given f → tallied ≡ Some f
  miscounted_is (Miscounted.option e) = rw (first-is _ _ _ (option_finds vs) e)
  miscounted_is (Miscounted.plain e no!) = rw (no_option e, some_missing no!)
  miscounted_is (Miscounted.unsound e u) = rw (no_option (option_served vs 0 ps e), served_is vs 0 ps e, first-is _ _ _ (sound_finds judge vs) u)

  last_join : Each (Served vs) 0 ps → (z : Option Refusal) → Says (Each (Sound judge vs) 0 ps) (First (Sound judge vs) (Unsound judge vs) 0 ps) z → Says (Counted ps judge vs) (Miscounted ps judge n given) z
  last_join e None c = record { served = e; sound = c }
  last_join e (Some f) c = Miscounted.unsound e c

  plain_join : Each (OptionServed vs) 0 ps → (b : Bool) → any_missing vs 0 ps ≡ b → (z : Option Refusal) → Says (Each (Sound judge vs) 0 ps) (First (Sound judge vs) (Unsound judge vs) 0 ps) z → Says (Counted ps judge vs) (Miscounted ps judge n given) (else! (cond b (Some (PositionalArgumentCountMismatch 0 (plains given) (required_plain ps))) None) z)
  plain_join a true e z c = Miscounted.plain a (λ s. clash (sym e ∙ served_is vs 0 ps s))
  plain_join a false e z c = last_join (served_does vs 0 ps e) z c

  tally_join : (x z : Option Refusal) → Says (Each (OptionServed vs) 0 ps) (First (OptionServed vs) (OptionMissing vs) 0 ps) x → Says (Each (Sound judge vs) 0 ps) (First (Sound judge vs) (Unsound judge vs) 0 ps) z → Says (Counted ps judge vs) (Miscounted ps judge n given) (else! x (else! (check_plain vs (plains given) ps) z))
  tally_join (Some f) z a c = Miscounted.option a
  tally_join None z a c = plain_join a (any_missing vs 0 ps) refl z c

  pub tally_does : Says (Counted ps judge vs) (Miscounted ps judge n given) tallied
  tally_does = tally_join _ _ (first_does _ _ _ (option_finds vs) 0 ps) (first_does _ _ _ (sound_finds judge vs) 0 ps)
