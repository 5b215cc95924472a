-- The switches of one word: the rules' run is the graph of the model's. Assumes nothing.
use Rattle.std.proofs.Common.{◌≡◌, ℕ, suc, Bool, true, false, List, [], ◌∷◌, ◌++◌, Some, None, Option, refl, ap, ◌∙◌, append_assoc, append-nil}
use Rattle.refusal.specs.declared.Refusal.{Refusal}
use Rattle.text.specs.Identifier.{Text}
use Rattle.register.specs.Meaning.{ParameterMeaning}
use Rattle.reading.specs.Signature.{takes_true}
use Rattle.reading.specs.Switches.{Switch, Called, called}
use Rattle.reading.specs.Reading.{Value, true_text, is_full, unless_attached, last_wants, run_gives, Run}
use Rattle.reading.specs.Faults.{Slip}
use Rattle.reading.specs.Model.{Did, last_step, then_step, run}
use Rattle.reading.specs.Model.Did.{Gave, Wrong}

-- two cases of a test
pub split : {C : Type 0} (b : Bool) → (b ≡ true → C) → (b ≡ false → C) → C
split true f g = f refl
split false f g = g refl

pub clash : true ≡ false → ⊥
clash e = cc

module _ (ps : List ParameterMeaning) (at : ℕ) (behind : Option Text) where
  -- what a lawful run gives, and whom the next word is for
  abbrev pub ran : List Value → ℕ → List Switch → Did
  ran vs j ss = Gave (vs ++ run_gives ps at behind ss) (unless_attached behind (last_wants ps at j ss))

  pub run_is : {vs : List Value} {ss : List Switch} → Run ps at behind vs ss → (j : ℕ) → run ps at behind vs j ss ≡ ran vs j ss
  run_is (Run.last_true k t b f) j = rw (k, b, t, f)
  run_is (Run.last_attached k t b f) j = rw (k, b, t, f)
  run_is (Run.last_waiting {vs} k t b) j = rw (k, b, t, append-nil vs)
  run_is (Run.then {vs} {r = r} {ss = ss} {c = c} k t f u) j =
      rw (k, t, f) (run_is u (suc j) ∙ ap (λ (x : List Value). Gave x (unless_attached behind (last_wants ps at (suc j) (r ∷ ss)))) (append_assoc vs (record { parameter = c.place; text = true_text; word = at } ∷ []) (run_gives ps at behind (r ∷ ss))))

  pub slip_is : {vs : List Value} {j : ℕ} {ss : List Switch} {f : Refusal} → Slip ps at behind vs j ss f → run ps at behind vs j ss ≡ Wrong f
  slip_is (Slip.unknown {ss = []} k) = rw k
  slip_is (Slip.unknown {ss = r ∷ ss} k) = rw k
  slip_is (Slip.flag_with_value k t b) = rw (k, b, t)
  slip_is (Slip.non_final k t) = rw (k, t)
  slip_is (Slip.twice_true k t b f) = rw (k, b, t, f)
  slip_is (Slip.twice_attached k t b f) = rw (k, b, t, f)
  slip_is (Slip.twice k t f) = rw (k, t, f)
  slip_is (Slip.later k t f r) = rw (k, t, f) (slip_is r)

  -- what a run comes to, with its reason
  abbrev pub Why : List Value → ℕ → List Switch → Did → Type 0
  Why vs j ss (Gave hs who) = Run ps at behind vs ss
  Why vs j ss (Wrong f) = Slip ps at behind vs j ss f

-- a run's last switch, by what stands behind `=`
last_does : (ps : List ParameterMeaning) (at : ℕ) (behind : Option Text) (vs : List Value) (j : ℕ) (s : Switch) (o : Option Called) → called ps s ≡ o → Why ps at behind vs j (s ∷ []) (last_step at j o behind vs)
last_does ps at behind vs j s None k = Slip.unknown k
last_does ps at None vs j s (Some c) k =
    split (takes_true c.parameter)
    (λ t. rw t (split (is_full c vs) (λ f. rw f (Slip.twice_true k t refl f)) (λ f. rw f (Run.last_true k t refl f))))
    (λ t. rw t (Run.last_waiting k t refl))
last_does ps at (Some v) vs j s (Some c) k =
    split (takes_true c.parameter)
    (λ t. rw t (Slip.flag_with_value k t refl))
    (λ t. rw t (split (is_full c vs) (λ f. rw f (Slip.twice_attached k t refl f)) (λ f. rw f (Run.last_attached k t refl f))))

module _ (ps : List ParameterMeaning) (at : ℕ) (behind : Option Text) where
  later_why : (vs : List Value) (j : ℕ) (s r : Switch) (ss : List Switch) (c : Called) → called ps s ≡ Some c → takes_true c.parameter ≡ true → is_full c vs ≡ false → (did : Did) → Why ps at behind (vs ++ record { parameter = c.place; text = true_text; word = at } ∷ []) (suc j) (r ∷ ss) did → Why ps at behind vs j (s ∷ r ∷ ss) did
  later_why vs j s r ss c k t f (Gave hs who) h = Run.then k t f h
  later_why vs j s r ss c k t f (Wrong g) h = Slip.later k t f h

  then_does : (vs : List Value) (j : ℕ) (s r : Switch) (ss : List Switch) (o : Option Called) → called ps s ≡ o → ((hs : List Value) → Why ps at behind hs (suc j) (r ∷ ss) (run ps at behind hs (suc j) (r ∷ ss))) → Why ps at behind vs j (s ∷ r ∷ ss) (then_step at j o vs (λ hs. run ps at behind hs (suc j) (r ∷ ss)))
  then_does vs j s r ss None k go = Slip.unknown k
  then_does vs j s r ss (Some c) k go =
      split (takes_true c.parameter)
      (λ t. rw t (split (is_full c vs) (λ f. rw f (Slip.twice k t f)) (λ f. rw f (later_why vs j s r ss c k t f _ (go _)))))
      (λ t. rw t (Slip.non_final k t))

  pub run_does : (vs : List Value) (j : ℕ) (s : Switch) (ss : List Switch) → Why ps at behind vs j (s ∷ ss) (run ps at behind vs j (s ∷ ss))
  run_does vs j s [] = last_does ps at behind vs j s (called ps s) refl
  run_does vs j s (r ∷ ss) = then_does vs j s r ss (called ps s) refl (λ hs. run_does hs (suc j) r ss)
