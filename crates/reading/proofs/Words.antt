-- The words of one order: the rules' roles are the graph of the model's steps. Assumes nothing.
use Rattle.std.proofs.Common.{◌≡◌, ℕ, zero, suc, Bool, true, false, List, [], ◌∷◌, ◌++◌, Some, None, Option, sym, refl, ap, ◌∙◌, subst, append_assoc, append-nil}
use Rattle.std.specs.Option.{option_map}
use Rattle.std.specs.Str.{bytes_eq}
use Rattle.std.proofs.lemmas.Slice.Eq.{bytes_eq-Decides}
use Rattle.refusal.specs.declared.Refusal.{Refusal}
use Rattle.text.specs.Identifier.{Text}
use Rattle.register.specs.Meaning.{ParameterMeaning}
use Rattle.reading.specs.Letters.{letters_from, letters}
use Rattle.reading.specs.Signature.{Takes, Homeless, is_option, is_variadic}
use Rattle.reading.specs.Signature.Takes.{pass, first, further, next}
use Rattle.reading.specs.Switches.{Switch, end_mark, is_dashed, name, attached, switches, spelled, two_dashes}
use Rattle.reading.specs.Reading.{Given, Value, Waiting, is_full, reached, wants, values, plains, words_of, reads_switches, NoSwitch, IsSwitch, Fits, Roles, Ends}
use Rattle.reading.specs.Reading.Waiting.{Nobody, For}
use Rattle.reading.specs.Faults.{Faulty}
use Rattle.reading.specs.Model.{taker, Did, run, State, state_of, Next, is_nil, plain_step, free_step, switched, step_by, step, Scanned, at_line_end, on_step, scan}
use Rattle.reading.specs.Model.Did.{Gave, Wrong}
use Rattle.reading.specs.Model.Next.{Go, Stop, Fail}
use Rattle.reading.specs.Model.Scanned.{Stopped, Broken}
use Rattle.reading.specs.declared.role.Role.{Role}
use Rattle.reading.proofs.Runs.{split, clash, run_is, slip_is, Why, run_does}

-- Plain words.

pub takes_is : {ps : List ParameterMeaning} {n k : ℕ} → Takes ps n k → taker ps n ≡ Some k
takes_is (pass e t) = rw e (ap (option_map suc) (takes_is t))
takes_is (first e) = rw e
takes_is (further e m) = rw (e, m)
takes_is (next e m t) = rw (e, m) (ap (option_map suc) (takes_is t))

suc_some : (o : Option ℕ) (k : ℕ) → option_map suc o ≡ Some k → (i : ℕ) × (o ≡ Some i) × (k ≡ suc i)
suc_some None k e = cc
suc_some (Some i) k e = (i, refl, cc)

pub takes_does : (ps : List ParameterMeaning) (n k : ℕ) → taker ps n ≡ Some k → Takes ps n k
takes_does [] n k e = cc
takes_does (p ∷ ps) zero k e =
    split (is_option p)
    (λ t. let u = suc_some _ k (rw t at e) in rw u.2 (pass t (takes_does ps zero u.0 u.1)))
    (λ f. let z : 0 ≡ k = let h = rw f at e in cc in subst (Takes (p ∷ ps) zero) z (first f))
takes_does (p ∷ ps) (suc n) k e =
    split (is_option p)
    (λ t. let u = suc_some _ k (rw t at e) in rw u.2 (pass t (takes_does ps (suc n) u.0 u.1)))
    (λ f. split (is_variadic p.kind)
    (λ m. let z : 0 ≡ k = let h = rw (f, m) at e in cc in subst (Takes (p ∷ ps) (suc n)) z (further f m))
    (λ m. let u = suc_some _ k (rw (f, m) at e) in rw u.2 (next f m (takes_does ps n u.0 u.1))))

pub homeless_is : (ps : List ParameterMeaning) (n : ℕ) → Homeless ps n → taker ps n ≡ None
homeless_is ps n no! = go (taker ps n) refl
  where
    go : (o : Option ℕ) → taker ps n ≡ o → taker ps n ≡ None
    go None e = e
    go (Some k) e = absurd (no! k (takes_does ps n k e))

-- Tests on a word.

same_is : (xs ys : List ℕ) → xs ≡ ys → bytes_eq xs ys ≡ true
same_is xs ys e = (bytes_eq-Decides xs ys).1 e

differ_is : (xs ys : List ℕ) → (xs ≡ ys → ⊥) → bytes_eq xs ys ≡ false
differ_is xs ys n = split (bytes_eq xs ys) (λ t. absurd (n ((bytes_eq-Decides xs ys).0 t))) (λ f. f)

nil_is : (t : Text) → (t ≡ [] → ⊥) → is_nil t ≡ false
nil_is [] n = absurd (n refl)
nil_is (b ∷ t) n = refl

nil_not : (t : Text) → is_nil t ≡ false → t ≡ [] → ⊥
nil_not t f e = clash (sym (ap is_nil e) ∙ f)

nil_was : (t : Text) → is_nil t ≡ true → t ≡ []
nil_was [] e = refl
nil_was (b ∷ t) e = absurd (clash (sym e))

-- a text that is not empty has a letter
pub some_letter : (n c : ℕ) (t : Text) → letters_from n c t ≡ [] → ⊥
some_letter zero c [] e = cc
some_letter (suc n) c [] e = cc
some_letter zero c (b ∷ t) e = cc
some_letter (suc n) c (b ∷ t) e = some_letter n _ t e

map-none : {A B : Type 0} (f : A → B) (xs : List A) → mathlib.Core.List.map f xs ≡ [] → xs ≡ []
map-none f [] e = refl
map-none f (x ∷ xs) e = cc

-- a name that is not empty has a switch
spelled_none : (two : Bool) (t : Text) → spelled two t ≡ [] → t ≡ []
spelled_none two [] e = refl
spelled_none true (b ∷ t) e = cc
spelled_none false (b ∷ t) e = absurd (some_letter _ _ t (map-none Switch.Letter (letters (b ∷ t)) e))

module _ (ps : List ParameterMeaning) (n : ℕ) where
  -- one more word
  abbrev with! : List Given → Text → Role → State
  with! before w r = state_of ps n (record { word = w; role = r } ∷ before)

  -- a word that is no switch word and no end mark is plain
  plain_is : (before : List Given) (w : Text) → NoSwitch ps before w → free_step ps (state_of ps n before) w ≡ plain_step (state_of ps n before) w (taker ps (plains before))
  plain_is before w no! =
      split (reads_switches ps before)
      (λ o. rw o (split (bytes_eq w end_mark)
      (λ d. absurd (no! o (ap is_dashed ((bytes_eq-Decides w end_mark).0 d))))
      (λ d. rw d (split (is_dashed w) (λ h. absurd (no! o h)) (λ h. rw h)))))
      (λ o. rw o)

  pub fits_is : {before : List Given} {w : Text} {r : Role} → Fits ps n before w r → step ps (state_of ps n before) w ≡ Go r (with! before w r)
  fits_is (Fits.value e f) = rw (e, f)
  fits_is {before} {w} (Fits.end e o d) = rw (e, o, same_is w end_mark d, append-nil (values ps n before))
  fits_is {before} {w} (Fits.switch s d r) = rw (s.unclaimed, s.open!, differ_is w end_mark s.no_end, s.dashed, nil_is (name w) d, run_is ps (reached n before) (attached w) r 0)
  fits_is {before} {w} (Fits.plain e no! t) = rw (e, plain_is before w no!, takes_is t)

  pub ends_is : {before : List Given} {ws : List Text} → Ends ps n before ws → scan ps (state_of ps n before) ws ≡ Stopped (state_of ps n before) ws
  ends_is (Ends.line e) = rw e
  ends_is {before} (Ends.homeless {w} e no! h) = rw (e, plain_is before w no!, homeless_is ps (plains before) h)

  pub faulty_is : {before : List Given} {ws : List Text} {f : Refusal} → Faulty ps n before ws f → scan ps (state_of ps n before) ws ≡ Broken f
  faulty_is (Faulty.missing_value e) = rw e
  faulty_is (Faulty.twice e f) = rw (e, f)
  faulty_is (Faulty.invalid {w} s d) = rw (s.unclaimed, s.open!, differ_is w end_mark s.no_end, s.dashed, d)
  faulty_is {before} (Faulty.slip {w} s d r) = rw (s.unclaimed, s.open!, differ_is w end_mark s.no_end, s.dashed, nil_is (name w) d, slip_is ps (reached n before) (attached w) r)

  -- words with lawful roles are read with those roles
  pub roles_is : {gs : List Given} → Roles ps n gs → (rest : List Text) → scan ps (state_of ps n []) (words_of gs ++ rest) ≡ scan ps (state_of ps n gs) rest
  roles_is Roles.none rest = refl
  roles_is (Roles.more {before} {w} {r} rs fit) rest =
      ap (scan ps (state_of ps n [])) (append_assoc (words_of before) (w ∷ []) rest) ∙ roles_is rs (w ∷ rest) ∙ rw (fits_is fit)

  -- what a word does, with its reason
  abbrev pub Because : List Given → Text → List Text → Next → Type 0
  Because before w ws (Go r st) = Fits ps n before w r
  Because before w ws Stop = Ends ps n before (w ∷ ws)
  Because before w ws (Fail f) = Faulty ps n before (w ∷ ws) f

  home_does : (before : List Given) (w : Text) (ws : List Text) → wants ps n before ≡ Nobody → NoSwitch ps before w → (o : Option ℕ) → taker ps (plains before) ≡ o → Because before w ws (plain_step (state_of ps n before) w o)
  home_does before w ws e no! None t = Ends.homeless e no! (λ k h. let s = takes_is h in cc)
  home_does before w ws e no! (Some k) t = Fits.plain e no! (takes_does ps (plains before) k t)

  -- a switch word whose name is not empty
  switch_does : (before : List Given) (w : Text) (ws : List Text) → IsSwitch ps n before w → (name w ≡ [] → ⊥) → (did : Did) → Why ps (reached n before) (attached w) (values ps n before) 0 (switches w) did → Because before w ws (switched (state_of ps n before) did)
  switch_does before w ws s d (Gave vs who) r = Fits.switch s d r
  switch_does before w ws s d (Wrong f) r = Faulty.slip s d r

  some_switch : (at : ℕ) (w : Text) (vs : List Value) → (name w ≡ [] → ⊥) → Why ps at (attached w) vs 0 (switches w) (run ps at (attached w) vs 0 (switches w))
  some_switch at w vs d = go (switches w) (λ e. d (spelled_none (two_dashes w) (name w) e))
    where
      go : (ss : List Switch) → (ss ≡ [] → ⊥) → Why ps at (attached w) vs 0 ss (run ps at (attached w) vs 0 ss)
      go [] no! = absurd (no! refl)
      go (s ∷ ss) no! = run_does ps at (attached w) vs 0 s ss

  free_does : (before : List Given) (w : Text) (ws : List Text) → wants ps n before ≡ Nobody → Because before w ws (free_step ps (state_of ps n before) w)
  free_does before w ws e =
      split (reads_switches ps before)
      (λ o. rw o (split (bytes_eq w end_mark)
      (λ d. rw d (Fits.end e o ((bytes_eq-Decides w end_mark).0 d)))
      (λ d. let ne : w ≡ end_mark → ⊥ = λ q. clash (sym (same_is w end_mark q) ∙ d) in rw d (split (is_dashed w)
      (λ h. let s : IsSwitch ps n before w = record { unclaimed = e; open! = o; no_end = ne; dashed = h } in rw h (split (is_nil (name w))
      (λ m. rw m (Faulty.invalid s (nil_was (name w) m)))
      (λ m. rw m (switch_does before w ws s (nil_not (name w) m) _ (some_switch (reached n before) w (values ps n before) (nil_not (name w) m))))))
      (λ h. rw h (home_does before w ws e (λ _ t. clash (sym t ∙ h)) _ refl))))))
      (λ o. rw o (home_does before w ws e (λ t _. clash (sym t ∙ o)) _ refl))

  step_does : (before : List Given) (w : Text) (ws : List Text) (who : Waiting) → wants ps n before ≡ who → Because before w ws (step_by ps (state_of ps n before) w who)
  step_does before w ws Nobody e = free_does before w ws e
  step_does before w ws (For c at j) e = split (is_full c (values ps n before)) (λ f. rw f (Faulty.twice e f)) (λ f. rw f (Fits.value e f))

  -- where the words from here on stop, or break
  pub record Stops (words : List Text) (st : State) (rest : List Text) : Type 0 where
    pub given : List Given
    pub cut : words_of given ++ rest ≡ words
    pub roles : Roles ps n given
    pub ends : Ends ps n given rest
    pub is : state_of ps n given ≡ st

  pub record Breaks (words : List Text) (f : Refusal) : Type 0 where
    pub before : List Given
    pub rest : List Text
    pub cut : words_of before ++ rest ≡ words
    pub roles : Roles ps n before
    pub fault : Faulty ps n before rest f

  abbrev pub Scans : List Text → Scanned → Type 0
  Scans words (Stopped st rest) = Stops words st rest
  Scans words (Broken f) = Breaks words f

  end_does : (before : List Given) → Roles ps n before → (who : Waiting) → wants ps n before ≡ who → Scans (words_of before ++ []) (at_line_end (state_of ps n before) who)
  end_does before rs Nobody e = record { given = before; cut = refl; roles = rs; ends = Ends.line e; is = refl }
  end_does before rs (For c at j) e = record { before = before; rest = []; cut = refl; roles = rs; fault = Faulty.missing_value e }

  go_does : (before : List Given) (w : Text) (ws : List Text) → Roles ps n before → ((r : Role) → Fits ps n before w r → Scans (words_of before ++ (w ∷ ws)) (scan ps (with! before w r) ws)) → (next : Next) → step ps (state_of ps n before) w ≡ next → Because before w ws next → Scans (words_of before ++ (w ∷ ws)) (on_step next (state_of ps n before) (w ∷ ws) (λ t. scan ps t ws))
  go_does before w ws rs go (Go r st) e fit =
      let same : st ≡ with! before w r = let h = fits_is fit in cc in
      subst (λ (t : State). Scans (words_of before ++ (w ∷ ws)) (scan ps t ws)) (sym same) (go r fit)
  go_does before w ws rs go Stop e end = record { given = before; cut = refl; roles = rs; ends = end; is = refl }
  go_does before w ws rs go (Fail f) e bad = record { before = before; rest = w ∷ ws; cut = refl; roles = rs; fault = bad }

  pub scan_does : (before : List Given) (ws : List Text) → Roles ps n before → Scans (words_of before ++ ws) (scan ps (state_of ps n before) ws)
  scan_does before [] rs = end_does before rs (wants ps n before) refl
  scan_does before (w ∷ ws) rs =
      go_does before w ws rs
      (λ r fit. subst (λ (l : List Text). Scans l (scan ps (with! before w r) ws)) (append_assoc (words_of before) (w ∷ []) ws) (scan_does (record { word = w; role = r } ∷ before) ws (Roles.more rs fit)))
      (step ps (state_of ps n before) w) refl (step_does before w ws (wants ps n before) refl)
