-- The words of one order behind its path, by just's loop and by the model's scan.
use Rattle.std.proofs.Common.{◌≡◌, ℕ, zero, suc, ◌+◌, ◌<◌, ◌≤◌, Bool, true, false, not, ◌&&◌, List, [], ◌∷◌, ◌++◌, map, length, drop, Some, None, Ok, Option, Result, sym, refl, ap, ◌∙◌, subst, arith}
use Rattle.std.specs.List.{AllByRecursion, slice_get}
use Rattle.std.specs.Str.{bytes_eq}
use Rattle.refusal.specs.declared.Refusal.TheVariants as refusal
use Rattle.text.specs.Identifier.{Text}
use Rattle.text.proofs.Splits.{either_way}
use Rattle.register.specs.Parameters.{Apart}
use Rattle.reading.specs.Signature as marks
use Rattle.reading.specs.Switches as spelled
use Rattle.reading.specs.Switches.{Called, end_mark, is_dashed, name, attached, switches}
use Rattle.reading.specs.Reading as rules
use Rattle.reading.specs.Reading.{is_full, Waiting}
use Rattle.reading.specs.Reading.Waiting.{Nobody, For}
use Rattle.reading.specs.Model.{Did, run, State, is_nil, plain_step, end_step, switched, switch_step, free_step, Scanned, on_step, scan, taker}
use Rattle.reading.specs.Model.Did.{Gave, Wrong}
use Rattle.reading.specs.Model.Scanned.{Stopped, Broken}
use Rattle.reading.specs.declared.role.Role.{Role}
use Rattle.reading.specs.declared.role.Role.TheVariants.{SwitchWord, SwitchValue, EndMark, PlainWord}
use Rattle.just.specs.Error.{Error}
use Rattle.just.specs.Error.Error.{InvalidOption}
use Rattle.just.specs.Value.{Value}
use Rattle.just.specs.Parameter.{Parameter}
use Rattle.just.specs.Recipe.{Recipe}
use Rattle.just.specs.Switch.{Applied}
use Rattle.just.specs.InvocationParser.{long_of, short_of, positional_from, Loop, switches_of, apply_all, applied, switch_turn, positional_turn, turn, on_turn, loop, behind}
use Rattle.just.proofs.Meaning.{meaning}
use Rattle.just.proofs.Groups.{groups_of, group_at, group_set}
use Rattle.just.proofs.Spelling.{dashed_is, undashed_is, name_is, value-is, empty_is, Spelt, switches_mean}
use Rattle.just.proofs.Switches.{Errs, Pushes, Agrees, run_does}
use Rattle.just.proofs.Positional.{pos_of, place_is, Steps, steps}

-- what is left of a list at a place

pub nth_nil : {X : Type 0} (xs : List X) (i : ℕ) → drop i xs ≡ [] → slice_get xs i ≡ None
nth_nil [] i e = refl
nth_nil (x ∷ xs) zero e = let z : ◌≡◌ {A = ℕ} 0 1 = cc in absurd (omega arith)
nth_nil (x ∷ xs) (suc i) e = nth_nil xs i e

pub nth_cons : {X : Type 0} (xs : List X) (i : ℕ) (y : X) (ys : List X) → drop i xs ≡ y ∷ ys → (slice_get xs i ≡ Some y) × (drop (suc i) xs ≡ ys) × (i < length xs)
nth_cons [] zero y ys e = let z : ◌≡◌ {A = ℕ} 0 1 = cc in absurd (omega arith)
nth_cons [] (suc i) y ys e = let z : ◌≡◌ {A = ℕ} 0 1 = cc in absurd (omega arith)
nth_cons (x ∷ xs) zero y ys e = let a : x ≡ y = cc in let b : xs ≡ ys = cc in (ap (λ (w : _). Some w) a, b, omega arith)
nth_cons (x ∷ xs) (suc i) y ys e = let h = nth_cons xs i y ys e in let l = h.2 in (h.0, h.1, omega arith)

pub nth_front : {X : Type 0} (xs : List X) (i : ℕ) (ys : List X) → drop i xs ≡ ys → slice_get xs i ≡ slice_get ys 0
nth_front xs i [] e = nth_nil xs i e
nth_front xs i (y ∷ ys) e = (nth_cons xs i y ys e).0

and-false : (a : Bool) → false ≡ (a && false)
and-false true = refl
and-false false = refl

module _ (next path : ℕ) (recipe : Recipe) (rest : List Text) where
  abbrev ps : List Parameter
  ps = recipe.parameters

  -- where just's loop ends
  pub record Stops (st : State) (ws : List Text) (r : Result Loop Error) : Type 0 where
    pub loop! : Loop
    pub is : r ≡ Ok loop!
    pub arguments : loop!.arguments ≡ groups_of 0 ps st.values
    pub accepted : loop!.positional_accepted ≡ st.plains
    pub words : st.words ≡ path + loop!.i
    pub left : drop loop!.i rest ≡ ws
    pub fits : loop!.i ≤ length rest

  abbrev pub Ends : Scanned → Result Loop Error → Type 0
  Ends (Broken f) r = Errs next r f
  Ends (Stopped st ws) r = Stops st ws r

  -- both from here on
  abbrev looped : ℕ → Loop → Result Loop Error
  looped fuel l = loop (behind next path) recipe (long_of ps) (short_of ps) (positional_from 0 ps) rest fuel l

  abbrev loop_at : List rules.Value → Bool → ℕ → ℕ → Loop
  loop_at vs eoo i plains = record { arguments = groups_of 0 ps vs; end_of_options = eoo; i = i; positional_index = pos_of ps plains; positional_accepted = plains }

  abbrev state_at : ℕ → Bool → ℕ → List rules.Value → Waiting → List Role → State
  state_at k ended plains vs who roles = record { words = k; ended = ended; plains = plains; values = vs; waiting = who; roles = roles }

  abbrev pub Goal : ℕ → List Text → Type 0
  Goal fuel ws = (i k plains : ℕ) (eoo ended : Bool) (vs : List rules.Value) (roles : List Role) → drop i rest ≡ ws → k ≡ path + i → not eoo ≡ (marks.any_option (map meaning ps) && not ended) → i ≤ length rest → Ends (scan (map meaning ps) (state_at k ended plains vs Nobody roles) ws) (looped fuel (loop_at vs eoo i plains))

  module _ (apart : Apart (map meaning ps)) (fuel : ℕ) (w : Text) (ws : List Text) (on : Goal fuel ws) (skip : (v : Text) (vs : List Text) → ws ≡ v ∷ vs → Goal fuel vs)
      (i k plains : ℕ) (eoo ended : Bool) (vs : List rules.Value) (roles : List Role) (here : drop i rest ≡ w ∷ ws) (is : k ≡ path + i) (open! : not eoo ≡ (marks.any_option (map meaning ps) && not ended)) (fits : i ≤ length rest) where
    abbrev st : State
    st = state_at k ended plains vs Nobody roles

    abbrev l : Loop
    l = loop_at vs eoo i plains

    ahead : drop (suc i) rest ≡ ws
    ahead = (nth_cons rest i w ws here).1

    room : suc i ≤ length rest
    room = (nth_cons rest i w ws here).2

    next_word : suc k ≡ path + suc i
    next_word = omega arith

    stopped : Ends (Stopped st (w ∷ ws)) (Ok l)
    stopped = record { loop! = l; is = refl; arguments = refl; accepted = refl; words = is; left = here; fits = fits }

    -- a plain word
    pub plain_does : Ends (on_step (plain_step st w (taker (map meaning ps) plains)) st (w ∷ ws) (λ t. scan (map meaning ps) t ws)) (on_turn (positional_turn path recipe (positional_from 0 ps) l w) l (λ after. looped fuel after))
    plain_does = go (taker (map meaning ps) plains) refl
      where
        by : (j : ℕ) → taker (map meaning ps) plains ≡ Some j → Steps ps plains j → Ends (on_step (plain_step st w (Some j)) st (w ∷ ws) (λ t. scan (map meaning ps) t ws)) (on_turn (positional_turn path recipe (positional_from 0 ps) l w) l (λ after. looped fuel after))
        by j t s =
            let v : rules.Value = record { parameter = j; text = w; word = k } in
            let now : Scanned = scan (map meaning ps) (state_at (suc k) ended (suc plains) (vs ++ v ∷ []) Nobody (roles ++ PlainWord j ∷ [])) ws in
            rw (place_is ps plains ∙ t, group_at ps vs j s.parameter s.stands, s.stands, ← is, s.index)
            (subst (λ (gs : List Value). Ends now (looped fuel (record { arguments = gs; end_of_options = eoo; i = suc i; positional_index = pos_of ps (suc plains); positional_accepted = suc plains }))) (sym (group_set ps vs j s.parameter v s.stands refl))
            (on (suc i) (suc k) (suc plains) eoo ended (vs ++ v ∷ []) (roles ++ PlainWord j ∷ []) ahead next_word open! room))

        go : (o : Option ℕ) → taker (map meaning ps) plains ≡ o → Ends (on_step (plain_step st w o) st (w ∷ ws) (λ t. scan (map meaning ps) t ws)) (on_turn (positional_turn path recipe (positional_from 0 ps) l w) l (λ after. looped fuel after))
        go None t = rw (place_is ps plains ∙ t) stopped
        go (Some j) t = by j t (steps ps plains j t)

    -- the end mark
    pub end_does : Ends (on_step (end_step st) st (w ∷ ws) (λ t. scan (map meaning ps) t ws)) (looped fuel (record { arguments = groups_of 0 ps vs; end_of_options = true; i = suc i; positional_index = pos_of ps plains; positional_accepted = plains }))
    end_does = on (suc i) (suc k) plains true true vs (roles ++ EndMark ∷ []) ahead next_word (and-false (marks.any_option (map meaning ps))) room

    -- a word of switches, and its value
    value_does : (v : Text) (more : List Text) → ws ≡ v ∷ more → (hs : List rules.Value) (c : Called) (at j : ℕ) (full : Bool) → is_full c hs ≡ full → (r : Result Applied Error) → Pushes next path recipe rest c.place (suc i) hs (refusal.DuplicateOption at j) v (suc k) full r →
        Ends (scan (map meaning ps) (state_at (suc k) ended plains hs (For c at j) (roles ++ SwitchWord ∷ [])) (v ∷ more)) (on_turn (applied l r) l (λ after. looped fuel after))
    value_does v more e hs c at j true f r h = rw (f, h.is) (record { error = h.error; is = refl; number = h.number })
    value_does v more e hs c at j false f r h =
        let b = nth_cons rest (suc i) v more (ahead ∙ e) in
        let n : suc (suc k) ≡ path + suc (suc i) = omega arith in
        rw (f, h) (skip v more e (suc (suc i)) (suc (suc k)) plains eoo ended (hs ++ record { parameter = c.place; text = v; word = suc k } ∷ []) ((roles ++ SwitchWord ∷ []) ++ SwitchValue ∷ []) b.1 n open! b.2)

    waits_does : (xs : List Text) → ws ≡ xs → (hs : List rules.Value) (c : Called) (at j : ℕ) (r : Result Applied Error) → Agrees next path recipe rest i k (Gave hs (For c at j)) xs r →
        Ends (scan (map meaning ps) (state_at (suc k) ended plains hs (For c at j) (roles ++ SwitchWord ∷ [])) xs) (on_turn (applied l r) l (λ after. looped fuel after))
    waits_does [] e hs c at j r h = rw h.is (record { error = h.error; is = refl; number = h.number })
    waits_does (v ∷ more) e hs c at j r h = value_does v more e hs c at j (is_full c hs) refl r h

    did_does : (did : Did) (r : Result Applied Error) → Agrees next path recipe rest i k did ws r → Ends (on_step (switched st did) st (w ∷ ws) (λ t. scan (map meaning ps) t ws)) (on_turn (applied l r) l (λ after. looped fuel after))
    did_does (Wrong f) r h = rw h.is (record { error = h.error; is = refl; number = h.number })
    did_does (Gave hs Nobody) r h = rw h (on (suc i) (suc k) plains eoo ended hs (roles ++ SwitchWord ∷ []) ahead next_word open! room)
    did_does (Gave hs (For c at j)) r h = waits_does ws refl hs c at j r h

    pub switch_does : is_dashed w ≡ true → Spelt w → Ends (on_step (switch_step (map meaning ps) st w) st (w ∷ ws) (λ t. scan (map meaning ps) t ws)) (on_turn (switch_turn (behind next path) recipe (long_of ps) (short_of ps) rest l w) l (λ after. looped fuel after))
    switch_does d spelt =
        rw (undashed_is w d, name_is (spelled.undashed w), value-is (spelled.undashed w), empty_is (name w))
        (either_way (is_nil (name w))
        (λ e. rw e (record { error = InvalidOption (behind next path i 0) w; is = refl; number = ap (λ (n : ℕ). Some (refusal.InvalidOption (next + n))) (sym is) }))
        (λ e. rw e
        (did_does (run (map meaning ps) k (attached w) vs 0 (switches w)) (apply_all (behind next path i) recipe (long_of ps) (short_of ps) rest (attached w) (length (switches_of w (name w))) 0 (switches_of w (name w)) (groups_of 0 ps vs) i)
        (subst (λ (ss : List spelled.Switch). Agrees next path recipe rest i k (run (map meaning ps) k (attached w) vs 0 ss) ws (apply_all (behind next path i) recipe (long_of ps) (short_of ps) rest (attached w) (length (switches_of w (name w))) 0 (switches_of w (name w)) (groups_of 0 ps vs) i))
        (switches_mean w d spelt)
        (run_does next path recipe rest apart i k is ws (nth_front rest (suc i) ws ahead) (attached w) (length (switches_of w (name w))) (switches_of w (name w)) vs 0 (omega arith))))))

  turn_does : (apart : Apart (map meaning ps)) (fuel : ℕ) (w : Text) (ws : List Text) (on : Goal fuel ws) (skip : (v : Text) (vs : List Text) → ws ≡ v ∷ vs → Goal fuel vs) → Spelt w →
      (i k plains : ℕ) (eoo ended : Bool) (vs : List rules.Value) (roles : List Role) (here : drop i rest ≡ w ∷ ws) (is : k ≡ path + i) (open! : not eoo ≡ (marks.any_option (map meaning ps) && not ended)) (fits : i ≤ length rest) →
      Ends (on_step (free_step (map meaning ps) (state_at k ended plains vs Nobody roles) w) (state_at k ended plains vs Nobody roles) (w ∷ ws) (λ t. scan (map meaning ps) t ws)) (on_turn (turn (behind next path) recipe (long_of ps) (short_of ps) (positional_from 0 ps) rest (loop_at vs eoo i plains) w) (loop_at vs eoo i plains) (λ after. looped fuel after))
  turn_does apart fuel w ws on skip spelt i k plains true ended vs roles here is open! fits =
      rw (← open!) (plain_does apart fuel w ws on skip i k plains true ended vs roles here is open! fits)
  turn_does apart fuel w ws on skip spelt i k plains false ended vs roles here is open! fits =
      rw (← open!)
      (either_way (bytes_eq w end_mark)
      (λ e. rw e (end_does apart fuel w ws on skip i k plains false ended vs roles here is open! fits))
      (λ e. rw (e, dashed_is w)
      (either_way (is_dashed w)
      (λ d. rw d (switch_does apart fuel w ws on skip i k plains false ended vs roles here is open! fits d spelt))
      (λ d. rw d (plain_does apart fuel w ws on skip i k plains false ended vs roles here is open! fits)))))

  pub loop_does : Apart (map meaning ps) → (fuel : ℕ) (ws : List Text) → length ws < fuel → AllByRecursion Spelt ws → Goal fuel ws
  loop_does apart zero ws h spelt i k plains eoo ended vs roles here is open! fits = absurd (omega arith)
  loop_does apart (suc fuel) [] h spelt i k plains eoo ended vs roles here is open! fits =
      rw (nth_nil rest i here) (record { loop! = loop_at vs eoo i plains; is = refl; arguments = refl; accepted = refl; words = is; left = here; fits = fits })
  loop_does apart (suc fuel) (w ∷ ws) h spelt i k plains eoo ended vs roles here is open! fits =
      rw (nth_cons rest i w ws here).0
      (turn_does apart fuel w ws (loop_does apart fuel ws (omega arith) spelt.1)
      (λ v more e. loop_does apart fuel more (let n = ap length e in omega arith) (subst (AllByRecursion Spelt) e spelt.1).1)
      spelt.0 i k plains eoo ended vs roles here is open! fits)
