-- The switches of one word, by just and by the model.
use Rattle.std.proofs.Common.{◌≡◌, ℕ, suc, ◌+◌, Bool, true, false, cond, not, ◌&&◌, ◌||◌, List, [], ◌∷◌, ◌++◌, map, length, Some, None, Ok, Err, Option, Result, sym, refl, ap, ◌∙◌, subst, arith}
use Rattle.std.specs.Option.{option_map}
use Rattle.std.specs.List.{slice_get}
use Rattle.std.proofs.lemmas.Bool.{eq-eqb, ne_eqb}
use Rattle.refusal.specs.declared.Refusal.{Refusal}
use Rattle.refusal.specs.declared.Refusal.TheVariants as refusal
use Rattle.refusal.specs.Shift.{shifted_by}
use Rattle.text.specs.Identifier.{Text}
use Rattle.text.proofs.Splits.{either_way}
use Rattle.register.specs.Meaning.{ParameterMeaning}
use Rattle.register.specs.Parameters.{Apart, has_long_name, has_letter_code}
use Rattle.register.proofs.Places.{place_found, passing}
use Rattle.reading.specs.Switches.{called, called_at, place_by}
use Rattle.reading.specs.Reading as rules
use Rattle.reading.specs.Reading.{group, filled, is_full}
use Rattle.reading.specs.Reading.Waiting.{Nobody, For}
use Rattle.reading.specs.Model.{Did, give, last_step, then_step, run}
use Rattle.reading.specs.Model.Did.{Gave, Wrong}
use Rattle.just.specs.Results.{and_then}
use Rattle.just.specs.ParameterKind as kind
use Rattle.just.specs.Error.{Error, Spot, Switch}
use Rattle.just.specs.Error.Switch.{Long, Short}
use Rattle.just.specs.Error.Error.{UnknownOption, FlagWithValue, NonFinalOptionWithValue, OptionMissingValue, DuplicateOption}
use Rattle.just.specs.Value as value
use Rattle.just.specs.Value.{Value}
use Rattle.just.specs.Parameter.{Parameter}
use Rattle.just.specs.Recipe.{Recipe}
use Rattle.just.specs.Switch.{Applied, true_text, index_of, own_or_next, pushed, apply}
use Rattle.just.specs.InvocationParser.{long_of, short_of, behind, apply_all}
use Rattle.just.specs.Numbers.{refusal_of}
use Rattle.just.proofs.Meaning.{meaning, switch_means, variadic_is}
use Rattle.just.proofs.Groups.{element_of, groups_of, empty_is, group_at, group_set}
use Rattle.just.proofs.Maps.{nth_mapped, long_is, short_is}

-- an error that is this refusal of the order whose first word is `next`
pub record Errs {X : Type 0} (next : ℕ) (r : Result X Error) (f : Refusal) : Type 0 where
  pub error : Error
  pub is : r ≡ Err error
  pub number : refusal_of error ≡ Some (shifted_by next f)

-- what a switch calls
pub data View (ps : List Parameter) (s : Switch) : Type 0 where
  nobody : index_of (long_of ps) (short_of ps) s ≡ None → called (map meaning ps) (switch_means s) ≡ None → View ps s
  calls : (index : ℕ) (p : Parameter) → index_of (long_of ps) (short_of ps) s ≡ Some index → slice_get ps index ≡ Some p → called (map meaning ps) (switch_means s) ≡ Some (record { place = index; parameter = meaning p }) → View ps s

module _ (ps : List Parameter) (apart : Apart (map meaning ps)) where
  index_is : (s : Switch) → index_of (long_of ps) (short_of ps) s ≡ place_by (map meaning ps) (switch_means s)
  index_is (Long t) = long_is ps apart t
  index_is (Short c) = short_is ps apart c

  within : (s : Switch) (k : ℕ) → place_by (map meaning ps) (switch_means s) ≡ Some k → (m : ParameterMeaning) × (slice_get (map meaning ps) k ≡ Some m)
  within (Long t) k e = let w = passing (has_long_name t) (map meaning ps) k (place_found (has_long_name t) (map meaning ps) k e) in (w.0, w.1)
  within (Short c) k e = let w = passing (has_letter_code c) (map meaning ps) k (place_found (has_letter_code c) (map meaning ps) k e) in (w.0, w.1)

  pub view : (s : Switch) → View ps s
  view s = go (place_by (map meaning ps) (switch_means s)) refl
    where
      at : (k : ℕ) → place_by (map meaning ps) (switch_means s) ≡ Some k → (o : Option Parameter) → slice_get ps k ≡ o → View ps s
      at k e None n =
          let w = within s k e in
          let x : option_map meaning (slice_get ps k) ≡ Some w.0 = sym (nth_mapped meaning ps k) ∙ w.1 in
          let y : ◌≡◌ {A = Option ParameterMeaning} None (Some w.0) = sym (ap (option_map meaning) n) ∙ x in
          let z : ◌≡◌ {A = ℕ} 0 1 = cc in absurd (omega arith)
      at k e (Some p) n =
          View.calls k p (index_is s ∙ e) n
          (ap (called_at (map meaning ps)) e ∙ ap (option_map (λ (m : ParameterMeaning). record { place = k; parameter = m })) (nth_mapped meaning ps k ∙ ap (option_map meaning) n))

      go : (o : Option ℕ) → place_by (map meaning ps) (switch_means s) ≡ o → View ps s
      go None e = View.nobody (index_is s ∙ e) (ap (called_at (map meaning ps)) e)
      go (Some k) e = at k e (slice_get ps k) refl

-- a group is full by just where it is by the rules
full_three : (v m f : Bool) → (not (not f) && (not v && not m)) ≡ (not (v || m) && f)
full_three true m true = refl
full_three true m false = refl
full_three false true true = refl
full_three false true false = refl
full_three false false true = refl
full_three false false false = refl

pub full_is : (index : ℕ) (p : Parameter) (vs : List rules.Value) → (not (value.is_empty (map element_of (group index vs))) && (not (kind.is_variadic p.kind) && not p.multiple)) ≡ is_full (record { place = index; parameter = meaning p }) vs
full_is index p vs =
    rw (empty_is (group index vs), variadic_is p.kind)
    (full_three (kind.is_variadic p.kind) p.multiple (filled (group index vs)))

module _ (next path : ℕ) (recipe : Recipe) (rest : List Text) where
  abbrev ps : List Parameter
  ps = recipe.parameters

  -- what pushing a text does
  abbrev pub Pushes : (index i : ℕ) (vs : List rules.Value) → Refusal → Text → ℕ → Bool → Result Applied Error → Type 0
  Pushes index i vs f text word true r = Errs next r f
  Pushes index i vs f text word false r = r ≡ Ok (record { arguments = groups_of 0 ps (vs ++ record { parameter = index; text = text; word = word } ∷ []); i = i })

  pub push_does : (spot : Spot) (s : Switch) (index : ℕ) (p : Parameter) (vs : List rules.Value) (text : Text) (i word : ℕ) (f : Refusal) → slice_get ps index ≡ Some p → refusal_of (DuplicateOption spot recipe.number s) ≡ Some (shifted_by next f) → word ≡ spot.path + i →
      Pushes index i vs f text word (is_full (record { place = index; parameter = meaning p }) vs) (pushed spot recipe s (groups_of 0 ps vs) index p (record { text = text; i = i }))
  push_does spot s index p vs text i word f at number is =
      rw (group_at ps vs index p at, full_is index p vs)
      (either_way (is_full (record { place = index; parameter = meaning p }) vs)
      (λ e. rw e (record { error = DuplicateOption spot recipe.number s; is = refl; number = number }))
      (λ e. rw (e, ← is) (ap (λ (gs : List Value). Ok (record { arguments = gs; i = i })) (group_set ps vs index p (record { parameter = index; text = text; word = word }) at refl))))

  -- what the switches of one word come to, where `ws` are the words behind it
  abbrev pub Agrees : ℕ → ℕ → Did → List Text → Result Applied Error → Type 0
  Agrees i k (Wrong f) ws r = Errs next r f
  Agrees i k (Gave hs Nobody) ws r = r ≡ Ok (record { arguments = groups_of 0 ps hs; i = i })
  Agrees i k (Gave hs (For c at j)) [] r = Errs next r (refusal.OptionMissingValue at j)
  Agrees i k (Gave hs (For c at j)) (w ∷ ws) r = Pushes c.place (suc i) hs (refusal.DuplicateOption at j) w (suc k) (is_full c hs) r

  module _ (apart : Apart (map meaning ps)) (i k : ℕ) (is : k ≡ path + i) (ws : List Text) (ahead : slice_get rest (suc i) ≡ slice_get ws 0) where
    word_is : next + k ≡ next + (path + i)
    word_is = ap (λ (n : ℕ). next + n) is

    -- an error at this word tells it
    tells : (make : ℕ → Refusal) → ◌≡◌ {A = Option Refusal} (Some (make (next + (path + i)))) (Some (make (next + k)))
    tells make = ap (λ (n : ℕ). Some (make n)) (sym word_is)

    err : {X : Type 0} (e : Error) (f : Refusal) → refusal_of e ≡ Some (shifted_by next f) → Errs {X = X} next (Err e) f
    err e f n = record { error = e; is = refl; number = n }

    -- pushing is the last thing that a switch does
    given_does : (vs : List rules.Value) (index j : ℕ) (p : Parameter) (full : Bool) (text : Text) (r : Result Applied Error) → Pushes index i vs (refusal.DuplicateOption k j) text k full r → Agrees i k (cond full (Wrong (refusal.DuplicateOption k j)) (Gave (vs ++ record { parameter = index; text = text; word = k } ∷ []) Nobody)) ws r
    given_does vs index j p true text r h = h
    given_does vs index j p false text r h = h

    waits_does : (vs : List rules.Value) (j index : ℕ) (p : Parameter) (s : Switch) → slice_get ps index ≡ Some p → (vs' : List Text) → slice_get rest (suc i) ≡ slice_get vs' 0 →
        Agrees i k (Gave vs (For (record { place = index; parameter = meaning p }) k j)) vs' (and_then (own_or_next (behind next path i j) recipe s rest i None) λ taken. pushed (behind next path i j) recipe s (groups_of 0 ps vs) index p taken)
    waits_does vs j index p s at [] e = rw e (err (OptionMissingValue (behind next path i j) recipe.number s) (refusal.OptionMissingValue k j) (tells (λ w. refusal.OptionMissingValue w j)))
    waits_does vs j index p s at (w ∷ ws') e =
        let n : suc k ≡ path + suc i = omega arith in
        rw e (push_does (behind next path i j) s index p vs w (suc i) (suc k) (refusal.DuplicateOption k j) at (tells (λ w. refusal.DuplicateOption w j)) n)

    -- the last switch
    pub last_does : (vs : List rules.Value) (j : ℕ) (s : Switch) (value : Option Text) → Agrees i k (last_step k j (called (map meaning ps) (switch_means s)) value vs) ws (apply (behind next path i j) recipe (long_of ps) (short_of ps) s (groups_of 0 ps vs) rest i value true)
    last_does vs j s value = go (view ps apart s) value
      where
        spot : Spot
        spot = behind next path i j

        gives : (index : ℕ) (p : Parameter) (text : Text) → slice_get ps index ≡ Some p → Agrees i k (give k j (record { place = index; parameter = meaning p }) text vs) ws (pushed spot recipe s (groups_of 0 ps vs) index p (record { text = text; i = i }))
        gives index p text at = given_does vs index j p (is_full (record { place = index; parameter = meaning p }) vs) text _ (push_does spot s index p vs text i k (refusal.DuplicateOption k j) at (tells (λ w. refusal.DuplicateOption w j)) is)

        go : View ps s → (value : Option Text) → Agrees i k (last_step k j (called (map meaning ps) (switch_means s)) value vs) ws (apply spot recipe (long_of ps) (short_of ps) s (groups_of 0 ps vs) rest i value true)
        go (View.nobody a b) None = rw (a, b) (err (UnknownOption spot recipe.number s) (refusal.UnknownOption k j) (tells (λ w. refusal.UnknownOption w j)))
        go (View.nobody a b) (Some v) = rw (a, b) (err (UnknownOption spot recipe.number s) (refusal.UnknownOption k j) (tells (λ w. refusal.UnknownOption w j)))
        go (View.calls index p a at b) None =
            rw (a, at, b)
            (either_way (p.flag || p.value)
            (λ e. rw e (gives index p true_text at))
            (λ e. rw e (waits_does vs j index p s at ws ahead)))
        go (View.calls index p a at b) (Some v) =
            rw (a, at, b)
            (either_way (p.flag || p.value)
            (λ e. rw e (err (FlagWithValue spot recipe.number s) (refusal.FlagWithValue k j) (tells (λ w. refusal.FlagWithValue w j))))
            (λ e. rw e (gives index p v at)))

    -- a switch before the last, and then the others
    then_given : (vs : List rules.Value) (index j : ℕ) (go : List rules.Value → Did) (more : List Value → ℕ → Result Applied Error) → ((hs : List rules.Value) → Agrees i k (go hs) ws (more (groups_of 0 ps hs) i)) → (full : Bool) (r : Result Applied Error) → Pushes index i vs (refusal.DuplicateOption k j) true_text k full r →
        Agrees i k (cond full (Wrong (refusal.DuplicateOption k j)) (go (vs ++ record { parameter = index; text = true_text; word = k } ∷ []))) ws (and_then r λ a. more a.arguments a.i)
    then_given vs index j go more on true r h = record { error = h.error; is = ap (λ (x : Result Applied Error). and_then x λ a. more a.arguments a.i) h.is; number = h.number }
    then_given vs index j go more on false r h = rw h (on (vs ++ record { parameter = index; text = true_text; word = k } ∷ []))

    then_does : (vs : List rules.Value) (j : ℕ) (s : Switch) (go : List rules.Value → Did) (more : List Value → ℕ → Result Applied Error) → ((hs : List rules.Value) → Agrees i k (go hs) ws (more (groups_of 0 ps hs) i)) →
        Agrees i k (then_step k j (called (map meaning ps) (switch_means s)) vs go) ws (and_then (apply (behind next path i j) recipe (long_of ps) (short_of ps) s (groups_of 0 ps vs) rest i None false) λ a. more a.arguments a.i)
    then_does vs j s go more on = by (view ps apart s)
      where
        spot : Spot
        spot = behind next path i j

        by : View ps s → Agrees i k (then_step k j (called (map meaning ps) (switch_means s)) vs go) ws (and_then (apply spot recipe (long_of ps) (short_of ps) s (groups_of 0 ps vs) rest i None false) λ a. more a.arguments a.i)
        by (View.nobody a b) = rw (a, b) (err (UnknownOption spot recipe.number s) (refusal.UnknownOption k j) (tells (λ w. refusal.UnknownOption w j)))
        by (View.calls index p a at b) =
            rw (a, at, b)
            (either_way (p.flag || p.value)
            (λ e. rw e (then_given vs index j go more on (is_full (record { place = index; parameter = meaning p }) vs) _ (push_does spot s index p vs true_text i k (refusal.DuplicateOption k j) at (tells (λ w. refusal.DuplicateOption w j)) is)))
            (λ e. rw e (err (NonFinalOptionWithValue spot recipe.number s) (refusal.NonFinalOptionWithValue k j) (tells (λ w. refusal.NonFinalOptionWithValue w j)))))

    again : (r : Result Applied Error) → and_then {B = Applied} r (λ a. Ok (record { arguments = a.arguments; i = a.i })) ≡ r
    again (Ok a) = refl
    again (Err e) = refl

    -- all switches of a word
    pub run_does : (value : Option Text) (count : ℕ) (ss : List Switch) (vs : List rules.Value) (j : ℕ) → count ≡ j + length ss →
        Agrees i k (run (map meaning ps) k value vs j (map switch_means ss)) ws (apply_all (behind next path i) recipe (long_of ps) (short_of ps) rest value count j ss (groups_of 0 ps vs) i)
    run_does value count [] vs j e = refl
    run_does value count (s ∷ []) vs j e =
        let last : suc j ≡ count = omega arith in
        rw (eq-eqb (suc j) count last)
        (subst (Agrees i k (last_step k j (called (map meaning ps) (switch_means s)) value vs) ws) (sym (again (apply (behind next path i j) recipe (long_of ps) (short_of ps) s (groups_of 0 ps vs) rest i value true))) (last_does vs j s value))
    run_does value count (s ∷ r ∷ ss) vs j e =
        let more : count ≡ suc j + length (r ∷ ss) = omega arith in
        rw (ne_eqb (suc j) count (λ h. omega arith))
        (then_does vs j s (λ hs. run (map meaning ps) k value hs (suc j) (map switch_means (r ∷ ss)))
        (λ gs n. apply_all (behind next path i) recipe (long_of ps) (short_of ps) rest value count (suc j) (r ∷ ss) gs n)
        (λ hs. run_does value count (r ∷ ss) hs (suc j) more))
