-- What is missing, the counts and the patterns, by just and by the model.
use Rattle.std.proofs.Common.{◌≡◌, ℕ, suc, ◌+◌, Bool, true, false, cond, not, ◌&&◌, ◌||◌, ltb, leb, List, [], ◌∷◌, map, length, is_some, Some, None, Ok, Err, Option, Result, sym, refl, ap, subst, add-zero, zero-add, arith}
use Rattle.std.proofs.lemmas.List.{length-map}
use Rattle.std.proofs.lemmas.Bool.{lt-ltb, le-leb, lt-leb, ltb-true, ltb-false}
use Rattle.refusal.specs.declared.Refusal.{Refusal}
use Rattle.refusal.specs.declared.Refusal.TheVariants as refusal
use Rattle.text.specs.Identifier.{Text}
use Rattle.text.proofs.Splits.{either_way}
use Rattle.judge.specs.Meaning.{JudgeMeaning}
use Rattle.reading.specs.Signature as marks
use Rattle.reading.specs.Reading as rules
use Rattle.reading.specs.Reading.{group, filled, is_missing, at_least, at_most, accepted}
use Rattle.reading.specs.Model as model
use Rattle.reading.specs.Model.{else!, first_of, check_option, any_missing, check_plain, check_pattern, check_sound, tally}
use Rattle.just.specs.Results.{and_then}
use Rattle.just.specs.ParameterKind as kind
use Rattle.just.specs.Error.{Error, Switch}
use Rattle.just.specs.Error.Switch.{Long, Short}
use Rattle.just.specs.Error.Error.{MissingOption, PositionalArgumentCountMismatch, ArgumentTooFewValues, ArgumentTooManyValues, ArgumentPatternMismatch}
use Rattle.just.specs.Value as value
use Rattle.just.specs.Value.{Value}
use Rattle.just.specs.Parameter.{Parameter, is_option, is_required, check_min, check_max, check_value_count, check_pattern_match}
use Rattle.just.specs.Recipe.{Recipe, count_where}
use Rattle.just.specs.InvocationParser.{gap, missing_positional, max_positional, check_missing, check_elements, check_group, check_groups, behind}
use Rattle.just.specs.InvocationParser.Gap.{Filled, MissingSwitch, MissingPositional}
use Rattle.just.proofs.Meaning.{meaning, star_is, required_plain_lem}
use Rattle.just.proofs.Groups.{element_of, groups_of, empty_is}
use Rattle.just.proofs.Switches.{Errs}

or-false : (x : Bool) → x ≡ (x || false)
or-false true = refl
or-false false = refl

or-true : (x y : Bool) → (x || (true || y)) ≡ true
or-true true y = refl
or-true false y = refl

or_swap : (x y : Bool) → (x || y) ≡ (y || x)
or_swap true true = refl
or_swap true false = refl
or_swap false true = refl
or_swap false false = refl

pub leb_not : (m n : ℕ) → leb m n ≡ not (ltb n m)
leb_not m n =
    either_way (ltb n m)
    (λ e. rw e (lt-leb m n (ltb-true n m e)))
    (λ e. rw e (le-leb m n (ltb-false n m e)))

-- what a parameter and its group come to
data GapView (vs : List rules.Value) (k : ℕ) (p : Parameter) : Type 0 where
  fine : gap p (map element_of (group k vs)) ≡ Filled → is_missing vs k (meaning p) ≡ false → GapView vs k p
  option : (s : Switch) → gap p (map element_of (group k vs)) ≡ MissingSwitch s → is_option p ≡ true → is_missing vs k (meaning p) ≡ true → GapView vs k p
  positional : gap p (map element_of (group k vs)) ≡ MissingPositional → is_option p ≡ false → is_missing vs k (meaning p) ≡ true → GapView vs k p

may_is : (p : Parameter) → marks.may_be_empty (meaning p) ≡ (is_some p.default || (kind.is_star p.kind || p.flag))
may_is p = rw (star_is p.kind, or_swap p.flag (kind.is_star p.kind))

gap_view : (vs : List rules.Value) (k : ℕ) (p : Parameter) → GapView vs k p
gap_view vs k p =
    either_way (filled (group k vs))
    (λ e. GapView.fine (rw (empty_is (group k vs), e)) (rw e))
    (λ e. either_way (is_some p.default || (kind.is_star p.kind || p.flag))
    (λ f. GapView.fine (rw (empty_is (group k vs), e, f)) (rw (e, may_is p, f)))
    (λ f. lacks e f p.long refl p.short refl))
  where
    lacks : filled (group k vs) ≡ false → (is_some p.default || (kind.is_star p.kind || p.flag)) ≡ false → (long : Option Text) → p.long ≡ long → (short : Option ℕ) → p.short ≡ short → GapView vs k p
    lacks e f (Some name) a short b = GapView.option (Long name) (rw (empty_is (group k vs), e, f, a)) (rw a) (rw (e, may_is p, f))
    lacks e f None a (Some c) b = GapView.option (Short c) (rw (empty_is (group k vs), e, f, a, b)) (rw (a, b)) (rw (e, may_is p, f))
    lacks e f None a None b = GapView.positional (rw (empty_is (group k vs), e, f, a, b)) (rw (a, b)) (rw (e, may_is p, f))

module _ (next path number : ℕ) where
  -- the first option that is missing, or whether anything is
  abbrev Misses : Option Refusal → Bool → Result ℕ Error → Type 0
  Misses (Some f) any r = Errs next r f
  Misses None any r = (n : ℕ) × (r ≡ Ok n) × (ltb 0 n ≡ any)

  missing_does : (vs : List rules.Value) (k : ℕ) (ps : List Parameter) (m : ℕ) → Misses (first_of (check_option vs) k (map meaning ps)) (ltb 0 m || any_missing vs k (map meaning ps)) (missing_positional (behind next path 0 0) number k ps (groups_of k ps vs) m)
  missing_does vs k [] m = (m, refl, or-false (ltb 0 m))
  missing_does vs k (p ∷ ps) m = by (gap_view vs k p) (missing_does vs (suc k) ps)
    where
      by : GapView vs k p → ((n : ℕ) → Misses (first_of (check_option vs) (suc k) (map meaning ps)) (ltb 0 n || any_missing vs (suc k) (map meaning ps)) (missing_positional (behind next path 0 0) number (suc k) ps (groups_of (suc k) ps vs) n)) →
          Misses (first_of (check_option vs) k (map meaning (p ∷ ps))) (ltb 0 m || any_missing vs k (map meaning (p ∷ ps))) (missing_positional (behind next path 0 0) number k (p ∷ ps) (groups_of k (p ∷ ps) vs) m)
      by (GapView.fine g miss) on = rw (g, miss) (either_way (is_option p) (λ o. rw o (on m)) (λ o. rw o (on m)))
      by (GapView.option s g o miss) on = rw (g, o, miss) (record { error = MissingOption (behind next path 0 0) number s k; is = refl; number = ap (λ (w : ℕ). Some (refusal.MissingOption w k)) (sym (add-zero next)) })
      by (GapView.positional g o miss) on =
          rw (g, o, miss, or-true (ltb 0 m) (any_missing vs (suc k) (map meaning ps)))
          (subst (λ (b : Bool). Misses (first_of (check_option vs) (suc k) (map meaning ps)) (b || any_missing vs (suc k) (map meaning ps)) (missing_positional (behind next path 0 0) number (suc k) ps (groups_of (suc k) ps vs) (suc m))) (lt-ltb 0 (suc m) (omega arith)) (on (suc m)))

  -- a check's first fault
  abbrev pub Checks : Option Refusal → Result (Unit {0}) Error → Type 0
  Checks (Some f) r = Errs next r f
  Checks None r = r ≡ Ok tt

  then_checks : (o q : Option Refusal) (r s : Result (Unit {0}) Error) → Checks o r → Checks q s → Checks (else! o q) (and_then r λ _. s)
  then_checks None q r s h k = rw h k
  then_checks (Some f) q r s h k = record { error = h.error; is = ap (λ (x : Result (Unit {0}) Error). and_then x λ _. s) h.is; number = h.number }

  module _ (judge : JudgeMeaning) where
    match_does : (k : ℕ) (pattern : Option ℕ) (v : rules.Value) (q : Option Refusal) (s : Result (Unit {0}) Error) → Checks q s → Checks (cond (accepted judge pattern v) q (Some (refusal.ArgumentPatternMismatch v.word k))) (and_then (check_pattern_match judge (behind next 0 v.word 0) number k pattern v.text) λ _. s)
    match_does k None v q s h = h
    match_does k (Some n) v q s h =
        either_way (judge n v.text)
        (λ e. rw e h)
        (λ e. rw e (record { error = ArgumentPatternMismatch (behind next 0 v.word 0) number k n v.text; is = refl; number = ap (λ (w : ℕ). Some (refusal.ArgumentPatternMismatch (next + w) k)) (zero-add v.word) }))

    pattern_does : (k : ℕ) (pattern : Option ℕ) (g : List rules.Value) → Checks (check_pattern judge k pattern g) (check_elements judge (λ word. behind next 0 word 0) number k pattern (map element_of g))
    pattern_does k pattern [] = refl
    pattern_does k pattern (v ∷ g) = match_does k pattern v (check_pattern judge k pattern g) (check_elements judge (λ word. behind next 0 word 0) number k pattern (map element_of g)) (pattern_does k pattern g)

    max_does : (k n : ℕ) (max : Option ℕ) (q : Option Refusal) (s : Result (Unit {0}) Error) → Checks q s → Checks (cond (at_most max n) q (Some (refusal.ArgumentTooManyValues 0 k n))) (and_then (check_max (behind next 0 0 0) number k max n) λ _. s)
    max_does k n None q s h = h
    max_does k n (Some m) q s h =
        rw (leb_not n m)
        (either_way (ltb m n)
        (λ e. rw e (record { error = ArgumentTooManyValues (behind next 0 0 0) number k n m; is = refl; number = ap (λ (w : ℕ). Some (refusal.ArgumentTooManyValues w k n)) (sym (add-zero next)) }))
        (λ e. rw e h))

    min_does : (k n : ℕ) (min : Option ℕ) (q : Option Refusal) (s : Result (Unit {0}) Error) → Checks q s → Checks (cond (at_least min n) q (Some (refusal.ArgumentTooFewValues 0 k n))) (and_then (check_min (behind next 0 0 0) number k min n) λ _. s)
    min_does k n None q s h = h
    min_does k n (Some m) q s h =
        rw (leb_not m n)
        (either_way (ltb n m)
        (λ e. rw e (record { error = ArgumentTooFewValues (behind next 0 0 0) number k n m; is = refl; number = ap (λ (w : ℕ). Some (refusal.ArgumentTooFewValues w k n)) (sym (add-zero next)) }))
        (λ e. rw e h))

    nested : (a b c : Result (Unit {0}) Error) → and_then (and_then a λ _. b) (λ _. c) ≡ and_then a (λ _. and_then b λ _. c)
    nested (Ok u) b c = refl
    nested (Err e) b c = refl

    some_does : (k : ℕ) (p : Parameter) (g : List rules.Value) → Checks (model.check_group judge k (meaning p) g) (and_then (check_value_count (behind next 0 0 0) number k p (map element_of g)) λ _. check_elements judge (λ word. behind next 0 word 0) number k p.pattern (map element_of g))
    some_does k p g =
        rw (length-map g element_of)
        (subst (Checks (model.check_group judge k (meaning p) g)) (sym (nested (check_min (behind next 0 0 0) number k p.min (length g)) (check_max (behind next 0 0 0) number k p.max (length g)) (check_elements judge (λ word. behind next 0 word 0) number k p.pattern (map element_of g))))
        (min_does k (length g) p.min _ _ (max_does k (length g) p.max _ _ (pattern_does k p.pattern g))))

    filled_does : (k : ℕ) (p : Parameter) (g : List rules.Value) → Checks (cond (filled g) (model.check_group judge k (meaning p) g) None) (and_then (cond (not (value.is_empty (map element_of g))) (check_value_count (behind next 0 0 0) number k p (map element_of g)) (Ok tt)) λ _. check_elements judge (λ word. behind next 0 word 0) number k p.pattern (map element_of g))
    filled_does k p [] = refl
    filled_does k p (v ∷ g) = some_does k p (v ∷ g)

    group_does : (vs : List rules.Value) (k : ℕ) (p : Parameter) → Checks (check_sound judge vs k (meaning p)) (check_group judge (λ word. behind next 0 word 0) number k p (map element_of (group k vs)))
    group_does vs k p =
        either_way p.value
        (λ e. rw e)
        (λ e. rw e (filled_does k p (group k vs)))

    sound_does : (vs : List rules.Value) (k : ℕ) (ps : List Parameter) → Checks (first_of (check_sound judge vs) k (map meaning ps)) (check_groups judge (λ word. behind next 0 word 0) number k ps (groups_of k ps vs))
    sound_does vs k [] = refl
    sound_does vs k (p ∷ ps) = then_checks (check_sound judge vs k (meaning p)) (first_of (check_sound judge vs) (suc k) (map meaning ps)) _ _ (group_does vs k p) (sound_does vs (suc k) ps)

    -- all counts of one order, and then what stands behind them
    abbrev pub Tallies : {X : Type 0} → Option Refusal → X → Result X Error → Type 0
    Tallies (Some f) x r = Errs next r f
    Tallies None x r = r ≡ Ok x

    pub tally_does : {X : Type 0} (recipe : Recipe) (x : X) (vs : List rules.Value) (found : ℕ) → recipe.number ≡ number → Tallies (tally (map meaning recipe.parameters) judge vs found) x
        (and_then (missing_positional (behind next path 0 0) number 0 recipe.parameters (groups_of 0 recipe.parameters vs) 0) λ missing.
        and_then (check_missing (behind next path 0 0) recipe found missing) λ _.
        and_then (check_groups judge (λ word. behind next 0 word 0) number 0 recipe.parameters (groups_of 0 recipe.parameters vs)) λ _.
        Ok x)
    tally_does {X} recipe x vs found same = by (first_of (check_option vs) 0 (map meaning ps)) (missing_positional (behind next path 0 0) number 0 ps (groups_of 0 ps vs) 0) (missing_does vs 0 ps 0)
      where
        ps : List Parameter
        ps = recipe.parameters

        behind! : Result ℕ Error → Result X Error
        behind! r =
            and_then r λ missing.
            and_then (check_missing (behind next path 0 0) recipe found missing) λ _.
            and_then (check_groups judge (λ word. behind next 0 word 0) number 0 ps (groups_of 0 ps vs)) λ _.
            Ok x

        sound : (o : Option Refusal) (r : Result (Unit {0}) Error) → Checks o r → Tallies o x (and_then r λ _. Ok x)
        sound None r h = rw h
        sound (Some f) r h = record { error = h.error; is = ap (λ (y : Result (Unit {0}) Error). and_then y λ _. Ok x) h.is; number = h.number }

        counted : (n : ℕ) (any : Bool) → ltb 0 n ≡ any → Tallies (else! (cond any (Some (refusal.PositionalArgumentCountMismatch 0 found (marks.required_plain (map meaning ps)))) None) (first_of (check_sound judge vs) 0 (map meaning ps))) x (behind! (Ok n))
        counted n true e = rw e (record { error = PositionalArgumentCountMismatch (behind next path 0 0) recipe.number found (count_where (λ p. is_required p && not (is_option p)) ps) (max_positional ps); is = refl; number = rw (add-zero next, required_plain_lem ps) })
        counted n false e = rw e (sound (first_of (check_sound judge vs) 0 (map meaning ps)) (check_groups judge (λ word. behind next 0 word 0) number 0 ps (groups_of 0 ps vs)) (sound_does vs 0 ps))

        by : (o : Option Refusal) (r : Result ℕ Error) → Misses o (ltb 0 0 || any_missing vs 0 (map meaning ps)) r → Tallies (else! o (else! (check_plain vs found (map meaning ps)) (first_of (check_sound judge vs) 0 (map meaning ps)))) x (behind! r)
        by (Some f) r h = record { error = h.error; is = ap behind! h.is; number = h.number }
        by None r h = rw h.1 (counted h.0 (any_missing vs 0 (map meaning ps)) h.2)
