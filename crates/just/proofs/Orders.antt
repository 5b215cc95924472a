-- One order behind its path, by just and by the model.
use Rattle.std.proofs.Common.{◌≡◌, ℕ, suc, ◌+◌, ◌<◌, ◌≤◌, Bool, true, false, not, ◌&&◌, List, [], map, length, Some, None, Ok, Option, Result, sym, refl, ap, ◌∙◌, subst, arith}
use Rattle.std.specs.List.{AllByRecursion}
use Rattle.refusal.specs.declared.Refusal.{Refusal}
use Rattle.text.specs.Identifier.{Text}
use Rattle.judge.specs.Meaning.{JudgeMeaning}
use Rattle.register.specs.Parameters.{Apart}
use Rattle.reading.specs.Signature as marks
use Rattle.reading.specs.Model.{State, started, Scanned, scan, tally, Ordered, tallied, scanned, read_order}
use Rattle.reading.specs.Model.Scanned.{Stopped, Broken}
use Rattle.reading.specs.Model.Ordered.{Took, Refuses}
use Rattle.just.specs.Results.{and_then}
use Rattle.just.specs.Error.{Error}
use Rattle.just.specs.Value.{Value}
use Rattle.just.specs.Parameter.{Parameter}
use Rattle.just.specs.Recipe.{Recipe}
use Rattle.just.specs.Table as table
use Rattle.just.specs.InvocationParser.{Resolved, Loop, long_of, short_of, positional_from, empty_groups, start_of, loop, behind, missing_positional, check_missing, check_groups, parse_arguments}
use Rattle.just.proofs.Meaning.{meaning}
use Rattle.just.proofs.Groups.{groups_none}
use Rattle.just.proofs.Maps.{no_options}
use Rattle.just.proofs.Spelling.{Spelt}
use Rattle.just.proofs.Switches.{Errs}
use Rattle.just.proofs.Positional.{pos_of, pos_none}
use Rattle.just.proofs.Loop.{Stops, Ends, loop_does}
use Rattle.just.proofs.Counts.{Tallies, tally_does}

not_twice : (a b : Bool) → a ≡ not b → not a ≡ (b && not false)
not_twice true true e = sym e
not_twice true false e = refl
not_twice false true e = refl
not_twice false false e = sym e

module _ (judge : JudgeMeaning) (next : ℕ) (found : Resolved) (rest : List Text) where
  abbrev recipe : Recipe
  recipe = found.recipe

  abbrev ps : List Parameter
  ps = recipe.parameters

  abbrev path : ℕ
  path = found.consumed

  -- the order is taken, or refused
  abbrev pub Orders : Ordered → Result Loop Error → Type 0
  Orders (Took st ws) r = Stops next path recipe rest st ws r
  Orders (Refuses f) r = Errs next r f

  abbrev tail : Loop → Result Loop Error
  tail l =
      and_then (missing_positional (behind next path 0 0) recipe.number 0 ps l.arguments 0) λ missing.
      and_then (check_missing (behind next path 0 0) recipe l.positional_accepted missing) λ _.
      and_then (check_groups judge (λ word. behind next 0 word 0) recipe.number 0 ps l.arguments) λ _.
      Ok l

  start_does : Apart (map meaning ps) → AllByRecursion Spelt rest → Ends next path recipe rest (scan (map meaning ps) (started path) rest) (loop (behind next path) recipe (long_of ps) (short_of ps) (positional_from 0 ps) rest (suc (length rest)) (start_of ps))
  start_does apart spelt =
      let eoo : Bool = table.is_empty (long_of ps) && table.is_empty (short_of ps) in
      let k : path ≡ path + 0 = omega arith in
      let few : length rest < suc (length rest) = omega arith in
      let low : 0 ≤ length rest = omega arith in
      subst (λ (n : ℕ). Ends next path recipe rest (scan (map meaning ps) (started path) rest) (loop (behind next path) recipe (long_of ps) (short_of ps) (positional_from 0 ps) rest (suc (length rest)) (record { arguments = empty_groups ps; end_of_options = eoo; i = 0; positional_index = n; positional_accepted = 0 }))) (pos_none ps)
      (subst (λ (gs : List Value). Ends next path recipe rest (scan (map meaning ps) (started path) rest) (loop (behind next path) recipe (long_of ps) (short_of ps) (positional_from 0 ps) rest (suc (length rest)) (record { arguments = gs; end_of_options = eoo; i = 0; positional_index = pos_of ps 0; positional_accepted = 0 }))) (groups_none 0 ps)
      (loop_does next path recipe rest apart (suc (length rest)) rest few spelt 0 path 0 eoo false [] [] refl k (not_twice eoo (marks.any_option (map meaning ps)) (no_options ps)) low))

  tail_does : (st : State) (ws : List Text) (r : Result Loop Error) → (s : Stops next path recipe rest st ws r) → (o : Option Refusal) → Tallies next path recipe.number judge o s.loop! (tail s.loop!) → Orders (tallied st ws o) (and_then r tail)
  tail_does st ws r s None h = record { loop! = s.loop!; is = ap (λ (x : Result Loop Error). and_then x tail) s.is ∙ h; arguments = s.arguments; accepted = s.accepted; words = s.words; left = s.left; fits = s.fits }
  tail_does st ws r s (Some f) h = record { error = h.error; is = ap (λ (x : Result Loop Error). and_then x tail) s.is ∙ h.is; number = h.number }

  stop_does : (st : State) (ws : List Text) (r : Result Loop Error) → (s : Stops next path recipe rest st ws r) → Tallies next path recipe.number judge (tally (map meaning ps) judge st.values st.plains) s.loop! (tail s.loop!)
  stop_does st ws r s =
      subst (λ (n : ℕ). Tallies next path recipe.number judge (tally (map meaning ps) judge st.values n) s.loop! (tail s.loop!)) s.accepted
      (subst (λ (gs : List Value). Tallies next path recipe.number judge (tally (map meaning ps) judge st.values s.loop!.positional_accepted) s.loop! (checked gs)) (sym s.arguments)
      (tally_does next path recipe.number judge recipe s.loop! st.values s.loop!.positional_accepted refl))
    where
      checked : List Value → Result Loop Error
      checked gs =
          and_then (missing_positional (behind next path 0 0) recipe.number 0 ps gs 0) λ missing.
          and_then (check_missing (behind next path 0 0) recipe s.loop!.positional_accepted missing) λ _.
          and_then (check_groups judge (λ word. behind next 0 word 0) recipe.number 0 ps gs) λ _.
          Ok s.loop!

  scanned_does : (x : Scanned) (r : Result Loop Error) → Ends next path recipe rest x r → Orders (scanned (map meaning ps) judge x) (and_then r tail)
  scanned_does (Broken f) r h = record { error = h.error; is = ap (λ (y : Result Loop Error). and_then y tail) h.is; number = h.number }
  scanned_does (Stopped st ws) r h = tail_does st ws r h (tally (map meaning ps) judge st.values st.plains) (stop_does st ws r h)

  pub order_does : Apart (map meaning ps) → AllByRecursion Spelt rest → Orders (read_order (map meaning ps) judge path rest) (parse_arguments judge next found rest)
  order_does apart spelt = scanned_does (scan (map meaning ps) (started path) rest) _ (start_does apart spelt)
