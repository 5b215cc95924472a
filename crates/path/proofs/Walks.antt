-- The walk along names: the rules and the function agree.
use Rattle.std.proofs.Common.{◌≡◌, ℕ, suc, ◌+◌, Bool, true, false, List, [], ◌∷◌, ◌++◌, length, Some, None, Ok, Err, Continue, Break, ControlFlow, Option, Result, sym, refl, ap, ◌∙◌, subst, add-zero, zero-add, arith}
use Rattle.std.proofs.lemmas.List.{append-nil, append_assoc, length_push}
use Rattle.refusal.specs.declared.Refusal.{Refusal}
use Rattle.text.specs.Identifier.{Text}
use Rattle.register.specs.Meaning.{NameMeaning}
use Rattle.path.specs.declared.path.Path.{Path}
use Rattle.path.specs.Path.{ToModule, Modulepath, words_of, word_behind, followed_by, Leads, Lacks, Reaches, EndsAt, Resolves, Strays}
use Rattle.path.specs.Steps.{StepsTo, ResolvesTo}
use Rattle.path.proofs.Model.{step_of, home_by, home, after, walk, whole}
use Rattle.path.proofs.Names.{module_is, recipe_is, stop_is, step_does}

pub leads_push : {names : NameMeaning} {at m next : ℕ} {front : List Text} {name : Text} → Leads names at front m → ToModule names m name next → Leads names at (front ++ name ∷ []) next
leads_push Leads.here n = Leads.onward n Leads.here
leads_push (Leads.onward k l) n = Leads.onward k (leads_push l n)

module _ (names : NameMeaning) (path : Modulepath) where
  -- From the rules to the function.

  leads_is : {at end : ℕ} {front : List Text} → Leads names at front end → (used : ℕ) (more : List Text) → walk names path at used (front ++ more) ≡ walk names path end (used + length front) more
  leads_is {end} Leads.here used more = ap (λ u. walk names path end u more) (sym (add-zero used))
  leads_is {at} {end} (Leads.onward {name} {rest} m l) used more =
      let e : (used + 1) + length rest ≡ used + suc (length rest) = omega arith in
      rw (module_is names at name (followed_by path (rest ++ more)) (word_behind path used) m) (leads_is l (used + 1) more ∙ ap (λ u. walk names path end u more) e)

  reached_is : {front rest : List Text} {at : ℕ} {name : Text} → Reaches names path front at name rest → whole names path ≡ walk names path at (length front) (name ∷ rest)
  reached_is {front} {rest} {at} {name} h =
      ap (walk names path names.root 0) h.cut ∙ leads_is h.lead 0 (name ∷ rest) ∙ ap (λ u. walk names path at u (name ∷ rest)) (zero-add (length front))

  end_is : {at : ℕ} → EndsAt names path at → whole names path ≡ home names at (words_of path (length path.components))
  end_is {at} l =
      ap (walk names path names.root 0) (sym (append-nil path.components)) ∙ leads_is l 0 [] ∙ ap (λ u. walk names path at u []) (zero-add (length path.components))

  lacks_is : {at : ℕ} {refusal : Refusal} → Lacks names at refusal → (words : ℕ) → home names at words ≡ Err refusal
  lacks_is (Lacks.recipes d a) words = rw (d, a)
  lacks_is (Lacks.default d a) words = rw (d, a)

  pub resolves_is : {found : Path} → Resolves names path found → whole names path ≡ Ok found
  resolves_is (Resolves.at_recipe {front} {rest} {name} {at} h alone n) =
      reached_is h ∙ rw (recipe_is names at name (followed_by path rest) (word_behind path (length front)) alone n)
  resolves_is (Resolves.at_default l d) = end_is l ∙ rw d

  pub strays_is : {refusal : Refusal} → Strays names path refusal → whole names path ≡ Err refusal
  strays_is (Strays.at_name {front} {rest} {name} {at} h s) =
      reached_is h ∙ rw (stop_is names at name (followed_by path rest) (word_behind path (length front)) s)
  strays_is (Strays.at_end l k) = end_is l ∙ lacks_is k (words_of path (length path.components))

  -- From the function to the rules.

  end_does : (at : ℕ) → EndsAt names path at → ResolvesTo names path (home names at (words_of path (length path.components)))
  end_does at l = go (names.default at) refl (names.has_recipes at) refl
    where
      go : (o : Option ℕ) → names.default at ≡ o → (b : Bool) → names.has_recipes at ≡ b → ResolvesTo names path (home_by o b (words_of path (length path.components)))
      go (Some n) d b a = Resolves.at_default l d
      go None d true a = Strays.at_end l (Lacks.default d a)
      go None d false a = Strays.at_end l (Lacks.recipes d a)

  -- what a reached name does
  name_does : (front rest : List Text) (at : ℕ) (name : Text) → Reaches names path front at name rest → (s : Result (ControlFlow ℕ ℕ) Refusal) → StepsTo names at name (followed_by path rest) (word_behind path (length front)) s →
      ((next : ℕ) → ToModule names at name next → ResolvesTo names path (walk names path next (length front + 1) rest)) →
      ResolvesTo names path (after s (words_of path (length front + 1)) (λ next. walk names path next (length front + 1) rest))
  name_does front rest at name h (Ok (Continue next)) why go = go next why
  name_does front rest at name h (Ok (Break n)) why go = Resolves.at_recipe h why.0 why.1
  name_does front rest at name h (Err refusal) why go = Strays.at_name h why

  walk_from : (front rest : List Text) (at : ℕ) → path.components ≡ front ++ rest → Leads names names.root front at → ResolvesTo names path (walk names path at (length front) rest)
  walk_from front [] at cut l =
      let e : path.components ≡ front = cut ∙ append-nil front in
      subst (λ ns. ResolvesTo names path (home names at (words_of path (length ns)))) e (end_does at (subst (λ ns. Leads names names.root ns at) (sym e) l))
  walk_from front (name ∷ rest) at cut l =
      name_does front rest at name (record { cut = cut; lead = l }) (step_of names at name (followed_by path rest) (word_behind path (length front))) (step_does names at name (followed_by path rest) (word_behind path (length front)))
      (λ next n. subst (λ u. ResolvesTo names path (walk names path next u rest)) (length_push front name)
      (walk_from (front ++ name ∷ []) rest next (cut ∙ sym (append_assoc front (name ∷ []) rest)) (leads_push l n)))

  pub whole_does : ResolvesTo names path (whole names path)
  whole_does = walk_from [] path.components names.root refl Leads.here
