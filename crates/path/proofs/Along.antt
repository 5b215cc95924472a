-- Steps of the walk along the names of a path.
use Rattle.std.proofs.Common.{◌≡◌, ℕ, ◌+◌, ◌<◌, ◌≤◌, Bool, true, false, cond, List, [], ◌∷◌, length, take, IsErrAnd, MatchOption, Some, None, Option, Ok, Err, Continue, Break, ControlFlow, Result, sym, refl, ap, ◌∙◌, subst, arith}
use Rattle.std.proofs.lemmas.List.{length-take-le, take_all}
use Rattle.std.proofs.lemmas.Iterator.{YieldsList}
use Rattle.std.proofs.lemmas.Iterator.Consumers.{YieldsList-at, YieldsList-turn, YieldsList-end}
use Rattle.std.specs.Iterator.{Yields}
use Rattle.refusal.specs.declared.Refusal.{Refusal}
use Rattle.refusal.specs.declared.Refusal.TheVariants.{NoRecipes, NoDefaultRecipe}
use Rattle.text.specs.Identifier.{Text}
use Rattle.register.specs.Meaning.{NameMeaning}
use Rattle.path.specs.declared.path.Path.{Path}
use Rattle.path.specs.declared.name.Name.{Name}
use Rattle.path.specs.Path.{Nowhere, ToModule, Stops, Modulepath, words_of, word_behind, followed_by, Leads, Lacks, Reaches, Resolves, Strays}
use Rattle.path.specs.Steps.{unknown_name, StepsTo, DefaultOf, ResolvesTo, of_words}
use Rattle.path.specs.Names.{NameAt, name_of, names_of, Names}
use Rattle.path.proofs.Walks.{leads_push}
use Rattle.path.proofs.Places.{Place, names_many, place_of, followed_is, word_is, words_are}

-- a name in a word of its own is followed by no piece
pub alone : (words rest : List Text) → followed_by (of_words words) rest ≡ false
alone words [] = refl
alone words (name ∷ rest) = refl

-- a name that no kind finds stops
pub nowhere_stops : {names : NameMeaning} {at : ℕ} {name : Text} {word : ℕ} (followed : Bool) (f : Refusal) → Nowhere names at name → f ≡ unknown_name followed word → Stops names at name followed word f
nowhere_stops true f n e = subst (Stops _ _ _ true _) (sym e) (Stops.unknown_submodule refl n)
nowhere_stops false f n e = subst (Stops _ _ _ false _) (sym e) (Stops.unknown_recipe refl n)

-- a default that is there, or what a module without one lacks
pub default_or_lacks : (names : NameMeaning) (at : ℕ) (o : Option ℕ) (r : Result ℕ Refusal) (P : Refusal → Type 0) → names.default at ≡ o → MatchOption o (IsErrAnd r P) (λ x. r ≡ Ok x) → ((f : Refusal) → P f → f ≡ cond (names.has_recipes at) (NoDefaultRecipe 0) (NoRecipes 0)) → DefaultOf names at r
default_or_lacks names at (Some recipe) r P d is lacks = subst (DefaultOf names at) (sym is) d
default_or_lacks names at None (Ok recipe) P d is lacks = absurd is
default_or_lacks names at None (Err f) P d is lacks = subst (Lacks names at) (sym (lacks f is)) (by (names.has_recipes at) refl)
  where
    by : (b : Bool) → names.has_recipes at ≡ b → Lacks names at (cond b (NoDefaultRecipe 0) (NoRecipes 0))
    by true e = Lacks.default d e
    by false e = Lacks.recipes d e

-- a refusal that goes up
pub stray_out : (names : NameMeaning) (path : Modulepath) (out : Result Path Refusal) (refusal : Refusal) → IsErrAnd out (λ y. y ≡ refusal) → Strays names path refusal → ResolvesTo names path out
stray_out names path (Ok found) refusal o s = absurd o
stray_out names path (Err y) refusal o s = subst (Strays names path) (sym o) s

-- one turn of the walk, at place i: the names before lead to this module
module _ (names : NameMeaning) (path : Modulepath) (i at : ℕ) (name : NameAt) (lead : Leads names names.root (take i path.components) at) (here : i < length path.components) (place : Place path.spaced 0 path.components i name) where
  reaches : Reaches names path (take i path.components) at name.text place.rest
  reaches = record { cut = place.cut; lead = lead }

  followed : name.followed ≡ followed_by path place.rest
  followed = place.followed ∙ followed_is path i name place place.rest

  count : length (take i path.components) ≡ i
  count = let h : i ≤ length path.components = omega arith in length-take-le i path.components h

  pub stops_here : (refusal : Refusal) → Stops names at name.text name.followed name.word refusal → Strays names path refusal
  stops_here refusal s =
      Strays.at_name reaches
      (subst (λ b. Stops names at name.text b (word_behind path (length (take i path.components))) refusal) followed
      (subst (λ w. Stops names at name.text name.followed w refusal) (sym (ap (word_behind path) count ∙ word_is path i name place)) s))

  pub takes_here : (next : ControlFlow ℕ ℕ) (recipe : ℕ) → StepsTo names at name.text name.followed name.word (Ok next) → next ≡ Break recipe → Resolves names path (record { recipe = recipe; words = name.word + 1; default = false })
  takes_here next recipe s e =
      let why = subst (λ q. StepsTo names at name.text name.followed name.word (Ok q)) e s in
      subst (λ n. Resolves names path (record { recipe = recipe; words = n; default = false })) (ap (λ (k : ℕ). words_of path (k + 1)) count ∙ words_are path i name place)
      (Resolves.at_recipe reaches (sym followed ∙ why.0) why.1)

  pub enters_here : (next : ControlFlow ℕ ℕ) (into : ℕ) → StepsTo names at name.text name.followed name.word (Ok next) → next ≡ Continue into → Leads names names.root (take (i + 1) path.components) into
  enters_here next into s e =
      let why : ToModule names at name.text into = subst (λ q. StepsTo names at name.text name.followed name.word (Ok q)) e s in
      subst (λ front. Leads names names.root front into) (sym place.more) (leads_push lead why)

-- all names lead to modules
module _ (names : NameMeaning) (path : Modulepath) (i at : ℕ) (lead : Leads names names.root (take i path.components) at) (past : i ≡ length path.components) where
  ends : Leads names names.root path.components at
  ends = subst (λ front. Leads names names.root front at) (take_all i path.components (omega arith)) lead

  pub lacks_here : (refusal : Refusal) → Lacks names at refusal → Strays names path refusal
  lacks_here refusal l = Strays.at_end ends l

  pub ends_here : (recipe words : ℕ) → words_of path (length path.components) ≡ words → names.default at ≡ Some recipe → Resolves names path (record { recipe = recipe; words = words; default = true })
  ends_here recipe words n d = subst (λ w. Resolves names path (record { recipe = recipe; words = w; default = true })) n (Resolves.at_default ends d)

-- what an iterator of a path's names gave so far
module _ {I : Type 0} {steps : I → Option Name → I → Type 0} {along : I} (path : Modulepath) {words : ℕ} (given : Names steps along path words) (start : I) (same : start ≡ along) (so_far : List Name) (now : I) (gave : Yields steps start so_far now) where
  road : YieldsList steps name_of start (names_of path)
  road = YieldsList-at same (record { runs = given.gives })

  pub here : (r : Option Name) (next : I) (name : Name) → r ≡ Some name → steps now r next → (length so_far < length path.components) × Place path.spaced 0 path.components (length so_far) (name_of name)
  here r next name is step =
      let t = YieldsList-turn road so_far now gave r next name is step in
      let h : length so_far < length path.components = omega (arith, names_many path.spaced 0 path.components, t.0) in
      (h, place_of path.spaced 0 path.components (length so_far) (name_of name) h t.1)

  pub at_end : (r : Option Name) (next : I) → r ≡ None → steps now r next → length so_far ≡ length path.components
  at_end r next is step = (YieldsList-end road so_far now gave r next is step).1 ∙ names_many path.spaced 0 path.components
