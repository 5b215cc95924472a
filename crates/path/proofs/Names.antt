-- One name of a path: the rule and the function agree.
use Rattle.std.proofs.Common.{◌≡◌, ℕ, ◌+◌, Bool, true, false, cond, Some, None, Ok, Err, Continue, Break, ControlFlow, Option, Result, refl, ◌∙◌, arith, lit<}
use Rattle.refusal.specs.declared.Refusal.{Refusal}
use Rattle.refusal.specs.declared.Refusal.TheVariants.{UnknownRecipe, UnknownSubmodule, ExpectedSubmoduleButFoundRecipe, RecipeDisabled, AliasDisabled, ModuleAbsent}
use Rattle.text.specs.Identifier.{Text}
use Rattle.register.specs.Kinds.{kind_number}
use Rattle.register.specs.Meaning.{NameMeaning}
use Rattle.register.specs.declared.kind.Kind.{Kind}
use Rattle.register.specs.declared.kind.Kind.TheVariants.{Module, ModuleAlias, Recipe, RecipeAlias, DisabledRecipe, DisabledAlias, AbsentModule}
use Rattle.path.specs.Path.{FirstFound, Nowhere, ToModule, ToRecipe, Stops}
use Rattle.path.specs.Steps.{StepsTo}
use Rattle.path.proofs.Sequence.{Below, below_next, kind_small}
use Rattle.path.proofs.Model.{or_else, step_of}

-- a kind does not find the name
abbrev pub Unfound : NameMeaning → ℕ → Text → Kind → Type 0
Unfound names at name kind = names.find at kind name ≡ None

module _ (names : NameMeaning) (at : ℕ) (name : Text) (followed : Bool) (word : ℕ) where
  -- From the rule to the function.

  pub module_is : {m : ℕ} → ToModule names at name m → step_of names at name followed word ≡ Ok (Continue m)
  module_is (ToModule.by_name f) = rw f.found
  module_is (ToModule.by_alias f) = rw (f.before Module (lit< tt), f.found)

  recipe_by : {n : ℕ} → ToRecipe names at name n → step_of names at name followed word ≡ cond followed (Err (ExpectedSubmoduleButFoundRecipe word)) (Ok (Break n))
  recipe_by (ToRecipe.by_name f) = rw (f.before Module (lit< tt), f.before ModuleAlias (lit< tt), f.found)
  recipe_by (ToRecipe.by_alias f) = rw (f.before Module (lit< tt), f.before ModuleAlias (lit< tt), f.before Recipe (lit< tt), f.found)

  pub recipe_is : {n : ℕ} → followed ≡ false → ToRecipe names at name n → step_of names at name followed word ≡ Ok (Break n)
  recipe_is e h = recipe_by h ∙ rw e

  nowhere_by : Nowhere names at name → step_of names at name followed word ≡ cond followed (Err (UnknownSubmodule word)) (Err (UnknownRecipe word))
  nowhere_by f = rw (f Module, f ModuleAlias, f Recipe, f RecipeAlias, f DisabledRecipe, f DisabledAlias, f AbsentModule)

  pub stop_is : {refusal : Refusal} → Stops names at name followed word refusal → step_of names at name followed word ≡ Err refusal
  stop_is (Stops.unknown_recipe e f) = nowhere_by f ∙ rw e
  stop_is (Stops.unknown_submodule e f) = nowhere_by f ∙ rw e
  stop_is (Stops.recipe_followed e h) = recipe_by h ∙ rw e
  stop_is (Stops.disabled_recipe f) = rw (f.before Module (lit< tt), f.before ModuleAlias (lit< tt), f.before Recipe (lit< tt), f.before RecipeAlias (lit< tt), f.found)
  stop_is (Stops.disabled_alias f) = rw (f.before Module (lit< tt), f.before ModuleAlias (lit< tt), f.before Recipe (lit< tt), f.before RecipeAlias (lit< tt), f.before DisabledRecipe (lit< tt), f.found)
  stop_is (Stops.absent_module f) = rw (f.before Module (lit< tt), f.before ModuleAlias (lit< tt), f.before Recipe (lit< tt), f.before RecipeAlias (lit< tt), f.before DisabledRecipe (lit< tt), f.before DisabledAlias (lit< tt), f.found)

  -- From the function to the rule.

  -- one kind of the sequence
  kind_does : (kind : Kind) (f : ℕ → Result (ControlFlow ℕ ℕ) Refusal) (rest : Result (ControlFlow ℕ ℕ) Refusal) → ((n : ℕ) → FirstFound names at name kind n → StepsTo names at name followed word (f n)) → (Below (Unfound names at name) (kind_number kind + 1) → StepsTo names at name followed word rest) → Below (Unfound names at name) (kind_number kind) → StepsTo names at name followed word (or_else (names.find at kind name) f rest)
  kind_does kind f rest make next past = go (names.find at kind name) refl
    where
      go : (o : Option ℕ) → names.find at kind name ≡ o → StepsTo names at name followed word (or_else o f rest)
      go None e = next (below_next (Unfound names at name) kind past e)
      go (Some n) e = make n (record { found = e; before = past })

  recipe_does : {n : ℕ} → ToRecipe names at name n → (b : Bool) → followed ≡ b → StepsTo names at name followed word (cond b (Err (ExpectedSubmoduleButFoundRecipe word)) (Ok (Break n)))
  recipe_does h true e = Stops.recipe_followed e h
  recipe_does h false e = (e, h)

  nowhere_does : Nowhere names at name → (b : Bool) → followed ≡ b → StepsTo names at name followed word (cond b (Err (UnknownSubmodule word)) (Err (UnknownRecipe word)))
  nowhere_does f true e = Stops.unknown_submodule e f
  nowhere_does f false e = Stops.unknown_recipe e f

  pub step_does : StepsTo names at name followed word (step_of names at name followed word)
  step_does =
      let recipe-or : ℕ → Result (ControlFlow ℕ ℕ) Refusal = λ n. cond followed (Err (ExpectedSubmoduleButFoundRecipe word)) (Ok (Break n)) in
      kind_does Module (λ m. Ok (Continue m)) _ (λ n f. ToModule.by_name f)
      (kind_does ModuleAlias (λ m. Ok (Continue m)) _ (λ n f. ToModule.by_alias f)
      (kind_does Recipe recipe-or _ (λ n f. recipe_does (ToRecipe.by_name f) followed refl)
      (kind_does RecipeAlias recipe-or _ (λ n f. recipe_does (ToRecipe.by_alias f) followed refl)
      (kind_does DisabledRecipe (λ l. Err (RecipeDisabled word l)) _ (λ n f. Stops.disabled_recipe f)
      (kind_does DisabledAlias (λ l. Err (AliasDisabled word l)) _ (λ n f. Stops.disabled_alias f)
      (kind_does AbsentModule (λ l. Err (ModuleAbsent word l)) _ (λ n f. Stops.absent_module f)
      (λ past. nowhere_does (λ k. past k (kind_small k)) followed refl)))))))
      (λ k h. absurd (omega arith))
