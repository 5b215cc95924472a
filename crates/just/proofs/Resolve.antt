-- The recipe of a path, by just and by the walk along names.
use Rattle.std.proofs.Common.{Break, ◌≡◌, ℕ, zero, suc, ◌+◌, ◌<◌, Bool, true, false, cond, not, ◌&&◌, ltb, List, [], ◌∷◌, ◌++◌, length, Some, None, Ok, Err, Option, Result, sym, refl, ap, ◌∙◌, subst, zero-add, arith}
use Rattle.std.specs.Option.{option_map}
use Rattle.std.specs.List.{slice_get}
use Rattle.std.proofs.lemmas.Bool.{lt-ltb, le-ltb}
use Rattle.refusal.specs.declared.Refusal.{Refusal}
use Rattle.refusal.specs.declared.Refusal.TheVariants as refusal
use Rattle.text.specs.Identifier.{Text}
use Rattle.text.proofs.Splits.{either_way}
use Rattle.tree.specs.Tree.{Tree, Module}
use Rattle.register.specs.declared.kind.Kind.TheVariants as kinds
use Rattle.tree_register.specs.Names.{tree_names}
use Rattle.tree_register.specs.Signatures.{tree_signatures}
use Rattle.path.specs.Path as paths
use Rattle.path.specs.Path.{words_of, word_behind, followed_by}
use Rattle.path.specs.declared.path.Path.{Path}
use Rattle.path.proofs.Model.{or_else, step_of, home, home_by, after, walk, whole}
use Rattle.reading.specs.Signature.{required_count}
use Rattle.just.specs.Error.{Error}
use Rattle.just.specs.Error.Error.{UnknownRecipe, UnknownSubmodule, ExpectedSubmoduleButFoundRecipe, RecipeDisabled, AliasDisabled, ModuleAbsent, NoRecipes, NoDefaultRecipe, DefaultRecipeRequiresArguments}
use Rattle.just.specs.Str as str
use Rattle.just.specs.Table.{get, is_empty}
use Rattle.just.specs.Modulepath as modulepath
use Rattle.just.specs.Recipe.{min_arguments}
use Rattle.just.specs.Justfile.{Justfile}
use Rattle.just.specs.Results.{if_let}
use Rattle.just.specs.InvocationParser.{Resolved, on_path, default_by, default_of, leaf_by, leaf, resolve_from, resolve_recipe}
use Rattle.just.specs.FromTree.{recipe_at, modulepath_to, justfile_of, justfiles_of}
use Rattle.just.proofs.Meaning.{required_count_lem}
use Rattle.just.proofs.Switches.{Errs}
use Rattle.just.proofs.Tables.{Good, recipe_means, no_recipes, label_is, number_is, module_at_lem}

pub nth_some : {X : Type 0} (xs : List X) (i : ℕ) → i < length xs → (x : X) × (slice_get xs i ≡ Some x)
nth_some [] i h = absurd (omega arith)
nth_some (x ∷ xs) zero h = (x, refl)
nth_some (x ∷ xs) (suc i) h = nth_some xs i (omega arith)

module _ (t : Tree) (good : Good t) (next : ℕ) (mp : Bool) where
  -- how many required parameters a recipe has
  abbrev pub needed : ℕ → ℕ
  needed r = required_count ((tree_signatures t).parameters r)

  -- just has the recipe of the path, and the number of its words
  pub record Found (p : Path) (r : Result Resolved Error) : Type 0 where
    pub consumed : ℕ
    pub is : r ≡ Ok (record { recipe = recipe_at t p.recipe; consumed = consumed })
    pub words : cond mp 1 consumed ≡ p.words

  abbrev pub Arrives : Bool → Path → Result Resolved Error → Type 0
  Arrives true p r = Errs next r (refusal.DefaultRecipeRequiresArguments 0 (needed p.recipe))
  Arrives false p r = Found p r

  -- a default that needs arguments is an error here, where the walk leaves it to the order
  abbrev pub Walks : Result Path Refusal → Result Resolved Error → Type 0
  Walks (Err f) r = Errs next r f
  Walks (Ok p) r = Arrives (p.default && ltb 0 (needed p.recipe)) p r

  abbrev pub path_of : List Text → paths.Modulepath
  path_of xs = record { components = xs; spaced = not mp }

  needed_is : (r : ℕ) → needed r ≡ min_arguments (recipe_at t r)
  needed_is r = ap required_count (recipe_means t r) ∙ required_count_lem (recipe_at t r).parameters

  -- the word that an error tells
  spot_word : (i : ℕ) → 0 + cond mp 0 i ≡ cond (not mp) i 0
  spot_word i = zero-add (cond mp 0 i) ∙ flip mp
    where
      flip : (b : Bool) → cond b 0 i ≡ cond (not b) i 0
      flip true = refl
      flip false = refl

  tells : (i : ℕ) (make : ℕ → Refusal) → ◌≡◌ {A = Option Refusal} (Some (make (next + (0 + cond mp 0 i)))) (Some (make (next + cond (not mp) i 0)))
  tells i make = ap (λ (n : ℕ). Some (make (next + n))) (spot_word i)

  count_flips : (b : Bool) (n m : ℕ) → n ≡ m → cond b 1 n ≡ cond (not b) m 1
  count_flips true n m e = refl
  count_flips false n m e = e

  followed_is : (xs : List Text) (arg : Text) (args : List Text) (i count : ℕ) → count ≡ i + length (arg ∷ args) → (mp && ltb (suc i) count) ≡ followed_by (path_of xs) args
  followed_is xs arg [] i count e = rw (le-ltb (suc i) count (omega arith)) (none mp)
    where
      none : (b : Bool) → (b && false) ≡ false
      none true = refl
      none false = refl
  followed_is xs arg (x ∷ args) i count e = rw (lt-ltb (suc i) count (omega arith)) (some mp)
    where
      some : (b : Bool) → (b && true) ≡ cond (not b) false true
      some true = refl
      some false = refl

  -- the names end at a module
  home_does : (xs : List Text) (m : ℕ) (row : Module) → slice_get t.modules m ≡ Some row → (i count : ℕ) → count ≡ i → Walks (home (tree_names t) m (words_of (path_of xs) i)) (default_of next count (justfile_of t m row))
  home_does xs m row e i count same = rw e (go row.default)
    where
      taken : (n : ℕ) (none : Bool) (b : Bool) → ltb 0 (min_arguments (recipe_at t n)) ≡ b → Walks (Ok (record { recipe = n; words = words_of (path_of xs) i; default = true })) (default_by next count (Some (recipe_at t n)) none)
      taken n none true d = rw (needed_is n, d) (record { error = DefaultRecipeRequiresArguments (on_path next true 0) n (min_arguments (recipe_at t n)); is = refl; number = ap (λ (k : ℕ). Some (refusal.DefaultRecipeRequiresArguments (next + 0) k)) (sym (needed_is n)) })
      taken n none false d = rw (needed_is n, d) (record { consumed = count; is = refl; words = count_flips mp count i same })

      lacks : (b : Bool) → Walks (home_by None b (words_of (path_of xs) i)) (default_by next count None (not b))
      lacks true = record { error = NoDefaultRecipe (on_path next true 0); is = refl; number = refl }
      lacks false = record { error = NoRecipes (on_path next true 0); is = refl; number = refl }

      go : (o : Option ℕ) → Walks (home_by o ((tree_names t).has_recipes m) (words_of (path_of xs) i)) (default_by next count (option_map (recipe_at t) o) (is_empty (justfile_of t m row).recipes))
      go (Some n) = taken n (is_empty (justfile_of t m row).recipes) (ltb 0 (min_arguments (recipe_at t n))) refl
      go None = rw (no_recipes t m row) (lacks ((tree_names t).has_recipes m))

  -- a name that leads to no module
  module _ (xs : List Text) (m : ℕ) (row : Module) (arg : Text) (args path : List Text) (i count : ℕ) (counted : count ≡ i + length (arg ∷ args)) (onward : ℕ → Result Path Refusal) where
    abbrev word : ℕ
    word = word_behind (path_of xs) i

    abbrev followed : Bool
    followed = followed_by (path_of xs) args

    abbrev current : Justfile
    current = justfile_of t m row

    takes : (n : ℕ) → Walks (after (cond followed (Err (refusal.ExpectedSubmoduleButFoundRecipe word)) (Ok (Break n))) (words_of (path_of xs) (i + 1)) onward)
        (cond (mp && ltb (suc i) count) (Err (ExpectedSubmoduleButFoundRecipe (on_path next mp i) (str.join (58 ∷ 58 ∷ []) path))) (Ok (record { recipe = recipe_at t n; consumed = suc i })))
    takes n =
        rw (followed_is xs arg args i count counted)
        (either_way followed
        (λ e. rw e (record { error = ExpectedSubmoduleButFoundRecipe (on_path next mp i) (str.join (58 ∷ 58 ∷ []) path); is = refl; number = tells i refusal.ExpectedSubmoduleButFoundRecipe }))
        (λ e. rw e (record { consumed = suc i; is = refl; words = count_flips mp (suc i) (i + 1) (omega arith) })))

    unknown : Walks (after (cond followed (Err (refusal.UnknownSubmodule word)) (Err (refusal.UnknownRecipe word))) (words_of (path_of xs) (i + 1)) onward)
        (cond (mp && ltb (suc i) count) (Err (UnknownSubmodule (on_path next mp i) (str.join (58 ∷ 58 ∷ []) path))) (Err (UnknownRecipe (on_path next mp i) (modulepath.shown (record { components = path; spaced = not mp })))))
    unknown =
        rw (followed_is xs arg args i count counted)
        (either_way followed
        (λ e. rw e (record { error = UnknownSubmodule (on_path next mp i) (str.join (58 ∷ 58 ∷ []) path); is = refl; number = tells i refusal.UnknownSubmodule }))
        (λ e. rw e (record { error = UnknownRecipe (on_path next mp i) (modulepath.shown (record { components = path; spaced = not mp })); is = refl; number = tells i refusal.UnknownRecipe })))

    leaf_does : (tree_names t).find m kinds.Module arg ≡ None → (tree_names t).find m kinds.ModuleAlias arg ≡ None → Walks (after (step_of (tree_names t) m arg followed word) (words_of (path_of xs) (i + 1)) onward) (leaf next mp count i path current arg)
    leaf_does no-module no-alias =
        rw (no-module, no-alias, number_is t m kinds.Recipe arg (recipe_at t) good.numbered refl, number_is t m kinds.RecipeAlias arg (recipe_at t) good.numbered refl, label_is t m kinds.DisabledRecipe arg refl, label_is t m kinds.DisabledAlias arg refl, label_is t m kinds.AbsentModule arg refl)
        (by_recipe ((tree_names t).find m kinds.Recipe arg) ((tree_names t).find m kinds.RecipeAlias arg) ((tree_names t).find m kinds.DisabledRecipe arg) ((tree_names t).find m kinds.DisabledAlias arg) ((tree_names t).find m kinds.AbsentModule arg))
      where
        by_recipe : (a b c d e : Option ℕ) → Walks (after (or_else a (λ n. cond followed (Err (refusal.ExpectedSubmoduleButFoundRecipe word)) (Ok (Break n)))
            (or_else b (λ n. cond followed (Err (refusal.ExpectedSubmoduleButFoundRecipe word)) (Ok (Break n)))
            (or_else c (λ l. Err (refusal.RecipeDisabled word l))
            (or_else d (λ l. Err (refusal.AliasDisabled word l))
            (or_else e (λ l. Err (refusal.ModuleAbsent word l))
            (cond followed (Err (refusal.UnknownSubmodule word)) (Err (refusal.UnknownRecipe word)))))))) (words_of (path_of xs) (i + 1)) onward)
            (leaf_by next mp count i path current arg (if_let (option_map (recipe_at t) a) (λ r. Some r) (option_map (recipe_at t) b)) c d e)
        by_recipe (Some n) b c d e = takes n
        by_recipe None (Some n) c d e = takes n
        by_recipe None None (Some l) d e = record { error = RecipeDisabled (on_path next mp i) (record { components = path; spaced = not mp }) l; is = refl; number = tells i (λ w. refusal.RecipeDisabled w l) }
        by_recipe None None None (Some l) e = record { error = AliasDisabled (on_path next mp i) (record { components = path; spaced = not mp }) l; is = refl; number = tells i (λ w. refusal.AliasDisabled w l) }
        by_recipe None None None None (Some l) = record { error = ModuleAbsent (on_path next mp i) (modulepath.joined (modulepath_to t m) arg) l; is = refl; number = tells i (λ w. refusal.ModuleAbsent w l) }
        by_recipe None None None None None = unknown

  -- the names that are left, from a module on
  walk_does : (xs args : List Text) (m : ℕ) (row : Module) → slice_get t.modules m ≡ Some row → (path : List Text) (i count : ℕ) → count ≡ i + length args → Walks (walk (tree_names t) (path_of xs) m i args) (resolve_from (justfiles_of t) next mp count i path (justfile_of t m row) args)
  walk_does xs [] m row e path i count counted = home_does xs m row e i count (omega arith)
  walk_does xs (arg ∷ args) m row e path i count counted = by ((tree_names t).find m kinds.Module arg) refl ((tree_names t).find m kinds.ModuleAlias arg) refl (λ k r f. walk_does xs args k r f (path ++ arg ∷ []) (suc i) count (omega arith))
    where
      -- into the module k
      enters : (k : ℕ) → k < length t.modules → ((k : ℕ) (r : Module) → slice_get t.modules k ≡ Some r → Walks (walk (tree_names t) (path_of xs) k (suc i) args) (resolve_from (justfiles_of t) next mp count (suc i) (path ++ arg ∷ []) (justfile_of t k r) args)) →
          (r : Module) × (slice_get t.modules k ≡ Some r) × Walks (walk (tree_names t) (path_of xs) k (i + 1) args) (resolve_from (justfiles_of t) next mp count (suc i) (path ++ arg ∷ []) (justfile_of t k r) args)
      enters k less on =
          let r = nth_some t.modules k less in
          let one : suc i ≡ i + 1 = omega arith in
          (r.0, r.1, subst (λ (u : ℕ). Walks (walk (tree_names t) (path_of xs) k u args) (resolve_from (justfiles_of t) next mp count (suc i) (path ++ arg ∷ []) (justfile_of t k r.0) args)) one (on k r.0 r.1))

      same : (o : Option ℕ) → option_map (λ (n : ℕ). n) o ≡ o
      same None = refl
      same (Some n) = refl

      modules_are : get (justfile_of t m row).modules arg ≡ (tree_names t).find m kinds.Module arg
      modules_are = number_is t m kinds.Module arg (λ n. n) good.numbered refl ∙ same ((tree_names t).find m kinds.Module arg)

      aliases_are : get (justfile_of t m row).module_aliases arg ≡ option_map (λ (n : ℕ). record { target = modulepath_to t n }) ((tree_names t).find m kinds.ModuleAlias arg)
      aliases_are = number_is t m kinds.ModuleAlias arg (λ (n : ℕ). record { target = modulepath_to t n }) good.numbered refl

      by : (o : Option ℕ) → (tree_names t).find m kinds.Module arg ≡ o → (q : Option ℕ) → (tree_names t).find m kinds.ModuleAlias arg ≡ q → ((k : ℕ) (r : Module) → slice_get t.modules k ≡ Some r → Walks (walk (tree_names t) (path_of xs) k (suc i) args) (resolve_from (justfiles_of t) next mp count (suc i) (path ++ arg ∷ []) (justfile_of t k r) args)) →
          Walks (walk (tree_names t) (path_of xs) m i (arg ∷ args)) (resolve_from (justfiles_of t) next mp count i path (justfile_of t m row) (arg ∷ args))
      by (Some k) f q g on =
          let s = enters k (good.found.found m kinds.Module arg k f) on in
          rw (f, modules_are ∙ f, module_at_lem t k s.0 s.1) s.2
      by None f (Some k) g on =
          let s = enters k (good.found.found m kinds.ModuleAlias arg k g) on in
          rw (f, g, modules_are ∙ f, aliases_are ∙ ap (option_map (λ (n : ℕ). record { target = modulepath_to t n })) g, good.reached k s.0 s.1) s.2
      by None f None g on =
          rw (modules_are ∙ f, aliases_are ∙ ap (option_map (λ (n : ℕ). record { target = modulepath_to t n })) g)
          (leaf_does xs m row arg args (path ++ arg ∷ []) i count counted (λ k. walk (tree_names t) (path_of xs) k (i + 1) args) f g)

  pub resolve_does : (args : List Text) → Walks (whole (tree_names t) (path_of args)) (resolve_recipe (justfiles_of t) next mp args)
  resolve_does args =
      let r = nth_some t.modules 0 good.rooted in
      let n : length args ≡ 0 + length args = omega arith in
      rw (module_at_lem t 0 r.0 r.1) (walk_does args args 0 r.0 r.1 [] 0 (length args) n)
