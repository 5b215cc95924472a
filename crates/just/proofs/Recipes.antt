-- The recipe of an invocation, by just and by the rules of paths.
use Rattle.std.proofs.Common.{◌≡◌, ℕ, ◌+◌, ◌≤◌, Bool, true, false, cond, ◌&&◌, eqb, ltb, List, [], ◌∷◌, length, drop, Some, None, Ok, Err, Option, Result, refl, ap, ◌∙◌, arith, length-drop}
use Rattle.std.proofs.lemmas.Bool.{eq-eqb, ne_eqb}
use Rattle.refusal.specs.declared.Refusal.{Refusal}
use Rattle.refusal.specs.declared.Refusal.TheVariants as refusal
use Rattle.text.specs.Identifier.{Text}
use Rattle.text.specs.Pieces.{has_colon, split, well_formed, unclosed}
use Rattle.text.proofs.Splits.{either_way}
use Rattle.tree.specs.Tree.{Tree}
use Rattle.tree_register.specs.Names.{tree_names}
use Rattle.path.specs.declared.path.Path.{Path}
use Rattle.path.proofs.Model.{home_by, whole, meant_of, text_path, path_of}
use Rattle.path.specs.Steps.{of_words, of_pieces}
use Rattle.just.specs.Error.{Error}
use Rattle.just.specs.Error.Error.{UnknownRecipe, Panicked}
use Rattle.just.specs.Results.{and_then}
use Rattle.just.specs.Modulepath.{from_argument, try_from}
use Rattle.just.specs.InvocationParser.{Resolved, on_path, resolve_recipe, of_modulepath, of_nothing, recipe_of}
use Rattle.just.specs.FromTree.{recipe_at, justfiles_of}
use Rattle.just.proofs.Switches.{Errs}
use Rattle.just.proofs.Tables.{Good}
use Rattle.just.proofs.Loop.{nth_nil, nth_cons}
use Rattle.just.proofs.Pieces.{colon_is, closing_is, Named, try_is}
use Rattle.just.proofs.Resolve.{needed, Arrives, Walks, resolve_does}

-- what a word with colons has to keep: its pieces, with and without a closing `::`
pub record Pieced (w : Text) : Type 0 where
  pub whole! : Named w
  pub opened : Named (unclosed w)

module _ (t : Tree) (good : Good t) (next : ℕ) where
  abbrev pub Comes : Bool → Path → Result Resolved Error → Type 0
  Comes true p r = Errs next r (refusal.DefaultRecipeRequiresArguments 0 (needed t good next true p.recipe))
  Comes false p r = r ≡ Ok (record { recipe = recipe_at t p.recipe; consumed = p.words })

  abbrev pub Picks : Result Path Refusal → Result Resolved Error → Type 0
  Picks (Err f) r = Errs next r f
  Picks (Ok p) r = Comes (p.default && ltb 0 (needed t good next true p.recipe)) p r

  err_on : {A B : Type 0} (r : Result A Error) (go : A → Result B Error) (f : Refusal) → Errs next r f → Errs next (and_then r go) f
  err_on r go f h = record { error = h.error; is = ap (λ (x : Result _ Error). and_then x go) h.is; number = h.number }

  -- the words of a path, each a name
  words_come : (b : Bool) (p : Path) (r : Result Resolved Error) → Arrives t good next false b p r → Comes b p r
  words_come true p r h = h
  words_come false p r h = h.is ∙ ap (λ (n : ℕ). Ok (record { recipe = recipe_at t p.recipe; consumed = n })) h.words

  words_do : (x : Result Path Refusal) (r : Result Resolved Error) → Walks t good next false x r → Picks x r
  words_do (Err f) r h = h
  words_do (Ok p) r h = words_come (p.default && ltb 0 (needed t good next true p.recipe)) p r h

  -- no words
  none_come : (b : Bool) (p : Path) (r : Result Resolved Error) → p.words ≡ 0 → Arrives t good next false b p r → Comes b p (of_nothing r)
  none_come true p r e h = err_on r (λ found. cond (eqb found.consumed 0) (Ok found) (Err Panicked)) _ h
  none_come false p r e h =
      let zero! : h.consumed ≡ 0 = h.words ∙ e in
      rw h.is (rw (eq-eqb h.consumed 0 zero!) (ap (λ (n : ℕ). Ok (record { recipe = recipe_at t p.recipe; consumed = n })) h.words))

  none_do : (o : Option ℕ) (any : Bool) (r : Result Resolved Error) → Walks t good next false (home_by o any 0) r → Picks (home_by o any 0) (of_nothing r)
  none_do None any r h = err_on r _ _ h
  none_do (Some n) any r h = none_come (ltb 0 (needed t good next true n)) (record { recipe = n; words = 0; default = true }) r refl h

  -- pieces
  pieces_come : (b : Bool) (p : Path) (r : Result Resolved Error) → Arrives t good next true b p r → Comes b p (and_then r λ found. Ok (record { recipe = found.recipe; consumed = 1 }))
  pieces_come true p r h = err_on r (λ found. Ok (record { recipe = found.recipe; consumed = 1 })) _ h
  pieces_come false p r h = rw h.is (ap (λ (n : ℕ). Ok (record { recipe = recipe_at t p.recipe; consumed = n })) h.words)

  pieces_do : (x : Result Path Refusal) (r : Result Resolved Error) → Walks t good next true x r → Picks x (and_then r λ found. Ok (record { recipe = found.recipe; consumed = 1 }))
  pieces_do (Err f) r h = err_on r _ _ h
  pieces_do (Ok p) r h = pieces_come (p.default && ltb 0 (needed t good next true p.recipe)) p r h

  text_does : (w v : Text) → Named v → Picks (text_path (tree_names t) v) (of_modulepath (justfiles_of t) next w (try_from (v ∷ [])))
  text_does w v named =
      rw (try_is v named)
      (either_way (well_formed v)
      (λ e. rw e (pieces_do (whole (tree_names t) (of_pieces (split v))) (resolve_recipe (justfiles_of t) next true (split v)) (resolve_does t good next true (split v))))
      (λ e. rw e (record { error = UnknownRecipe (on_path next true 0) w; is = refl; number = refl })))

  module _ (arguments : List Text) (fits : next ≤ length arguments) where
    colon_does : (w : Text) (rest : List Text) → drop next arguments ≡ w ∷ rest → Pieced w → Picks (text_path (tree_names t) (meant_of w rest)) (of_modulepath (justfiles_of t) next w (cond (eqb (next + 1) (length arguments)) (from_argument w) (try_from (w ∷ []))))
    colon_does w [] e named =
        let a = ap length e in
        let b = length-drop next arguments in
        let n : next + 1 ≡ length arguments = omega arith in
        rw (eq-eqb (next + 1) (length arguments) n, closing_is w) (text_does w (unclosed w) named.opened)
    colon_does w (v ∷ rest) e named =
        let a = ap length e in
        let b = length-drop next arguments in
        rw (ne_eqb (next + 1) (length arguments) (λ h. omega arith)) (text_does w w named.whole!)

    -- `ws` are the arguments from `next` on
    pub recipe_does : (ws : List Text) → drop next arguments ≡ ws → ((w : Text) (rest : List Text) → ws ≡ w ∷ rest → Pieced w) → Picks (path_of (tree_names t) ws) (recipe_of (justfiles_of t) next arguments)
    recipe_does [] e named =
        rw (nth_nil arguments next e, e)
        (none_do ((tree_names t).default 0) ((tree_names t).has_recipes 0) (resolve_recipe (justfiles_of t) next false []) (resolve_does t good next false []))
    recipe_does (w ∷ rest) e named =
        rw ((nth_cons arguments next w rest e).0, colon_is w)
        (either_way (has_colon w)
        (λ c. rw c (colon_does w rest e (named w rest refl)))
        (λ c. rw (c, e) (words_do (whole (tree_names t) (of_words (w ∷ rest))) (resolve_recipe (justfiles_of t) next false (w ∷ rest)) (resolve_does t good next false (w ∷ rest)))))
