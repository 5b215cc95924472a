-- From what the check finds of the derived rows to what a register over them carries in its type.
use Rattle.std.proofs.Common.{◌≡◌, ℕ, zero, suc, List, [], ◌∷◌, map, Some, None, Option, unwrap_or, sym, refl, ap, ◌∙◌, subst, inl, inr}
use Rattle.std.specs.Option.{option_map, option_flatten}
use Rattle.std.specs.List.{AllByRecursion, slice_get}
use Rattle.std.proofs.lemmas.Option.{slice_get-map}
use Rattle.std.proofs.ByRecursion.{All-get_or}
use Rattle.text.specs.Spans.{text_at}
use Rattle.tree.specs.Tree.{Parameter}
use Rattle.tree.specs.Keys.{long_key, letter_key}
use Rattle.tree.specs.Rows.{recipe_at}
use Rattle.tree.specs.declared.rows.RecipeRow.{RecipeRow}
use Rattle.tree.specs.declared.rows.LongRow.{LongRow}
use Rattle.tree.specs.declared.rows.LetterRow.{LetterRow}
use Rattle.records.specs.TreeRows.{RecipeTidy}
use Rattle.register.specs.Parameters.{long_at, letter_at}
use Rattle.tree_register.specs.Signatures.{parameter_of, parameters_of}
use Rattle.tree_register.specs.Derived.{Few, LongsRight, LongsTold, LettersRight, LettersTold}
use Rattle.tree_register.proofs.Derive.{longs_right_lem, longs_told_lem, letters_right_lem, letters_told_lem}
use Rattle.whole.specs.Places.{Stands, Among}
use Rattle.whole.specs.Shared.{Named}
use Rattle.whole.specs.Derived.{Gives, SaysLong, SaysLetter, LongsListed, LettersListed}

-- places, by what stands there

nth_stands : {A : Type 0} (P : A → Type 0) (xs : List A) (i : ℕ) (x : A) → slice_get xs i ≡ Some x → P x → Stands P xs i
nth_stands P [] i x e p = cc
nth_stands P (y ∷ xs) zero x e p = let h : x ≡ y = cc in subst P h p
nth_stands P (y ∷ xs) (suc i) x e p = nth_stands P xs i x e p

stands_nth : {A : Type 0} (P : A → Type 0) (xs : List A) (i : ℕ) → Stands P xs i → (x : A) × (slice_get xs i ≡ Some x) × P x
stands_nth P [] i s = absurd s
stands_nth P (y ∷ xs) zero s = (y, refl, s)
stands_nth P (y ∷ xs) (suc i) s = stands_nth P xs i s

nth_among : {A : Type 0} (P : A → Type 0) (xs : List A) (i : ℕ) (x : A) → slice_get xs i ≡ Some x → P x → Among P xs
nth_among P [] i x e p = cc
nth_among P (y ∷ xs) zero x e p = inl (let h : x ≡ y = cc in subst P h p)
nth_among P (y ∷ xs) (suc i) x e p = inr (nth_among P xs i x e p)

among_nth : {A : Type 0} (P : A → Type 0) (xs : List A) → Among P xs → (i : ℕ) × (x : A) × (slice_get xs i ≡ Some x) × P x
among_nth P [] a = absurd a
among_nth P (y ∷ xs) (inl p) = (0, y, refl, p)
among_nth P (y ∷ xs) (inr a) = let r = among_nth P xs a in (suc r.0, r.1, r.2, r.3)

-- a parameter's name in a tree, and in what its recipes mean

module _ {X : Type 0} (name : Parameter → Option X) (said : List (List Parameter) → ℕ → ℕ → Option X) (is : (recipes : List (List Parameter)) (r p : ℕ) → said recipes r p ≡ option_flatten (option_map (λ ps. option_flatten (option_map name (slice_get ps p))) (slice_get recipes r))) where
  pub gives_said : (recipes : List (List Parameter)) (r p : ℕ) (x : X) → Gives name recipes r p x → said recipes r p ≡ Some x
  gives_said recipes r p x g =
      let a = stands_nth (λ ps. Named name ps p x) recipes r g in
      let b = stands_nth (λ q. name q ≡ Some x) a.0 p a.2 in
      is recipes r p ∙ ap (λ o. option_flatten (option_map (λ ps. option_flatten (option_map name (slice_get ps p))) o)) a.1 ∙ ap (λ o. option_flatten (option_map name o)) b.1 ∙ b.2

  in_recipe : (ps : List Parameter) (p : ℕ) (x : X) (o : Option Parameter) → slice_get ps p ≡ o → option_flatten (option_map name o) ≡ Some x → Named name ps p x
  in_recipe ps p x None e h = cc
  in_recipe ps p x (Some q) e h = nth_stands (λ q. name q ≡ Some x) ps p q e h

  in_recipes : (recipes : List (List Parameter)) (r p : ℕ) (x : X) (o : Option (List Parameter)) → slice_get recipes r ≡ o → option_flatten (option_map (λ ps. option_flatten (option_map name (slice_get ps p))) o) ≡ Some x → Gives name recipes r p x
  in_recipes recipes r p x None e h = cc
  in_recipes recipes r p x (Some ps) e h = nth_stands (λ ps. Named name ps p x) recipes r ps e (in_recipe ps p x (slice_get ps p) refl h)

  pub said_gives : (recipes : List (List Parameter)) (r p : ℕ) (x : X) → said recipes r p ≡ Some x → Gives name recipes r p x
  said_gives recipes r p x h = in_recipes recipes r p x (slice_get recipes r) refl (sym (is recipes r p) ∙ h)

-- the parameters that recipes mean, place by place

long_is : (recipes : List (List Parameter)) (r p : ℕ) → long_at (parameters_of recipes r) p ≡ option_flatten (option_map (λ ps. option_flatten (option_map (λ q. q.long) (slice_get ps p))) (slice_get recipes r))
long_is recipes r p = at (slice_get recipes r)
  where
    row : (o : Option Parameter) → option_flatten (option_map (λ m. m.long) (option_map parameter_of o)) ≡ option_flatten (option_map (λ (q : Parameter). q.long) o)
    row None = refl
    row (Some q) = refl

    at : (o : Option (List Parameter)) → long_at (unwrap_or (option_map (map parameter_of) o) []) p ≡ option_flatten (option_map (λ ps. option_flatten (option_map (λ (q : Parameter). q.long) (slice_get ps p))) o)
    at None = refl
    at (Some ps) = ap (λ o. option_flatten (option_map (λ m. m.long) o)) (slice_get-map parameter_of ps p) ∙ row (slice_get ps p)

letter_is : (recipes : List (List Parameter)) (r p : ℕ) → letter_at (parameters_of recipes r) p ≡ option_flatten (option_map (λ ps. option_flatten (option_map (λ q. q.letter) (slice_get ps p))) (slice_get recipes r))
letter_is recipes r p = at (slice_get recipes r)
  where
    row : (o : Option Parameter) → option_flatten (option_map (λ m. m.letter) (option_map parameter_of o)) ≡ option_flatten (option_map (λ (q : Parameter). q.letter) o)
    row None = refl
    row (Some q) = refl

    at : (o : Option (List Parameter)) → letter_at (unwrap_or (option_map (map parameter_of) o) []) p ≡ option_flatten (option_map (λ ps. option_flatten (option_map (λ (q : Parameter). q.letter) (slice_get ps p))) o)
    at None = refl
    at (Some ps) = ap (λ o. option_flatten (option_map (λ m. m.letter) o)) (slice_get-map parameter_of ps p) ∙ row (slice_get ps p)

module _ (image : List ℕ) (recipes : List RecipeRow) where
  abbrev told : List (List Parameter)
  told = map (recipe_at image) recipes

  pub right_longs : (longs : List LongRow) → LongsListed image told longs → LongsRight image recipes longs
  right_longs longs l =
      longs_right_lem image recipes longs λ i row e.
      gives_said (λ q. q.long) (λ rs r p. long_at (parameters_of rs r) p) long_is told row.recipe row.place (text_at image row.text)
      (l.sound row.recipe row.place (text_at image row.text) (nth_among (SaysLong image row.recipe row.place (text_at image row.text)) longs i row e (record { recipe = refl; place = refl; name = refl })))

  pub told_longs : (longs : List LongRow) → LongsListed image told longs → LongsTold image recipes longs
  told_longs longs l =
      longs_told_lem image recipes longs λ r p t h.
      let a = among_nth (SaysLong image r p t) longs (l.complete r p t (said_gives (λ q. q.long) (λ rs r p. long_at (parameters_of rs r) p) long_is told r p t h)) in
      let s = a.3 in
      (a.0, a.1, a.2, (let e = s.recipe in let f = s.name in let k : long_key image a.1 ≡ r ∷ t = cc in k), s.place)

  pub right_letters : (letters : List LetterRow) → LettersListed image told letters → LettersRight image recipes letters
  right_letters letters l =
      letters_right_lem image recipes letters λ i row e.
      gives_said (λ q. q.letter) (λ rs r p. letter_at (parameters_of rs r) p) letter_is told row.recipe row.place row.letter
      (l.sound row.recipe row.place row.letter (nth_among (SaysLetter row.recipe row.place row.letter) letters i row e (record { recipe = refl; place = refl; letter = refl })))

  pub told_letters : (letters : List LetterRow) → LettersListed image told letters → LettersTold image recipes letters
  told_letters letters l =
      letters_told_lem image recipes letters λ r p c h.
      let a = among_nth (SaysLetter r p c) letters (l.complete r p c (said_gives (λ q. q.letter) (λ rs r p. letter_at (parameters_of rs r) p) letter_is told r p c h)) in
      let s = a.3 in
      (a.0, a.1, a.2, (let e = s.recipe in let f = s.letter in let k : letter_key image a.1 ≡ r ∷ c ∷ [] = cc in k), s.place)

pub few_from : (recipes : List RecipeRow) → AllByRecursion RecipeTidy recipes → Few recipes
few_from recipes a r d h = (All-get_or RecipeTidy recipes r d h a).few
