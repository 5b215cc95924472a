-- From what derived rows say, row by row, to the facts that the register holds in its type. Assumes nothing.
use Rattle.std.proofs.Common.{◌≡◌, ℕ, Bool, true, List, [], ◌∷◌, get_or, is_some, Some, None, Option, refl, ap, ◌∙◌}
use Rattle.std.specs.Option.{option_map}
use Rattle.std.specs.List.{slice_get}
use Rattle.std.proofs.lemmas.Slice.Eq.{bytes_eq-Decides}
use Rattle.std.proofs.lemmas.Option.{slice_get-get_or}
use Rattle.std.proofs.lemmas.Bool.{and_from, eq-eqb}
use Rattle.text.specs.Identifier.{Text}
use Rattle.text.specs.Spans.{text_at}
use Rattle.tree.specs.Keys.{long_key, letter_key}
use Rattle.tree.specs.declared.rows.RecipeRow.{RecipeRow}
use Rattle.tree.specs.declared.rows.LongRow.{LongRow}
use Rattle.tree.specs.declared.rows.LetterRow.{LetterRow}
use Rattle.register.specs.Parameters.{place_of, long_at, letter_at, is_text, is_code}
use Rattle.register.proofs.Places.{passes_some}
use Rattle.tree_register.specs.Derived.{LongsRight, LongsTold, LettersRight, LettersTold, parameters_in, is_long_row, long_told, is_letter_row, letter_told}
use Rattle.tree_register.specs.Laws.{Told}

-- a told row passes the test of its parts
told_some : {X : Type 0} (key : X → List ℕ) (place : X → ℕ) (test : X → Bool) (xs : List X) (k : List ℕ) (p : ℕ) → ((x : X) → key x ≡ k → place x ≡ p → test x ≡ true) → Told key place xs k p → is_some (place_of test xs) ≡ true
told_some key place test xs k p means (i, x, e, m, a) = passes_some test xs i (ap (option_map test) e ∙ ap (λ w. Some w) (means x m a))

module _ (image : List ℕ) (recipes : List RecipeRow) (longs : List LongRow) where
  -- each long row says the long name of the parameter at its place
  pub longs_right_lem : ((i : ℕ) (row : LongRow) → slice_get longs i ≡ Some row → long_at (parameters_in image recipes row.recipe) row.place ≡ Some (text_at image row.text)) → LongsRight image recipes longs
  longs_right_lem says i d w =
      let row = get_or longs i d in
      ap (is_text (text_at image row.text)) (says i row (slice_get-get_or longs i d w)) ∙ (bytes_eq-Decides (text_at image row.text) (text_at image row.text)).1 refl

  long_means : (r : ℕ) (t : Text) (p : ℕ) (x : LongRow) → long_key image x ≡ r ∷ t → x.place ≡ p → is_long_row image r t p x ≡ true
  long_means r t p x m a =
      let e : x.recipe ≡ r = cc in let f : text_at image x.text ≡ t = cc in
      and_from _ _ (eq-eqb _ _ e) (and_from _ _ ((bytes_eq-Decides _ _).1 f) (eq-eqb _ _ a))

  -- each long name has a row that says it
  pub longs_told_lem : ((r p : ℕ) (t : Text) → long_at (parameters_in image recipes r) p ≡ Some t → Told (long_key image) (λ row. row.place) longs (r ∷ t) p) → LongsTold image recipes longs
  longs_told_lem told r p = at (long_at (parameters_in image recipes r) p) refl
    where
      at : (o : Option Text) → long_at (parameters_in image recipes r) p ≡ o → long_told image longs r p o ≡ true
      at None e = refl
      at (Some t) e = told_some (long_key image) (λ row. row.place) (is_long_row image r t p) longs (r ∷ t) p (long_means r t p) (told r p t e)

module _ (image : List ℕ) (recipes : List RecipeRow) (letters : List LetterRow) where
  -- each letter row says the letter of the parameter at its place
  pub letters_right_lem : ((i : ℕ) (row : LetterRow) → slice_get letters i ≡ Some row → letter_at (parameters_in image recipes row.recipe) row.place ≡ Some row.letter) → LettersRight image recipes letters
  letters_right_lem says i d w =
      let row = get_or letters i d in
      ap (is_code row.letter) (says i row (slice_get-get_or letters i d w)) ∙ eq-eqb row.letter row.letter refl

  letter_means : (r c p : ℕ) (x : LetterRow) → letter_key image x ≡ r ∷ c ∷ [] → x.place ≡ p → is_letter_row r c p x ≡ true
  letter_means r c p x m a =
      let e : x.recipe ≡ r = cc in let f : x.letter ≡ c = cc in
      and_from _ _ (eq-eqb _ _ e) (and_from _ _ (eq-eqb _ _ f) (eq-eqb _ _ a))

  -- each letter has a row that says it
  pub letters_told_lem : ((r p c : ℕ) → letter_at (parameters_in image recipes r) p ≡ Some c → Told (letter_key image) (λ row. row.place) letters (r ∷ c ∷ []) p) → LettersTold image recipes letters
  letters_told_lem told r p = at (letter_at (parameters_in image recipes r) p) refl
    where
      at : (o : Option ℕ) → letter_at (parameters_in image recipes r) p ≡ o → letter_told letters r p o ≡ true
      at None e = refl
      at (Some c) e = told_some (letter_key image) (λ row. row.place) (is_letter_row r c p) letters (r ∷ c ∷ []) p (letter_means r c p) (told r p c e)
