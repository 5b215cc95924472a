-- The rows of an accepted image keep the laws of every register: proofs, which stand here since these laws are ghost members. Assumes nothing.
use Rattle.std.specs.Prelude.{◌≡◌, ℕ, ◌<◌, ◌≤◌, min, Bool, true, ◌&&◌, List, [], ◌∷◌, map, length, take, is_some, Some, None, Option, ◌==◌, slice_index_or, refl}
use Rattle.std.proofs.Common.{sym, ap, ◌∙◌, arith}
use Rattle.std.specs.Option.{option_map, unwrap_or}
use Rattle.std.specs.List.{slice_get}
use Rattle.std.specs.Str.{bytes_eq}
use Rattle.std.proofs.lemmas.Option.{slice_get-map, slice_get_within}
use Rattle.std.proofs.lemmas.Slice.Eq.{bytes_eq-Decides}
use Rattle.std.proofs.lemmas.List.{length-map, length-take}
use Rattle.std.proofs.lemmas.Option.{slice_get-get_or}
use Rattle.std.proofs.lemmas.Bool.{and_parts, eqb-true}
use Rattle.text.specs.Identifier.{Text}
use Rattle.text.specs.Spans.{text_at}
use Rattle.table.specs.Order.{Ascending}
use Rattle.table.proofs.Narrow.{ascending_once}
use Rattle.tree.specs.Keys.{long_key, letter_key}
use Rattle.tree.specs.Rows.{recipe_at, parameter_at}
use Rattle.tree.specs.declared.rows.RecipeRow.{RecipeRow}
use Rattle.tree.specs.declared.rows.LongRow.{LongRow}
use Rattle.tree.specs.declared.rows.LetterRow.{LetterRow}
use Rattle.register.specs.Parameters.{Apart, place_of, Passes, long_at, letter_at}
use Rattle.register.proofs.Places.{some_passes, passing, passes_long, passes_letter}
use Rattle.register.specs.Meaning.{ParameterMeaning}
use Rattle.tree_register.specs.Signatures.{parameter_of}
use Rattle.tree_register.specs.Derived.{Few, LongsTold, LettersTold, parameters_in, is_long_row, long_told, is_letter_row, letter_told}

-- a row that is told of a place: it has the key, and tells the place
abbrev pub Told : {X : Type 0} → (X → List ℕ) → (X → ℕ) → List X → List ℕ → ℕ → Type 0
Told {X} key place xs k p = (i : ℕ) × (x : X) × (slice_get xs i ≡ Some x) × (key x ≡ k) × (place x ≡ p)

-- rows that ascend tell one place for a key
pub told_once : {X : Type 0} (key : X → List ℕ) (place : X → ℕ) (xs : List X) (k : List ℕ) → Ascending key xs → (p q : ℕ) → Told key place xs k p → Told key place xs k q → p ≡ q
told_once key place xs k up p q (i, x, e, m, a) (j, y, f, n, b) =
    let same : i ≡ j = ascending_once key xs up i j k (ap (option_map key) e ∙ ap (λ w. Some w) m) (ap (option_map key) f ∙ ap (λ w. Some w) n) in
    let row : x ≡ y = cc in
    cc

-- the row at a place that passes is told
tells : {X : Type 0} (key : X → List ℕ) (place : X → ℕ) (test : X → Bool) (xs : List X) (k : List ℕ) (p : ℕ) → ((x : X) → test x ≡ true → (key x ≡ k) × (place x ≡ p)) → is_some (place_of test xs) ≡ true → Told key place xs k p
tells {X} key place test xs k p means h = from (some_passes test xs h)
  where
    row : (i : ℕ) → (x : X) × (slice_get xs i ≡ Some x) × (test x ≡ true) → Told key place xs k p
    row i (x, e, m) = (i, x, e, (means x m).0, (means x m).1)

    from : (i : ℕ) × Passes test xs i → Told key place xs k p
    from (i, m) = row i (passing test xs i m)

long_means : (image : List ℕ) (r : ℕ) (t : Text) (p : ℕ) (x : LongRow) → is_long_row image r t p x ≡ true → (long_key image x ≡ r ∷ t) × (x.place ≡ p)
long_means image r t p x m = parts (and_parts (x.recipe == r) (bytes_eq (text_at image x.text) t && x.place == p) m)
  where
    both : x.recipe ≡ r → (bytes_eq (text_at image x.text) t ≡ true) × ((x.place == p) ≡ true) → (long_key image x ≡ r ∷ t) × (x.place ≡ p)
    both a (b, c) = let d : text_at image x.text ≡ t = (bytes_eq-Decides (text_at image x.text) t).0 b in (cc, eqb-true x.place p c)

    parts : ((x.recipe == r) ≡ true) × (bytes_eq (text_at image x.text) t && (x.place == p) ≡ true) → (long_key image x ≡ r ∷ t) × (x.place ≡ p)
    parts (a, b) = both (eqb-true x.recipe r a) (and_parts (bytes_eq (text_at image x.text) t) (x.place == p) b)

letter_means : (image : List ℕ) (r c p : ℕ) (x : LetterRow) → is_letter_row r c p x ≡ true → (letter_key image x ≡ r ∷ c ∷ []) × (x.place ≡ p)
letter_means image r c p x m = parts (and_parts (x.recipe == r) (x.letter == c && x.place == p) m)
  where
    both : x.recipe ≡ r → ((x.letter == c) ≡ true) × ((x.place == p) ≡ true) → (letter_key image x ≡ r ∷ c ∷ []) × (x.place ≡ p)
    both a (b, e) = let d : x.letter ≡ c = eqb-true x.letter c b in (cc, eqb-true x.place p e)

    parts : ((x.recipe == r) ≡ true) × (x.letter == c && (x.place == p) ≡ true) → (letter_key image x ≡ r ∷ c ∷ []) × (x.place ≡ p)
    parts (a, b) = both (eqb-true x.recipe r a) (and_parts (x.letter == c) (x.place == p) b)

module _ (image : List ℕ) (recipes : List RecipeRow) (r : ℕ) where
  pub long_told_lem : (longs : List LongRow) → LongsTold image recipes longs → (t : Text) (p : ℕ) → long_at (parameters_in image recipes r) p ≡ Some t → Told (long_key image) (λ row. row.place) longs (r ∷ t) p
  long_told_lem longs told t p h =
      tells (long_key image) (λ row. row.place) (is_long_row image r t p) longs (r ∷ t) p (long_means image r t p) (sym (ap (long_told image longs r p) h) ∙ told r p)

  pub letter_told_lem : (letters : List LetterRow) → LettersTold image recipes letters → (c p : ℕ) → letter_at (parameters_in image recipes r) p ≡ Some c → Told (letter_key image) (λ row. row.place) letters (r ∷ c ∷ []) p
  letter_told_lem letters told c p h =
      tells (letter_key image) (λ row. row.place) (is_letter_row r c p) letters (r ∷ c ∷ []) p (letter_means image r c p) (sym (ap (letter_told letters r p) h) ∙ told r p)

  -- parameters whose long names and letters have rows that ascend share none
  pub rows_apart : (longs : List LongRow) (letters : List LetterRow) → Ascending (long_key image) longs → LongsTold image recipes longs → Ascending (letter_key image) letters → LettersTold image recipes letters → Apart (parameters_in image recipes r)
  rows_apart longs letters longs-up longs_told_lem letters-up letters_told_lem = record {
    longs = λ t i j h g. told_once (long_key image) (λ row. row.place) longs (r ∷ t) longs-up i j (long_told_lem longs longs_told_lem t i (passes_long ps t i h)) (long_told_lem longs longs_told_lem t j (passes_long ps t j g));
    letters = λ c i j h g. told_once (letter_key image) (λ row. row.place) letters (r ∷ c ∷ []) letters-up i j (letter_told_lem letters letters_told_lem c i (passes_letter ps c i h)) (letter_told_lem letters letters_told_lem c j (passes_letter ps c j g));
  }
    where
      ps : List ParameterMeaning
      ps = parameters_in image recipes r

  -- the parameters of the recipe row at this place, and of no row
  pub in_row : (row : RecipeRow) → slice_get recipes r ≡ Some row → parameters_in image recipes r ≡ map parameter_of (recipe_at image row)
  in_row row e = ap (λ o. unwrap_or (option_map (map parameter_of) o) []) (slice_get-map (recipe_at image) recipes r ∙ ap (option_map (recipe_at image)) e)

  pub in_none : slice_get recipes r ≡ None → parameters_in image recipes r ≡ []
  in_none e = ap (λ o. unwrap_or (option_map (map parameter_of) o) []) (slice_get-map (recipe_at image) recipes r ∙ ap (option_map (recipe_at image)) e)

  -- recipe rows of at most 16 parameters tell no more
  pub rows_few : Few recipes → length (parameters_in image recipes r) ≤ 16
  rows_few few = at (slice_get recipes r) refl
    where
      long : (row : RecipeRow) → length (map parameter_of (recipe_at image row)) ≡ min row.count (length row.parameters)
      long row =
          length-map (recipe_at image row) parameter_of ∙ length-map (take row.count row.parameters) (parameter_at image)
          ∙ length-take row.count row.parameters

      at : (o : Option RecipeRow) → slice_get recipes r ≡ o → length (parameters_in image recipes r) ≤ 16
      at None e = let n : length (parameters_in image recipes r) ≡ 0 = ap length (in_none e) in omega arith
      at (Some row) e =
          let n : length (parameters_in image recipes r) ≡ min row.count (length row.parameters) = ap length (in_row row e) ∙ long row in
          let w : r < length recipes = slice_get_within recipes r row e in
          let read : slice_index_or recipes r row ≡ row = cc (slice_get-get_or recipes r row w) in
          let c : (slice_index_or recipes r row).count ≡ row.count = ap (λ x. x.count) read in
          omega (arith, few r row w)
