-- A search in rows that ascend answers by the tree. Assumes nothing.
use Rattle.std.proofs.Common.{◌≡◌, ℕ, suc, ◌<◌, Bool, true, false, cond, ◌&&◌, ◌||◌, eqb, List, [], ◌∷◌, map, length, get_or, is_some, Some, None, Decides, Option, Bor, sym, refl, ap, ◌∙◌, arith}
use Rattle.std.specs.Option.{option_map}
use Rattle.std.specs.List.{slice_get, list_any}
use Rattle.std.specs.Str.{bytes_eq}
use Rattle.std.specs.Slice.{IsItemAt}
use Rattle.std.proofs.lemmas.Option.{slice_get-map, slice_get_within, slice_get_past}
use Rattle.std.proofs.lemmas.Slice.Eq.{bytes_eq-Decides}
use Rattle.std.proofs.lemmas.Option.{slice_get-get_or}
use Rattle.std.proofs.lemmas.Bool.{and_parts, and_from, eqb-true, eq-eqb}
use Rattle.text.specs.Identifier.{Text}
use Rattle.text.specs.Spans.{text_at}
use Rattle.table.specs.Order.{Ascending, KeyAt, Finds, FindsRow}
use Rattle.table.proofs.Narrow.{ascending_once}
use Rattle.tree.specs.Keys.{name_key, long_key, letter_key}
use Rattle.tree.specs.Rows.{name_at}
use Rattle.tree.specs.declared.rows.NameRow.{NameRow}
use Rattle.tree.specs.declared.rows.RecipeRow.{RecipeRow}
use Rattle.tree.specs.declared.rows.LongRow.{LongRow}
use Rattle.tree.specs.declared.rows.LetterRow.{LetterRow}
use Rattle.register.specs.Kinds.{kind_number}
use Rattle.register.specs.Meaning.{ParameterMeaning}
use Rattle.register.specs.Parameters.{place_of, Passes, AtMostOne, Apart, has_long_name, has_letter_code, long_at, letter_at, long_place, letter_place, is_text, is_code}
use Rattle.register.proofs.Places.{place_none, place_only, text_has, code_has, long_passes, passes_long, letter_passes, passes_letter}
use Rattle.tree_register.specs.Names.{is_named}
use Rattle.tree_register.specs.Derived.{LongsRight, LongsTold, LettersRight, LettersTold, parameters_in}
use Rattle.tree_register.specs.Laws.{Told, long_told_lem, letter_told_lem, rows_apart}

-- what two readings in a row say of a place
pub nth_maps : {X Y Z : Type 0} (f : X → Y) (g : Y → Z) (xs : List X) (i : ℕ) → slice_get (map g (map f xs)) i ≡ option_map (λ x. g (f x)) (slice_get xs i)
nth_maps {X} f g xs i = slice_get-map g (map f xs) i ∙ ap (option_map g) (slice_get-map f xs i) ∙ at (slice_get xs i)
  where
    at : (o : Option X) → option_map g (option_map f o) ≡ option_map (λ x. g (f x)) o
    at None = refl
    at (Some x) = refl

-- what a row that is got at a place says
pub got_says : {X Y : Type 0} (f : X → Y) (xs : List X) (i : ℕ) (r : Option (Bor X)) → IsItemAt xs i r → option_map (λ x. f x.now) r ≡ option_map f (slice_get xs i)
got_says f xs i None h = ap (option_map f) (sym (slice_get_past xs i h.3))
got_says f xs i (Some x) h = ap (option_map f) (ap (λ w. Some w) (h.3.1 x.now) ∙ sym (slice_get-get_or xs i x.now h.3.0))

-- some item passes a test exactly where the first that passes it has a place
pub some_place : {X Y : Type 0} (f : X → Y) (test : Y → Bool) (xs : List X) → list_any (λ x. test (f x)) xs ≡ is_some (place_of test (map f xs))
some_place f test [] = refl
some_place f test (x ∷ xs) = at (test (f x)) (place_of test (map f xs)) (some_place f test xs)
  where
    at : (b : Bool) (o : Option ℕ) → list_any (λ x. test (f x)) xs ≡ is_some o → (b || list_any (λ x. test (f x)) xs) ≡ is_some (cond b (Some 0) (option_map suc o))
    at true o h = refl
    at false None h = h
    at false (Some i) h = h

-- the place of a key is the place of what a row tells, where a test on that decides the key
module _ {X Y : Type 0} (key : X → List ℕ) (f : X → Y) (test : Y → Bool) (k : List ℕ) (decides : (x : X) → Decides (test (f x)) (key x ≡ k)) (xs : List X) where
  to_key : (i : ℕ) → Passes test (map f xs) i → KeyAt key xs i k
  to_key i h = at (slice_get xs i) (sym (ap (option_map test) (slice_get-map f xs i)) ∙ h)
    where
      at : (o : Option X) → option_map test (option_map f o) ≡ Some true → option_map key o ≡ Some k
      at None m = let z : ◌≡◌ {A = ℕ} 0 1 = cc in absurd (omega arith)
      at (Some x) m = ap (λ w. Some w) ((decides x).0 (cc))

  from_key : (i : ℕ) → KeyAt key xs i k → Passes test (map f xs) i
  from_key i h = ap (option_map test) (slice_get-map f xs i) ∙ at (slice_get xs i) h
    where
      at : (o : Option X) → option_map key o ≡ Some k → option_map test (option_map f o) ≡ Some true
      at None m = let z : ◌≡◌ {A = ℕ} 0 1 = cc in absurd (omega arith)
      at (Some x) m = ap (λ w. Some w) ((decides x).1 (cc))

  pub found_place : Ascending key xs → (o : Option ℕ) → Finds key xs k o → o ≡ place_of test (map f xs)
  found_place up None h = sym (place_none test (map f xs) (λ i m. h i (to_key i m)))
  found_place up (Some i) h =
      sym (place_only test (map f xs) i (λ p q a b. ascending_once key xs up p q k (to_key p a) (to_key q b)) (from_key i h.1))

name_decides : (image : List ℕ) (m kind : ℕ) (t : Text) (x : NameRow) → Decides (is_named m kind t (name_at image x)) (name_key image x ≡ m ∷ kind ∷ t)
name_decides image m kind t x = (to, from)
  where
    here : Text
    here = text_at image x.text

    to : is_named m kind t (name_at image x) ≡ true → name_key image x ≡ m ∷ kind ∷ t
    to h =
        let one : (eqb x.«module» m && eqb (kind_number x.kind) kind ≡ true) × (bytes_eq here t ≡ true) = and_parts _ _ h in
        let two : (eqb x.«module» m ≡ true) × (eqb (kind_number x.kind) kind ≡ true) = and_parts _ _ one.0 in
        let a : x.«module» ≡ m = eqb-true _ _ two.0 in
        let b : kind_number x.kind ≡ kind = eqb-true _ _ two.1 in
        let c : here ≡ t = (bytes_eq-Decides here t).0 one.1 in
        cc

    from : name_key image x ≡ m ∷ kind ∷ t → is_named m kind t (name_at image x) ≡ true
    from h =
        let a : x.«module» ≡ m = cc in let b : kind_number x.kind ≡ kind = cc in let c : here ≡ t = cc in
        and_from _ _ (and_from _ _ (eq-eqb _ _ a) (eq-eqb _ _ b)) ((bytes_eq-Decides here t).1 c)

pub name_found : (image : List ℕ) (names : List NameRow) (m kind : ℕ) (t : Text) → Ascending (name_key image) names → (o : Option ℕ) → Finds (name_key image) names (m ∷ kind ∷ t) o → o ≡ place_of (is_named m kind t) (map (name_at image) names)
name_found image names m kind t up o h =
    found_place (name_key image) (name_at image) (is_named m kind t) (m ∷ kind ∷ t) (name_decides image m kind t) names up o h

-- the place that the row with a key tells is the place of the parameter that passes a test
look_up : {X : Type 0} (key : X → List ℕ) (place : X → ℕ) (xs : List X) (k : List ℕ) (test : ParameterMeaning → Bool) (ps : List ParameterMeaning)
    → AtMostOne test ps
    → ((i : ℕ) (x : X) → slice_get xs i ≡ Some x → key x ≡ k → Passes test ps (place x))
    → ((p : ℕ) → Passes test ps p → Told key place xs k p)
    → (o : Option X) → FindsRow key xs k o → option_map place o ≡ place_of test ps
look_up key place xs k test ps one right told None h = sym (place_none test ps (λ p m. none p (told p m)))
  where
    none : (p : ℕ) → Told key place xs k p → ⊥
    none p (i, x, e, m, a) = h i (ap (option_map key) e ∙ ap (λ w. Some w) m)
look_up key place xs k test ps one right told (Some x) (m, (i, e)) = sym (place_only test ps (place x) one (right i x e m))

module _ (image : List ℕ) (recipes : List RecipeRow) (longs : List LongRow) (letters : List LetterRow) (longs-up : Ascending (long_key image) longs) (longs_told_lem : LongsTold image recipes longs) (letters-up : Ascending (letter_key image) letters) (letters_told_lem : LettersTold image recipes letters) (r : ℕ) where
  apart : Apart (parameters_in image recipes r)
  apart = rows_apart image recipes r longs letters longs-up longs_told_lem letters-up letters_told_lem

  long_right : LongsRight image recipes longs → (t : Text) (i : ℕ) (x : LongRow) → slice_get longs i ≡ Some x → long_key image x ≡ r ∷ t → Passes (has_long_name t) (parameters_in image recipes r) x.place
  long_right right t i x e m =
      let w : i < length longs = slice_get_within longs i x e in
      let read : get_or longs i x ≡ x = cc (slice_get-get_or longs i x w) in
      let told : is_text (text_at image x.text) (long_at (parameters_in image recipes x.recipe) x.place) ≡ true
      = ap (λ y. is_text (text_at image y.text) (long_at (parameters_in image recipes y.recipe) y.place)) (sym read) ∙ right i x w in
      let a : x.recipe ≡ r = cc in let b : text_at image x.text ≡ t = cc in
      long_passes (parameters_in image recipes r) t x.place
      (ap (λ n. long_at (parameters_in image recipes n) x.place) (sym a) ∙ text_has (text_at image x.text) (long_at (parameters_in image recipes x.recipe) x.place) told ∙ ap (λ w. Some w) b)

  pub long_found : LongsRight image recipes longs → (t : Text) (o : Option LongRow) → FindsRow (long_key image) longs (r ∷ t) o → option_map (λ row. row.place) o ≡ long_place (parameters_in image recipes r) t
  long_found right t o h =
      look_up (long_key image) (λ row. row.place) longs (r ∷ t) (has_long_name t) (parameters_in image recipes r) (apart.longs t) (long_right right t)
      (λ p m. long_told_lem image recipes r longs longs_told_lem t p (passes_long (parameters_in image recipes r) t p m)) o h

  letter_right : LettersRight image recipes letters → (c i : ℕ) (x : LetterRow) → slice_get letters i ≡ Some x → letter_key image x ≡ r ∷ c ∷ [] → Passes (has_letter_code c) (parameters_in image recipes r) x.place
  letter_right right c i x e m =
      let w : i < length letters = slice_get_within letters i x e in
      let read : get_or letters i x ≡ x = cc (slice_get-get_or letters i x w) in
      let told : is_code x.letter (letter_at (parameters_in image recipes x.recipe) x.place) ≡ true
      = ap (λ y. is_code y.letter (letter_at (parameters_in image recipes y.recipe) y.place)) (sym read) ∙ right i x w in
      let a : x.recipe ≡ r = cc in let b : x.letter ≡ c = cc in
      letter_passes (parameters_in image recipes r) c x.place
      (ap (λ n. letter_at (parameters_in image recipes n) x.place) (sym a) ∙ code_has x.letter (letter_at (parameters_in image recipes x.recipe) x.place) told ∙ ap (λ w. Some w) b)

  pub letter_found : LettersRight image recipes letters → (c : ℕ) (o : Option LetterRow) → FindsRow (letter_key image) letters (r ∷ c ∷ []) o → option_map (λ row. row.place) o ≡ letter_place (parameters_in image recipes r) c
  letter_found right c o h =
      look_up (letter_key image) (λ row. row.place) letters (r ∷ c ∷ []) (has_letter_code c) (parameters_in image recipes r) (apart.letters c) (letter_right right c)
      (λ p m. letter_told_lem image recipes r letters letters_told_lem c p (passes_letter (parameters_in image recipes r) c p m)) o h
