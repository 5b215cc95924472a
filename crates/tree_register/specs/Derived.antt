-- What the rows of an accepted image keep, fact by fact, so that look-ups in them answer by the tree. Assumes nothing.
use Rattle.std.specs.Prelude.{◌≡◌, ℕ, ◌<◌, ◌≤◌, Bool, true, ◌&&◌, List, map, length, is_some, Some, None, Option, ◌==◌, slice_index_or}
use Rattle.std.specs.Str.{bytes_eq}
use Rattle.text.specs.Identifier.{Text}
use Rattle.text.specs.Spans.{text_at}
use Rattle.tree.specs.Rows.{recipe_at}
use Rattle.tree.specs.declared.rows.RecipeRow.{RecipeRow}
use Rattle.tree.specs.declared.rows.LongRow.{LongRow}
use Rattle.tree.specs.declared.rows.LetterRow.{LetterRow}
use Rattle.register.specs.Meaning.{ParameterMeaning}
use Rattle.register.specs.Parameters.{place_of, long_at, letter_at, is_text, is_code}
use Rattle.tree_register.specs.Signatures.{parameters_of}

-- the parameters that the recipe rows tell
abbrev pub parameters_in : List ℕ → List RecipeRow → ℕ → List ParameterMeaning
parameters_in image recipes r = parameters_of (map (recipe_at image) recipes) r

-- a recipe row has at most 16 parameters
abbrev pub Few : List RecipeRow → Type 0
Few recipes = (r : ℕ) (d : RecipeRow) → r < length recipes → (slice_index_or recipes r d).count ≤ 16

-- a long row tells the long name of the parameter at its place
abbrev pub LongsRight : List ℕ → List RecipeRow → List LongRow → Type 0
LongsRight image recipes longs = (i : ℕ) (d : LongRow) → i < length longs → let row = slice_index_or longs i d in
    is_text (text_at image row.text) (long_at (parameters_in image recipes row.recipe) row.place) ≡ true

-- the long row of a recipe, a text and a place
abbrev pub is_long_row : List ℕ → ℕ → Text → ℕ → LongRow → Bool
is_long_row image r t place row = row.recipe == r && (bytes_eq (text_at image row.text) t && row.place == place)

abbrev pub long_told : List ℕ → List LongRow → ℕ → ℕ → Option Text → Bool
long_told image longs r place None = true
long_told image longs r place (Some t) = is_some (place_of (is_long_row image r t place) longs)

-- each long name of a parameter has its row
abbrev pub LongsTold : List ℕ → List RecipeRow → List LongRow → Type 0
LongsTold image recipes longs = (r place : ℕ) → long_told image longs r place (long_at (parameters_in image recipes r) place) ≡ true

-- a letter row tells the letter of the parameter at its place
abbrev pub LettersRight : List ℕ → List RecipeRow → List LetterRow → Type 0
LettersRight image recipes letters = (i : ℕ) (d : LetterRow) → i < length letters → let row = slice_index_or letters i d in
    is_code row.letter (letter_at (parameters_in image recipes row.recipe) row.place) ≡ true

abbrev pub is_letter_row : ℕ → ℕ → ℕ → LetterRow → Bool
is_letter_row r c place row = row.recipe == r && (row.letter == c && row.place == place)

abbrev pub letter_told : List LetterRow → ℕ → ℕ → Option ℕ → Bool
letter_told letters r place None = true
letter_told letters r place (Some c) = is_some (place_of (is_letter_row r c place) letters)

-- each letter of a parameter has its row
abbrev pub LettersTold : List ℕ → List RecipeRow → List LetterRow → Type 0
LettersTold image recipes letters = (r place : ℕ) → letter_told letters r place (letter_at (parameters_in image recipes r) place) ≡ true
