-- What the tree check answers, and what it leaves in the tables. Assumes nothing.
use Rattle.std.specs.Prelude.{◌≡◌, ℕ, ◌≤◌, List, map, length, drop, Result, MatchResult}
use Rattle.std.specs.List.{AllByRecursion}
use Rattle.refusal.specs.declared.Refusal.{Refusal}
use Rattle.tree.specs.Rows.{recipe_at}
use Rattle.records.specs.TreeRows.{RecipeTidy, PatternTidy}
use Rattle.whole.specs.Derived.{LongsListed, LettersListed}
use Rattle.image.specs.declared.tables.Sizes.{Sizes}
use Rattle.image.specs.declared.tables.Tables.{Tables}
use Rattle.image.specs.Image.{Lawful, Unlawful}
use Rattle.image.specs.Tables.{zero, modules_in, names_in, recipes_in, patterns_in, longs_in, letters_in, tree_in}

-- the rows of a table behind a number of them are zero
abbrev pub ZeroBehind : {Row : Type 0} → ℕ → List Row → List Row → Type 0
ZeroBehind n rows zeros = drop n rows ≡ drop n zeros

-- the counts are those of the filled rows
pub record Counted (t : Tables) : Type 0 where
  pub modules : length (modules_in t) ≡ t.sizes.modules
  pub names : length (names_in t) ≡ t.sizes.names
  pub recipes : length (recipes_in t) ≡ t.sizes.recipes
  pub patterns : length (patterns_in t) ≡ t.sizes.patterns

-- the tables say the tree of the image, and nothing else
pub record Says (image : List ℕ) (t : Tables) : Type 0 where
  pub lawful : Lawful image (tree_in image t)
  -- each long row and each letter row is that of a parameter, and each parameter has its rows
  pub longs : LongsListed image (map (recipe_at image) (recipes_in t)) (longs_in t)
  pub letters : LettersListed image (map (recipe_at image) (recipes_in t)) (letters_in t)
  pub counted : Counted t
  -- the counts fit the tables
  pub modules_fit : t.sizes.modules ≤ 64
  pub names_fit : t.sizes.names ≤ 512
  -- rows behind the counts are zero, in the rows of a recipe and a pattern too
  pub modules : ZeroBehind t.sizes.modules t.modules zero.modules
  pub names : ZeroBehind t.sizes.names t.names zero.names
  pub recipes : ZeroBehind t.sizes.recipes t.recipes zero.recipes
  pub patterns : ZeroBehind t.sizes.patterns t.patterns zero.patterns
  pub longs_behind : ZeroBehind t.sizes.longs t.longs zero.longs
  pub letters_behind : ZeroBehind t.sizes.letters t.letters zero.letters
  pub tidy_recipes : AllByRecursion RecipeTidy (recipes_in t)
  pub tidy_patterns : AllByRecursion PatternTidy (patterns_in t)

-- accepted with the tree that the image says, or refused by the first failing check with all rows zero
abbrev pub Checks : List ℕ → Result Sizes Refusal → Tables → Type 0
Checks image answer after = MatchResult answer (λ sizes. (sizes ≡ after.sizes) × Says image after) (λ refusal. Unlawful image refusal × (after ≡ zero))

-- the same before a refusal clears the tables
abbrev pub Fills : List ℕ → Result Sizes Refusal → Tables → Type 0
Fills image answer after = MatchResult answer (λ sizes. (sizes ≡ after.sizes) × Says image after) (Unlawful image)
