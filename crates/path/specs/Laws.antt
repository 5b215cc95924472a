-- What follows from the rules of paths.
use Rattle.std.specs.Prelude.{◌≡◌, ℕ, ◌<◌, ◌≤◌, true, false, List, [], ◌∷◌, length, Some, None}
use Rattle.refusal.specs.declared.Refusal.TheVariants.{UnknownRecipe, UnknownSubmodule, NoRecipes}
use Rattle.text.specs.Identifier.{Text}
use Rattle.text.specs.Pieces.{has_colon, Pieces}
use Rattle.register.specs.Meaning.{NameMeaning}
use Rattle.path.specs.declared.path.Path.{Path}
use Rattle.path.specs.Path.{Nowhere, Meant, LawfulPath, PathFault}

-- a path takes no more words than there are, and one at least where there are any
pub record Takes (count : ℕ) (found : Path) : Type 0 where
  pub most : found.words ≤ count
  pub least : 0 < count → 0 < found.words

-- nothing stands in the root
pub record Empty (names : NameMeaning) : Type 0 where
  pub nowhere : (name : Text) → Nowhere names names.root name
  pub defaultless : names.default names.root ≡ None
  pub recipeless : names.has_recipes names.root ≡ false

pub record PathLaws : Type 0 where
  pub takes : (names : NameMeaning) (words : List Text) (found : Path) → LawfulPath names words found → Takes (length words) found
  -- no words take the root's default
  pub no_words : (names : NameMeaning) (recipe : ℕ) → names.default names.root ≡ Some recipe → LawfulPath names [] (record { recipe = recipe; words = 0; default = true })
  -- names in words of their own lead to a default only at the line's end
  pub default_last : (names : NameMeaning) (word : Text) (rest : List Text) (found : Path) → has_colon word ≡ false → LawfulPath names (word ∷ rest) found → found.default ≡ true → found.words ≡ length (word ∷ rest)
  -- where both lead to a recipe, the pieces of a word and the same names in words of their own lead to the same one
  pub pieces_or_words : (names : NameMeaning) (word : Text) (rest : List Text) (text : Text) (pieces : List Text) (one each : Path) → has_colon word ≡ true → Meant word rest text → Pieces text pieces → LawfulPath names (word ∷ rest) one → LawfulPath names pieces each → (one.recipe ≡ each.recipe) × (one.default ≡ each.default)
  -- where nothing stands in the root: no words, a word, two pieces and more
  pub empty_line : (names : NameMeaning) → Empty names → PathFault names [] (NoRecipes 0)
  pub empty_word : (names : NameMeaning) → Empty names → (word : Text) (rest : List Text) → has_colon word ≡ false → PathFault names (word ∷ rest) (UnknownRecipe 0)
  pub empty_pieces : (names : NameMeaning) → Empty names → (word : Text) (rest : List Text) (text first second : Text) (more : List Text) → has_colon word ≡ true → Meant word rest text → Pieces text (first ∷ second ∷ more) → PathFault names (word ∷ rest) (UnknownSubmodule 0)
