-- Modules and default recipes. Assumes nothing.
-- Of the laws of paths (`PathLaws`), `pieces_or_words` says that `a::b` and the words `a b` lead to the same recipe where both lead to one, `default_last` that names in words of their own lead to a default only at the line's end, and `no_words` that no words take the root's default.
use Rattle.std.specs.Prelude.{◌≡◌, ℕ, ◌<◌, true, false, List, [], ◌∷◌, length, Some}
use Rattle.refusal.specs.declared.Refusal.TheVariants.{DefaultRecipeRequiresArguments}
use Rattle.text.specs.Identifier.{Text}
use Rattle.text.specs.Pieces.{has_colon, Pieces}
use Rattle.register.specs.Meaning.{NameMeaning, SignatureMeaning}
use Rattle.judge.specs.Meaning.{JudgeMeaning}
use Rattle.path.specs.Path.{Leads, Meant, Modulepath, Gives, EndsAt, LawfulPath}
use Rattle.path.specs.Laws.{PathLaws}
use Rattle.path.specs.declared.path.Path.{Path}
use Rattle.reading.specs.Signature.{required_count}
use Rattle.reading.specs.Line.{Taken, Reading, Begins, Lawful, FirstFault}

-- the names that the words give all lead to modules, and the recipe is the default of the last
pub record LastDefault (names : NameMeaning) (words : List Text) (recipe : ℕ) : Type 0 where
  pub path : Modulepath
  pub gives : Gives words path
  pub at : ℕ
  pub ends : EndsAt names path at
  pub default : names.default at ≡ Some recipe

-- a line whose path ends at a default with required parameters is refused
pub record Refused (names : NameMeaning) (signatures : SignatureMeaning) (judge : JudgeMeaning) (words : List Text) (recipe : ℕ) : Type 0 where
  pub fault : FirstFault names signatures judge words (DefaultRecipeRequiresArguments 0 (required_count (signatures.parameters recipe)))
  pub unlawful : (reading : Reading) → Lawful names signatures judge words reading → ⊥
  -- in a later order too
  pub no_order : (t : Taken) (rest : List Text) → Begins names signatures judge words t rest → ⊥

pub record ModulesStand : Type 0 where
  pub laws : PathLaws
  -- the pieces of a word that end at modules take the last one's default
  pub pieces_take_last_default : (names : NameMeaning) (word text : Text) (rest pieces : List Text) (at recipe : ℕ) → has_colon word ≡ true → Meant word rest text → Pieces text pieces → Leads names names.root pieces at → names.default at ≡ Some recipe → LawfulPath names (word ∷ rest) (record { recipe = recipe; words = 1; default = true })
  -- and so do words of their own that end at modules with the line
  pub words_take_last_default : (names : NameMeaning) (word : Text) (rest : List Text) (at recipe : ℕ) → has_colon word ≡ false → Leads names names.root (word ∷ rest) at → names.default at ≡ Some recipe → LawfulPath names (word ∷ rest) (record { recipe = recipe; words = length (word ∷ rest); default = true })
  -- no other default is taken
  pub default_is_last : (names : NameMeaning) (words : List Text) (found : Path) → LawfulPath names words found → found.default ≡ true → LastDefault names words found.recipe
  -- no words lead to nothing else than the root's default
  pub no_words_take_root_default : (names : NameMeaning) (found : Path) → LawfulPath names [] found → names.default names.root ≡ Some found.recipe
  -- a default with required parameters is refused
  pub demanding_default_refused : (names : NameMeaning) (signatures : SignatureMeaning) (judge : JudgeMeaning) (words : List Text) (found : Path) → LawfulPath names words found → found.default ≡ true → 0 < required_count (signatures.parameters found.recipe) → Refused names signatures judge words found.recipe
