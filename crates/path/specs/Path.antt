-- The path of an order: how the words from the order's first to the line's end lead from the register's root to a recipe; or the first fault of words that lead to none. A fault tells its word as counted within the order.
use Rattle.std.specs.Prelude.{◌≡◌, ℕ, ◌+◌, ◌<◌, Bool, true, false, cond, List, [], ◌∷◌, ◌++◌, length, Some, None, Ok, Err, Result}
use Rattle.refusal.specs.declared.Refusal.{Refusal}
use Rattle.refusal.specs.declared.Refusal.TheVariants.{UnknownRecipe, UnknownSubmodule, ExpectedSubmoduleButFoundRecipe, RecipeDisabled, AliasDisabled, ModuleAbsent, NoRecipes, NoDefaultRecipe}
use Rattle.text.specs.Identifier.{Text}
use Rattle.text.specs.Pieces.{has_colon, Pieces, Unclosed}
use Rattle.register.specs.Kinds.{kind_number}
use Rattle.register.specs.Meaning.{NameMeaning}
use Rattle.register.specs.declared.kind.Kind.{Kind}
use Rattle.register.specs.declared.kind.Kind.TheVariants.{Module, ModuleAlias, Recipe, RecipeAlias, DisabledRecipe, DisabledAlias, AbsentModule}
use Rattle.path.specs.declared.path.Path.{Path}

-- A name in a module.

-- this kind finds the name, and none with a smaller number does
pub record FirstFound (names : NameMeaning) (at : ℕ) (name : Text) (kind : Kind) (number : ℕ) : Type 0 where
  pub found : names.find at kind name ≡ Some number
  pub before : (other : Kind) → kind_number other < kind_number kind → names.find at other name ≡ None

-- no kind finds the name
abbrev pub Nowhere : NameMeaning → ℕ → Text → Type 0
Nowhere names at name = (kind : Kind) → names.find at kind name ≡ None

-- the name leads to a module
pub data ToModule (names : NameMeaning) (at : ℕ) (name : Text) (next : ℕ) : Type 0 where
  by_name : FirstFound names at name Module next → ToModule names at name next
  by_alias : FirstFound names at name ModuleAlias next → ToModule names at name next

-- the name leads to a recipe
pub data ToRecipe (names : NameMeaning) (at : ℕ) (name : Text) (recipe : ℕ) : Type 0 where
  by_name : FirstFound names at name Recipe recipe → ToRecipe names at name recipe
  by_alias : FirstFound names at name RecipeAlias recipe → ToRecipe names at name recipe

-- the name leads to neither, or to a recipe where more pieces of its word follow, so that only a module will do
pub data Stops (names : NameMeaning) (at : ℕ) (name : Text) (followed : Bool) (word : ℕ) : Refusal → Type 0 where
  unknown_recipe : followed ≡ false → Nowhere names at name → Stops names at name followed word (UnknownRecipe word)
  unknown_submodule : followed ≡ true → Nowhere names at name → Stops names at name followed word (UnknownSubmodule word)
  recipe_followed : {recipe : ℕ} → followed ≡ true → ToRecipe names at name recipe → Stops names at name followed word (ExpectedSubmoduleButFoundRecipe word)
  disabled_recipe : {label : ℕ} → FirstFound names at name DisabledRecipe label → Stops names at name followed word (RecipeDisabled word label)
  disabled_alias : {label : ℕ} → FirstFound names at name DisabledAlias label → Stops names at name followed word (AliasDisabled word label)
  absent_module : {label : ℕ} → FirstFound names at name AbsentModule label → Stops names at name followed word (ModuleAbsent word label)

-- Names in sequence.

-- Names that stand in words of their own (spaced), or all in one word.
pub record Modulepath : Type 0 where
  pub components : List Text
  pub spaced : Bool

-- how many words hold so many names, and in which word stands the name behind so many others
abbrev pub words_of : Modulepath → ℕ → ℕ
words_of path count = cond path.spaced count 1

abbrev pub word_behind : Modulepath → ℕ → ℕ
word_behind path count = cond path.spaced count 0

-- whether more pieces of the same word follow
abbrev pub followed_by : Modulepath → List Text → Bool
followed_by path [] = false
followed_by path (name ∷ rest) = cond path.spaced false true

-- names that lead from a module to a module
pub data Leads (names : NameMeaning) : ℕ → List Text → ℕ → Type 0 where
  here : {at : ℕ} → Leads names at [] at
  onward : {at next end : ℕ} {name : Text} {rest : List Text} → ToModule names at name next → Leads names next rest end → Leads names at (name ∷ rest) end

-- a name is reached, in a module: those before it lead there from the root
pub record Reaches (names : NameMeaning) (path : Modulepath) (front : List Text) (at : ℕ) (name : Text) (rest : List Text) : Type 0 where
  pub cut : path.components ≡ front ++ name ∷ rest
  pub lead : Leads names names.root front at

-- a module without a default
pub data Lacks (names : NameMeaning) (at : ℕ) : Refusal → Type 0 where
  recipes : names.default at ≡ None → names.has_recipes at ≡ false → Lacks names at (NoRecipes 0)
  default : names.default at ≡ None → names.has_recipes at ≡ true → Lacks names at (NoDefaultRecipe 0)

-- all names lead to modules, the last to this one
abbrev pub EndsAt : NameMeaning → Modulepath → ℕ → Type 0
EndsAt names path at = Leads names names.root path.components at

-- all names but the last lead to modules and the last to a recipe, and no piece of its word is left; or all lead to modules, and the last one's default is taken
pub data Resolves (names : NameMeaning) (path : Modulepath) : Path → Type 0 where
  at_recipe : {front rest : List Text} {name : Text} {at recipe : ℕ} → Reaches names path front at name rest → followed_by path rest ≡ false → ToRecipe names at name recipe → Resolves names path (record { recipe = recipe; words = words_of path (length front + 1); default = false })
  at_default : {at recipe : ℕ} → EndsAt names path at → names.default at ≡ Some recipe → Resolves names path (record { recipe = recipe; words = words_of path (length path.components); default = true })

-- the names up to one lead to modules, and that one stops; or all lead to modules, and the last one has no default
pub data Strays (names : NameMeaning) (path : Modulepath) : Refusal → Type 0 where
  at_name : {front rest : List Text} {name : Text} {at : ℕ} {refusal : Refusal} → Reaches names path front at name rest → Stops names at name (followed_by path rest) (word_behind path (length front)) refusal → Strays names path refusal
  at_end : {at : ℕ} {refusal : Refusal} → EndsAt names path at → Lacks names at refusal → Strays names path refusal

-- The words of an order.

-- what a word with a colon is taken for: one closing `::` is dropped from the line's last word, and from no other
pub data Meant (word : Text) : List Text → Text → Type 0 where
  last : {text : Text} → Unclosed word text → Meant word [] text
  not_last : {next : Text} {rest : List Text} → Meant word (next ∷ rest) word

-- the names that words give: a first word with a colon gives its pieces, and is the whole path; otherwise the words to the line's end are names, and a path takes as many as it needs
pub data Gives : List Text → Modulepath → Type 0 where
  no_words : Gives [] (record { components = []; spaced = true })
  each_word : {word : Text} {rest : List Text} → has_colon word ≡ false → Gives (word ∷ rest) (record { components = word ∷ rest; spaced = true })
  one_word : {word text : Text} {rest names : List Text} → has_colon word ≡ true → Meant word rest text → Pieces text names → Gives (word ∷ rest) (record { components = names; spaced = false })

-- the lawful path of an order: its recipe, how many words it takes, and whether the recipe is a module's default
pub record LawfulPath (names : NameMeaning) (words : List Text) (found : Path) : Type 0 where
  pub path : Modulepath
  pub gives : Gives words path
  pub resolves : Resolves names path found

-- the first fault: the first word has a colon and no identifiers for pieces; or the names that the words give stray
pub data PathFault (names : NameMeaning) : List Text → Refusal → Type 0 where
  malformed : {word text : Text} {rest : List Text} → has_colon word ≡ true → Meant word rest text → ((pieces : List Text) → Pieces text pieces → ⊥) → PathFault names (word ∷ rest) (UnknownRecipe 0)
  strays : {words : List Text} {path : Modulepath} {refusal : Refusal} → Gives words path → Strays names path refusal → PathFault names words refusal

-- the answer that words have: a lawful path or a first fault
abbrev pub PathAnswer : NameMeaning → List Text → Result Path Refusal → Type 0
PathAnswer names words (Ok found) = LawfulPath names words found
PathAnswer names words (Err refusal) = PathFault names words refusal

-- the one answer that words have
pub record OnlyAnswer (names : NameMeaning) (words : List Text) (answer : Result Path Refusal) : Type 0 where
  pub right : PathAnswer names words answer
  pub only : (other : Result Path Refusal) → PathAnswer names words other → other ≡ answer

-- in every register, words from an order's first on have one lawful path, or one first fault, and not both
abbrev pub PathsStand : Type 0
PathsStand = (names : NameMeaning) (words : List Text) → (answer : Result Path Refusal) × OnlyAnswer names words answer
