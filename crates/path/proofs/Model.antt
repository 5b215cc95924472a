-- The walk along a path as functions: a tool of the proofs that every path has one answer.
use Rattle.std.proofs.Common.{ℕ, ◌+◌, Bool, true, false, cond, List, [], ◌∷◌, Some, None, Ok, Err, Continue, Break, ControlFlow, Option, Result}
use Rattle.refusal.specs.declared.Refusal.{Refusal}
use Rattle.refusal.specs.declared.Refusal.TheVariants.{UnknownRecipe, UnknownSubmodule, ExpectedSubmoduleButFoundRecipe, RecipeDisabled, AliasDisabled, ModuleAbsent, NoRecipes, NoDefaultRecipe}
use Rattle.text.specs.Identifier.{Text}
use Rattle.text.specs.Pieces.{has_colon, split, well_formed, unclosed}
use Rattle.register.specs.Meaning.{NameMeaning}
use Rattle.register.specs.declared.kind.Kind.TheVariants.{Module, ModuleAlias, Recipe, RecipeAlias, DisabledRecipe, DisabledAlias, AbsentModule}
use Rattle.path.specs.declared.path.Path.{Path}
use Rattle.path.specs.Path.{Modulepath, words_of, word_behind, followed_by}
use Rattle.path.specs.Steps.{of_words, of_pieces}

abbrev pub or_else : {X : Type 0} → Option ℕ → (ℕ → X) → X → X
or_else None f rest = rest
or_else (Some n) f rest = f n

-- where a name leads, by kinds in sequence
abbrev pub step_of : NameMeaning → ℕ → Text → Bool → ℕ → Result (ControlFlow ℕ ℕ) Refusal
step_of names at name followed word =
    or_else (names.find at Module name) (λ m. Ok (Continue m))
    (or_else (names.find at ModuleAlias name) (λ m. Ok (Continue m))
    (or_else (names.find at Recipe name) (λ n. cond followed (Err (ExpectedSubmoduleButFoundRecipe word)) (Ok (Break n)))
    (or_else (names.find at RecipeAlias name) (λ n. cond followed (Err (ExpectedSubmoduleButFoundRecipe word)) (Ok (Break n)))
    (or_else (names.find at DisabledRecipe name) (λ l. Err (RecipeDisabled word l))
    (or_else (names.find at DisabledAlias name) (λ l. Err (AliasDisabled word l))
    (or_else (names.find at AbsentModule name) (λ l. Err (ModuleAbsent word l))
    (cond followed (Err (UnknownSubmodule word)) (Err (UnknownRecipe word)))))))))

abbrev pub home_by : Option ℕ → Bool → ℕ → Result Path Refusal
home_by (Some n) any words = Ok (record { recipe = n; words = words; default = true })
home_by None any words = Err (cond any (NoDefaultRecipe 0) (NoRecipes 0))

-- where the names end at a module
abbrev pub home : NameMeaning → ℕ → ℕ → Result Path Refusal
home names at words = home_by (names.default at) (names.has_recipes at) words

abbrev pub after : Result (ControlFlow ℕ ℕ) Refusal → ℕ → (ℕ → Result Path Refusal) → Result Path Refusal
after (Ok (Continue m)) words go = go m
after (Ok (Break n)) words go = Ok (record { recipe = n; words = words; default = false })
after (Err refusal) words go = Err refusal

-- the walk from a module on along the names that are left, `used` names behind the first
abbrev pub walk : NameMeaning → Modulepath → ℕ → ℕ → List Text → Result Path Refusal
walk names path at used [] = home names at (words_of path used)
walk names path at used (name ∷ rest) =
    after (step_of names at name (followed_by path rest) (word_behind path used)) (words_of path (used + 1)) (λ m. walk names path m (used + 1) rest)

abbrev pub whole : NameMeaning → Modulepath → Result Path Refusal
whole names path = walk names path names.root 0 path.components

abbrev pub meant_of : Text → List Text → Text
meant_of word [] = unclosed word
meant_of word (next ∷ rest) = word

abbrev pub text_path : NameMeaning → Text → Result Path Refusal
text_path names text = cond (well_formed text) (whole names (of_pieces (split text))) (Err (UnknownRecipe 0))

abbrev pub path_of : NameMeaning → List Text → Result Path Refusal
path_of names [] = whole names (of_words [])
path_of names (word ∷ rest) = cond (has_colon word) (text_path names (meant_of word rest)) (whole names (of_words (word ∷ rest)))
