-- What just's errors are as refusals: number, word and figures. Assumes nothing.
use Rattle.std.specs.Prelude.{ℕ, ◌+◌, Some, None, Option}
use Rattle.refusal.specs.declared.Refusal.{Refusal}
use Rattle.refusal.specs.declared.Refusal.TheVariants as refusal
use Rattle.just.specs.Error.{Error, Spot}
use Rattle.just.specs.Error.Error.{UnknownRecipe, UnknownSubmodule, ExpectedSubmoduleButFoundRecipe, RecipeDisabled, AliasDisabled, ModuleAbsent, NoRecipes, NoDefaultRecipe, DefaultRecipeRequiresArguments, InvalidOption, UnknownOption, FlagWithValue, NonFinalOptionWithValue, OptionMissingValue, DuplicateOption, MissingOption, PositionalArgumentCountMismatch, ArgumentTooFewValues, ArgumentTooManyValues, ArgumentPatternMismatch, Panicked}

-- the word of the line that an error tells: the argument at hand; where an invocation as a whole is at fault it is `next`, its first
abbrev pub word_of : Spot → ℕ
word_of s = s.next + (s.path + s.i)

-- the refusal that an error is; a panic is none
abbrev pub refusal_of : Error → Option Refusal
refusal_of (UnknownRecipe s recipe) = Some (refusal.UnknownRecipe (word_of s))
refusal_of (UnknownSubmodule s path) = Some (refusal.UnknownSubmodule (word_of s))
refusal_of (ExpectedSubmoduleButFoundRecipe s path) = Some (refusal.ExpectedSubmoduleButFoundRecipe (word_of s))
refusal_of (RecipeDisabled s recipe label) = Some (refusal.RecipeDisabled (word_of s) label)
refusal_of (AliasDisabled s alias label) = Some (refusal.AliasDisabled (word_of s) label)
refusal_of (ModuleAbsent s path label) = Some (refusal.ModuleAbsent (word_of s) label)
refusal_of (NoRecipes s) = Some (refusal.NoRecipes (word_of s))
refusal_of (NoDefaultRecipe s) = Some (refusal.NoDefaultRecipe (word_of s))
refusal_of (DefaultRecipeRequiresArguments s recipe min) = Some (refusal.DefaultRecipeRequiresArguments (word_of s) min)
refusal_of (InvalidOption s argument) = Some (refusal.InvalidOption (word_of s))
refusal_of (UnknownOption s recipe switch) = Some (refusal.UnknownOption (word_of s) s.index)
refusal_of (FlagWithValue s recipe switch) = Some (refusal.FlagWithValue (word_of s) s.index)
refusal_of (NonFinalOptionWithValue s recipe switch) = Some (refusal.NonFinalOptionWithValue (word_of s) s.index)
refusal_of (OptionMissingValue s recipe switch) = Some (refusal.OptionMissingValue (word_of s) s.index)
refusal_of (DuplicateOption s recipe switch) = Some (refusal.DuplicateOption (word_of s) s.index)
refusal_of (MissingOption s recipe switch parameter) = Some (refusal.MissingOption s.next parameter)
refusal_of (PositionalArgumentCountMismatch s recipe found min max) = Some (refusal.PositionalArgumentCountMismatch s.next found min)
refusal_of (ArgumentTooFewValues s recipe parameter found min) = Some (refusal.ArgumentTooFewValues s.next parameter found)
refusal_of (ArgumentTooManyValues s recipe parameter found max) = Some (refusal.ArgumentTooManyValues s.next parameter found)
refusal_of (ArgumentPatternMismatch s recipe parameter pattern argument) = Some (refusal.ArgumentPatternMismatch (word_of s) parameter)
refusal_of Panicked = None
