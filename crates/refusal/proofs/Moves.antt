-- The words of refusals, moved.
use Rattle.std.proofs.Common.{◌≡◌, ℕ, ◌+◌, sym, refl, ap, ◌∙◌, add_assoc, zero-add}
use Rattle.refusal.specs.declared.Refusal.{Refusal}
use Rattle.refusal.specs.declared.Refusal.TheVariants.{ImageTooLong, FieldCutOff, OutOfRange, ForbiddenText, NameNotAbove, ModuleNotNamedOnce, BytesBehind, SharedName, LineTooLong, LineNotClosed, TooManyWords, WordNotUtf8, UnknownRecipe, UnknownSubmodule, ExpectedSubmoduleButFoundRecipe, RecipeDisabled, AliasDisabled, ModuleAbsent, NoRecipes, NoDefaultRecipe, DefaultRecipeRequiresArguments, InvalidOption, UnknownOption, FlagWithValue, NonFinalOptionWithValue, OptionMissingValue, DuplicateOption, MissingOption, PositionalArgumentCountMismatch, ArgumentTooFewValues, ArgumentTooManyValues, ArgumentPatternMismatch, NoSuchParameter, LineKept, SerialsEnd, OrderOut, NoneWaiting, WrongSlip, NotKept}
use Rattle.refusal.specs.Told.{told_of}
use Rattle.refusal.specs.Shift.{on_word, shifted_by}

unmoved : (refusal : Refusal) → on_word (λ word. word) refusal ≡ refusal
unmoved ImageTooLong = refl
unmoved (FieldCutOff at) = refl
unmoved (OutOfRange at) = refl
unmoved (ForbiddenText at) = refl
unmoved (NameNotAbove at) = refl
unmoved (ModuleNotNamedOnce module!) = refl
unmoved (BytesBehind at) = refl
unmoved (SharedName recipe) = refl
unmoved LineTooLong = refl
unmoved LineNotClosed = refl
unmoved TooManyWords = refl
unmoved (WordNotUtf8 word) = refl
unmoved (UnknownRecipe word) = refl
unmoved (UnknownSubmodule word) = refl
unmoved (ExpectedSubmoduleButFoundRecipe word) = refl
unmoved (RecipeDisabled word label) = refl
unmoved (AliasDisabled word label) = refl
unmoved (ModuleAbsent word label) = refl
unmoved (NoRecipes word) = refl
unmoved (NoDefaultRecipe word) = refl
unmoved (DefaultRecipeRequiresArguments word required) = refl
unmoved (InvalidOption word) = refl
unmoved (UnknownOption word letter) = refl
unmoved (FlagWithValue word letter) = refl
unmoved (NonFinalOptionWithValue word letter) = refl
unmoved (OptionMissingValue word letter) = refl
unmoved (DuplicateOption word letter) = refl
unmoved (MissingOption word parameter) = refl
unmoved (PositionalArgumentCountMismatch word found min) = refl
unmoved (ArgumentTooFewValues word parameter found) = refl
unmoved (ArgumentTooManyValues word parameter found) = refl
unmoved (ArgumentPatternMismatch word parameter) = refl
unmoved NoSuchParameter = refl
unmoved LineKept = refl
unmoved SerialsEnd = refl
unmoved OrderOut = refl
unmoved NoneWaiting = refl
unmoved WrongSlip = refl
unmoved NotKept = refl

moved_twice : (f g : ℕ → ℕ) (refusal : Refusal) → on_word g (on_word f refusal) ≡ on_word (λ word. g (f word)) refusal
moved_twice f g ImageTooLong = refl
moved_twice f g (FieldCutOff at) = refl
moved_twice f g (OutOfRange at) = refl
moved_twice f g (ForbiddenText at) = refl
moved_twice f g (NameNotAbove at) = refl
moved_twice f g (ModuleNotNamedOnce module!) = refl
moved_twice f g (BytesBehind at) = refl
moved_twice f g (SharedName recipe) = refl
moved_twice f g LineTooLong = refl
moved_twice f g LineNotClosed = refl
moved_twice f g TooManyWords = refl
moved_twice f g (WordNotUtf8 word) = refl
moved_twice f g (UnknownRecipe word) = refl
moved_twice f g (UnknownSubmodule word) = refl
moved_twice f g (ExpectedSubmoduleButFoundRecipe word) = refl
moved_twice f g (RecipeDisabled word label) = refl
moved_twice f g (AliasDisabled word label) = refl
moved_twice f g (ModuleAbsent word label) = refl
moved_twice f g (NoRecipes word) = refl
moved_twice f g (NoDefaultRecipe word) = refl
moved_twice f g (DefaultRecipeRequiresArguments word required) = refl
moved_twice f g (InvalidOption word) = refl
moved_twice f g (UnknownOption word letter) = refl
moved_twice f g (FlagWithValue word letter) = refl
moved_twice f g (NonFinalOptionWithValue word letter) = refl
moved_twice f g (OptionMissingValue word letter) = refl
moved_twice f g (DuplicateOption word letter) = refl
moved_twice f g (MissingOption word parameter) = refl
moved_twice f g (PositionalArgumentCountMismatch word found min) = refl
moved_twice f g (ArgumentTooFewValues word parameter found) = refl
moved_twice f g (ArgumentTooManyValues word parameter found) = refl
moved_twice f g (ArgumentPatternMismatch word parameter) = refl
moved_twice f g NoSuchParameter = refl
moved_twice f g LineKept = refl
moved_twice f g SerialsEnd = refl
moved_twice f g OrderOut = refl
moved_twice f g NoneWaiting = refl
moved_twice f g WrongSlip = refl
moved_twice f g NotKept = refl

-- the word is the one that is told
moved_told : (f : ℕ → ℕ) (refusal : Refusal) → on_word f refusal ≡ on_word (λ _. f (told_of refusal).word) refusal
moved_told f ImageTooLong = refl
moved_told f (FieldCutOff at) = refl
moved_told f (OutOfRange at) = refl
moved_told f (ForbiddenText at) = refl
moved_told f (NameNotAbove at) = refl
moved_told f (ModuleNotNamedOnce module!) = refl
moved_told f (BytesBehind at) = refl
moved_told f (SharedName recipe) = refl
moved_told f LineTooLong = refl
moved_told f LineNotClosed = refl
moved_told f TooManyWords = refl
moved_told f (WordNotUtf8 word) = refl
moved_told f (UnknownRecipe word) = refl
moved_told f (UnknownSubmodule word) = refl
moved_told f (ExpectedSubmoduleButFoundRecipe word) = refl
moved_told f (RecipeDisabled word label) = refl
moved_told f (AliasDisabled word label) = refl
moved_told f (ModuleAbsent word label) = refl
moved_told f (NoRecipes word) = refl
moved_told f (NoDefaultRecipe word) = refl
moved_told f (DefaultRecipeRequiresArguments word required) = refl
moved_told f (InvalidOption word) = refl
moved_told f (UnknownOption word letter) = refl
moved_told f (FlagWithValue word letter) = refl
moved_told f (NonFinalOptionWithValue word letter) = refl
moved_told f (OptionMissingValue word letter) = refl
moved_told f (DuplicateOption word letter) = refl
moved_told f (MissingOption word parameter) = refl
moved_told f (PositionalArgumentCountMismatch word found min) = refl
moved_told f (ArgumentTooFewValues word parameter found) = refl
moved_told f (ArgumentTooManyValues word parameter found) = refl
moved_told f (ArgumentPatternMismatch word parameter) = refl
moved_told f NoSuchParameter = refl
moved_told f LineKept = refl
moved_told f SerialsEnd = refl
moved_told f OrderOut = refl
moved_told f NoneWaiting = refl
moved_told f WrongSlip = refl
moved_told f NotKept = refl

-- told at another word
pub told_at : (f : ℕ → ℕ) (refusal moved : Refusal) (word : ℕ) → moved ≡ on_word (λ _. word) refusal → word ≡ f (told_of refusal).word → moved ≡ on_word f refusal
told_at f refusal moved word e is = e ∙ ap (λ w. on_word (λ _. w) refusal) is ∙ sym (moved_told f refusal)

pub shift_none : (refusal : Refusal) → shifted_by 0 refusal ≡ refusal
shift_none refusal = simp zero-add (unmoved refusal)

pub shift_twice : (outer inner : ℕ) (refusal : Refusal) → shifted_by outer (shifted_by inner refusal) ≡ shifted_by (outer + inner) refusal
shift_twice outer inner refusal = moved_twice (λ word. inner + word) (λ word. outer + word) refusal ∙ simp add_assoc
