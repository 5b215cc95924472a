-- The words of refusals. Those of an order are counted from its first word, and the place of that in the line is added last.
use Rattle.std.specs.Prelude.{◌≡◌, ℕ, ◌+◌}
use Rattle.refusal.specs.declared.Refusal.{Refusal}
use Rattle.refusal.specs.declared.Refusal.TheVariants.{ImageTooLong, FieldCutOff, OutOfRange, ForbiddenText, NameNotAbove, ModuleNotNamedOnce, BytesBehind, SharedName, LineTooLong, LineNotClosed, TooManyWords, WordNotUtf8, UnknownRecipe, UnknownSubmodule, ExpectedSubmoduleButFoundRecipe, RecipeDisabled, AliasDisabled, ModuleAbsent, NoRecipes, NoDefaultRecipe, DefaultRecipeRequiresArguments, InvalidOption, UnknownOption, FlagWithValue, NonFinalOptionWithValue, OptionMissingValue, DuplicateOption, MissingOption, PositionalArgumentCountMismatch, ArgumentTooFewValues, ArgumentTooManyValues, ArgumentPatternMismatch, NoSuchParameter, LineKept, SerialsEnd, OrderOut, NoneWaiting, WrongSlip, NotKept}

-- a refusal of an order with its word replaced by what a function makes of it; others stay
abbrev pub on_word : (ℕ → ℕ) → Refusal → Refusal
on_word f ImageTooLong = ImageTooLong
on_word f (FieldCutOff at) = FieldCutOff at
on_word f (OutOfRange at) = OutOfRange at
on_word f (ForbiddenText at) = ForbiddenText at
on_word f (NameNotAbove at) = NameNotAbove at
on_word f (ModuleNotNamedOnce module!) = ModuleNotNamedOnce module!
on_word f (BytesBehind at) = BytesBehind at
on_word f (SharedName recipe) = SharedName recipe
on_word f LineTooLong = LineTooLong
on_word f LineNotClosed = LineNotClosed
on_word f TooManyWords = TooManyWords
on_word f (WordNotUtf8 word) = WordNotUtf8 word
on_word f (UnknownRecipe word) = UnknownRecipe (f word)
on_word f (UnknownSubmodule word) = UnknownSubmodule (f word)
on_word f (ExpectedSubmoduleButFoundRecipe word) = ExpectedSubmoduleButFoundRecipe (f word)
on_word f (RecipeDisabled word label) = RecipeDisabled (f word) label
on_word f (AliasDisabled word label) = AliasDisabled (f word) label
on_word f (ModuleAbsent word label) = ModuleAbsent (f word) label
on_word f (NoRecipes word) = NoRecipes (f word)
on_word f (NoDefaultRecipe word) = NoDefaultRecipe (f word)
on_word f (DefaultRecipeRequiresArguments word required) = DefaultRecipeRequiresArguments (f word) required
on_word f (InvalidOption word) = InvalidOption (f word)
on_word f (UnknownOption word letter) = UnknownOption (f word) letter
on_word f (FlagWithValue word letter) = FlagWithValue (f word) letter
on_word f (NonFinalOptionWithValue word letter) = NonFinalOptionWithValue (f word) letter
on_word f (OptionMissingValue word letter) = OptionMissingValue (f word) letter
on_word f (DuplicateOption word letter) = DuplicateOption (f word) letter
on_word f (MissingOption word parameter) = MissingOption (f word) parameter
on_word f (PositionalArgumentCountMismatch word found min) = PositionalArgumentCountMismatch (f word) found min
on_word f (ArgumentTooFewValues word parameter found) = ArgumentTooFewValues (f word) parameter found
on_word f (ArgumentTooManyValues word parameter found) = ArgumentTooManyValues (f word) parameter found
on_word f (ArgumentPatternMismatch word parameter) = ArgumentPatternMismatch (f word) parameter
on_word f NoSuchParameter = NoSuchParameter
on_word f LineKept = LineKept
on_word f SerialsEnd = SerialsEnd
on_word f OrderOut = OrderOut
on_word f NoneWaiting = NoneWaiting
on_word f WrongSlip = WrongSlip
on_word f NotKept = NotKept

-- a refusal of the order whose first word is this word of the line, with its word counted from the line's first
abbrev pub shifted_by : ℕ → Refusal → Refusal
shifted_by first refusal = on_word (λ word. first + word) refusal

-- nothing is added at the line's first word, and two shifts are one by their sum
pub record ShiftsStand : Type 0 where
  pub none : (refusal : Refusal) → shifted_by 0 refusal ≡ refusal
  pub twice : (outer inner : ℕ) (refusal : Refusal) → shifted_by outer (shifted_by inner refusal) ≡ shifted_by (outer + inner) refusal
