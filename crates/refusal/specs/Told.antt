-- What the screen shows of each refusal: number, layer, word and two figures. What a case does not name is 0.
use Rattle.std.specs.Prelude.{ℕ, List, ◌∷◌, ◌++◌, codes, decimal}
use Rattle.refusal.specs.declared.Refusal.{Refusal}
use Rattle.refusal.specs.declared.Refusal.TheVariants.{ImageTooLong, FieldCutOff, OutOfRange, ForbiddenText, NameNotAbove, ModuleNotNamedOnce, BytesBehind, SharedName, LineTooLong, LineNotClosed, TooManyWords, WordNotUtf8, UnknownRecipe, UnknownSubmodule, ExpectedSubmoduleButFoundRecipe, RecipeDisabled, AliasDisabled, ModuleAbsent, NoRecipes, NoDefaultRecipe, DefaultRecipeRequiresArguments, InvalidOption, UnknownOption, FlagWithValue, NonFinalOptionWithValue, OptionMissingValue, DuplicateOption, MissingOption, PositionalArgumentCountMismatch, ArgumentTooFewValues, ArgumentTooManyValues, ArgumentPatternMismatch, NoSuchParameter, LineKept, SerialsEnd, OrderOut, NoneWaiting, WrongSlip, NotKept}
use Rattle.refusal.specs.declared.Told.{Told}

abbrev pub shows : ℕ → ℕ → ℕ → ℕ → ℕ → Told
shows number layer word first second = record { number = number; layer = layer; word = word; first = first; second = second }

abbrev pub told_of : Refusal → Told
told_of ImageTooLong = shows 1 0 0 32768 0
told_of (FieldCutOff at) = shows 2 0 0 at 0
told_of (OutOfRange at) = shows 3 0 0 at 0
told_of (ForbiddenText at) = shows 4 0 0 at 0
told_of (NameNotAbove at) = shows 5 0 0 at 0
told_of (ModuleNotNamedOnce module!) = shows 6 0 0 module! 0
told_of (BytesBehind at) = shows 7 0 0 at 0
told_of (SharedName recipe) = shows 8 0 0 recipe 0
told_of LineTooLong = shows 10 1 0 0 0
told_of LineNotClosed = shows 11 1 0 0 0
told_of TooManyWords = shows 12 1 0 0 0
told_of (WordNotUtf8 word) = shows 13 1 word 0 0
told_of (UnknownRecipe word) = shows 14 2 word 0 0
told_of (UnknownSubmodule word) = shows 15 2 word 0 0
told_of (ExpectedSubmoduleButFoundRecipe word) = shows 16 2 word 0 0
told_of (RecipeDisabled word label) = shows 17 2 word label 0
told_of (AliasDisabled word label) = shows 18 2 word label 0
told_of (ModuleAbsent word label) = shows 19 2 word label 0
told_of (NoRecipes word) = shows 20 2 word 0 0
told_of (NoDefaultRecipe word) = shows 21 2 word 0 0
told_of (DefaultRecipeRequiresArguments word required) = shows 22 2 word required 0
told_of (InvalidOption word) = shows 23 3 word 0 0
told_of (UnknownOption word letter) = shows 24 3 word letter 0
told_of (FlagWithValue word letter) = shows 25 3 word letter 0
told_of (NonFinalOptionWithValue word letter) = shows 26 3 word letter 0
told_of (OptionMissingValue word letter) = shows 27 3 word letter 0
told_of (DuplicateOption word letter) = shows 28 3 word letter 0
told_of (MissingOption word parameter) = shows 29 4 word parameter 0
told_of (PositionalArgumentCountMismatch word found min) = shows 30 4 word found min
told_of (ArgumentTooFewValues word parameter found) = shows 31 4 word parameter found
told_of (ArgumentTooManyValues word parameter found) = shows 32 4 word parameter found
told_of (ArgumentPatternMismatch word parameter) = shows 33 4 word parameter 0
told_of NoSuchParameter = shows 34 4 0 0 0
told_of LineKept = shows 40 5 0 0 0
told_of SerialsEnd = shows 41 5 0 0 0
told_of OrderOut = shows 42 5 0 0 0
told_of NoneWaiting = shows 43 5 0 0 0
told_of WrongSlip = shows 44 5 0 0 0
told_of NotKept = shows 45 5 0 0 0

-- as the screen shows it: five decimal numbers with a space between them
abbrev pub told_text : Told → List ℕ
told_text t = decimal t.number ++ (32 ∷ decimal t.layer ++ (32 ∷ decimal t.word ++ (32 ∷ decimal t.first ++ (32 ∷ decimal t.second))))

-- the answer to what is refused
abbrev pub refusal_text : Refusal → List ℕ
refusal_text refusal = codes "refused " ++ told_text (told_of refusal)
