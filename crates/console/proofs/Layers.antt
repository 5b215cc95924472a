-- The reader's refusals are none of a console's state.
use Rattle.std.proofs.Common.{◌≡◌, ℕ, ◌+◌, Bool, true, false, eqb, ◌⊎◌, List, Option, refl, ap, ◌∙◌, inl, inr}
use borrow.Author.Tests.{both_ways}
use Rattle.refusal.specs.declared.Refusal.{Refusal}
use Rattle.refusal.specs.declared.Refusal.TheVariants.{ImageTooLong, LineTooLong, LineNotClosed, TooManyWords, NoSuchParameter, LineKept, SerialsEnd, OrderOut, NoneWaiting, WrongSlip, NotKept, FieldCutOff, OutOfRange, ForbiddenText, NameNotAbove, ModuleNotNamedOnce, BytesBehind, SharedName, WordNotUtf8, UnknownRecipe, UnknownSubmodule, ExpectedSubmoduleButFoundRecipe, NoRecipes, NoDefaultRecipe, InvalidOption, RecipeDisabled, AliasDisabled, ModuleAbsent, DefaultRecipeRequiresArguments, UnknownOption, FlagWithValue, NonFinalOptionWithValue, OptionMissingValue, DuplicateOption, MissingOption, ArgumentPatternMismatch, PositionalArgumentCountMismatch, ArgumentTooFewValues, ArgumentTooManyValues}
use Rattle.refusal.specs.Told.{told_of}
use Rattle.refusal.specs.Shift.{on_word, shifted_by}
use Rattle.text.specs.Identifier.{Text}
use Rattle.text.specs.Line.{Oversteps}
use Rattle.register.specs.Meaning.{NameMeaning, SignatureMeaning, ParameterMeaning}
use Rattle.judge.specs.Meaning.{JudgeMeaning}
use Rattle.path.specs.Path.{PathFault, Strays, Stops, Lacks}
use Rattle.reading.specs.Reading.{Given, Value, Ends}
use Rattle.reading.specs.Faults.{Slip, Faulty, First, OptionMissing, Unsound, Miscounted, FaultyOrder}
use Rattle.reading.specs.Line.{FaultFrom}
use Rattle.reading.specs.Switches.{Switch}

-- no refusal of layer 5
abbrev pub Plain : Refusal → Type 0
Plain r = eqb (told_of r).layer 5 ≡ false

kept_layer : (f : ℕ → ℕ) (r : Refusal) → eqb (told_of (on_word f r)).layer 5 ≡ eqb (told_of r).layer 5
kept_layer f ImageTooLong = refl
kept_layer f LineTooLong = refl
kept_layer f LineNotClosed = refl
kept_layer f TooManyWords = refl
kept_layer f NoSuchParameter = refl
kept_layer f LineKept = refl
kept_layer f SerialsEnd = refl
kept_layer f OrderOut = refl
kept_layer f NoneWaiting = refl
kept_layer f WrongSlip = refl
kept_layer f NotKept = refl
kept_layer f (FieldCutOff x) = refl
kept_layer f (OutOfRange x) = refl
kept_layer f (ForbiddenText x) = refl
kept_layer f (NameNotAbove x) = refl
kept_layer f (ModuleNotNamedOnce x) = refl
kept_layer f (BytesBehind x) = refl
kept_layer f (SharedName x) = refl
kept_layer f (WordNotUtf8 x) = refl
kept_layer f (UnknownRecipe x) = refl
kept_layer f (UnknownSubmodule x) = refl
kept_layer f (ExpectedSubmoduleButFoundRecipe x) = refl
kept_layer f (NoRecipes x) = refl
kept_layer f (NoDefaultRecipe x) = refl
kept_layer f (InvalidOption x) = refl
kept_layer f (RecipeDisabled x y) = refl
kept_layer f (AliasDisabled x y) = refl
kept_layer f (ModuleAbsent x y) = refl
kept_layer f (DefaultRecipeRequiresArguments x y) = refl
kept_layer f (UnknownOption x y) = refl
kept_layer f (FlagWithValue x y) = refl
kept_layer f (NonFinalOptionWithValue x y) = refl
kept_layer f (OptionMissingValue x y) = refl
kept_layer f (DuplicateOption x y) = refl
kept_layer f (MissingOption x y) = refl
kept_layer f (ArgumentPatternMismatch x y) = refl
kept_layer f (PositionalArgumentCountMismatch x y z) = refl
kept_layer f (ArgumentTooFewValues x y z) = refl
kept_layer f (ArgumentTooManyValues x y z) = refl

plain_shifted : (first : ℕ) (r : Refusal) → Plain r → Plain (shifted_by first r)
plain_shifted first r p = kept_layer (λ word. first + word) r ∙ p

pub plain_limit : {line : List ℕ} {r : Refusal} → Oversteps line r → Plain r
plain_limit (Oversteps.long a) = refl
plain_limit (Oversteps.unclosed a b c) = refl
plain_limit (Oversteps.many a b c) = refl
plain_limit (Oversteps.garbled before word after a b c d e) = refl

plain_stops : {names : NameMeaning} {at : ℕ} {name : Text} {followed : Bool} {word : ℕ} {r : Refusal} → Stops names at name followed word r → Plain r
plain_stops (Stops.unknown_recipe a b) = refl
plain_stops (Stops.unknown_submodule a b) = refl
plain_stops (Stops.recipe_followed a b) = refl
plain_stops (Stops.disabled_recipe a) = refl
plain_stops (Stops.disabled_alias a) = refl
plain_stops (Stops.absent_module a) = refl

plain_lacks : {names : NameMeaning} {at : ℕ} {r : Refusal} → Lacks names at r → Plain r
plain_lacks (Lacks.recipes a b) = refl
plain_lacks (Lacks.default a b) = refl

plain_path : {names : NameMeaning} {ws : List Text} {r : Refusal} → PathFault names ws r → Plain r
plain_path (PathFault.malformed a b c) = refl
plain_path (PathFault.strays g (Strays.at_name a s)) = plain_stops s
plain_path (PathFault.strays g (Strays.at_end a l)) = plain_lacks l

plain_slip : {ps : List ParameterMeaning} {at : ℕ} {behind : Option Text} {vs : List Value} {j : ℕ} {ss : List Switch} {r : Refusal} → Slip ps at behind vs j ss r → Plain r
plain_slip (Slip.unknown a) = refl
plain_slip (Slip.flag_with_value a b c) = refl
plain_slip (Slip.non_final a b) = refl
plain_slip (Slip.twice_true a b c d) = refl
plain_slip (Slip.twice_attached a b c d) = refl
plain_slip (Slip.twice a b c) = refl
plain_slip (Slip.later a b c s) = plain_slip s

plain_faulty : {ps : List ParameterMeaning} {n : ℕ} {before : List Given} {ws : List Text} {r : Refusal} → Faulty ps n before ws r → Plain r
plain_faulty (Faulty.missing_value a) = refl
plain_faulty (Faulty.twice a b) = refl
plain_faulty (Faulty.invalid a b) = refl
plain_faulty (Faulty.slip a b s) = plain_slip s

plain_first : {good : ℕ → ParameterMeaning → Type 0} {bad : ℕ → ParameterMeaning → Refusal → Type 0} → ((k : ℕ) (p : ParameterMeaning) (r : Refusal) → bad k p r → Plain r) → {k : ℕ} {ps : List ParameterMeaning} {r : Refusal} → First good bad k ps r → Plain r
plain_first each (First.here {k = k} {p = p} {f = r} b) = each k p r b
plain_first each (First.later g f) = plain_first each f

plain_missing : {vs : List Value} → (k : ℕ) (p : ParameterMeaning) (r : Refusal) → OptionMissing vs k p r → Plain r
plain_missing k p r (OptionMissing.missing a b) = refl

plain_unsound : {judge : JudgeMeaning} {vs : List Value} → (k : ℕ) (p : ParameterMeaning) (r : Refusal) → Unsound judge vs k p r → Plain r
plain_unsound k p r (Unsound.too_few a b) = refl
plain_unsound k p r (Unsound.too_many a b c) = refl
plain_unsound k p r (Unsound.mismatch a b c d) = refl

plain_counts : {ps : List ParameterMeaning} {judge : JudgeMeaning} {n : ℕ} {given : List Given} {r : Refusal} → Miscounted ps judge n given r → Plain r
plain_counts (Miscounted.option f) = plain_first plain_missing f
plain_counts (Miscounted.plain a b) = refl
plain_counts (Miscounted.unsound a f) = plain_first plain_unsound f

plain_order : {ps : List ParameterMeaning} {judge : JudgeMeaning} {n : ℕ} {ws : List Text} (r : Refusal) → FaultyOrder ps judge n ws r → Plain r
plain_order {ps} {judge} {n} {ws} r o = go o.fault
  where
    go : Faulty ps n o.before o.rest r ⊎ (Ends ps n o.before o.rest × Miscounted ps judge n o.before r) → Plain r
    go (inl f) = plain_faulty f
    go (inr m) = plain_counts m.1

pub plain_fault : {names : NameMeaning} {s : SignatureMeaning} {judge : JudgeMeaning} {first : ℕ} {ws : List Text} {r : Refusal} → FaultFrom names s judge first ws r → Plain r
plain_fault (FaultFrom.path {first = first} {f = f} p) = plain_shifted first f (plain_path p)
plain_fault (FaultFrom.demanding a b c) = refl
plain_fault (FaultFrom.order {first = first} {f = f} a b o) = plain_shifted first f (plain_order f o)
plain_fault (FaultFrom.later b f) = plain_fault f

-- so it is no refusal of the state
pub not_state : (r other : Refusal) → Plain r → eqb (told_of other).layer 5 ≡ true → r ≡ other → ⊥
not_state r other p q e = both_ways _ p (ap (λ x. eqb (told_of x).layer 5) e ∙ q)
