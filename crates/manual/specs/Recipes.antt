-- Several recipes in a line. Assumes nothing.
use Rattle.std.specs.Prelude.{◌≡◌, ℕ, true, false, List, [], ◌∷◌, ◌++◌, drop}
use Rattle.text.specs.Identifier.{Text}
use Rattle.register.specs.Meaning.{NameMeaning, ParameterMeaning, SignatureMeaning}
use Rattle.register.specs.declared.parameter.ParameterKind.TheVariants.{Singular}
use Rattle.judge.specs.Meaning.{JudgeMeaning}
use Rattle.reading.specs.Signature.{is_option, is_variadic}
use Rattle.reading.specs.Reading.{Given, words_of, plains, wants, NoSwitch, Fits, Roles}
use Rattle.reading.specs.Reading.Waiting.{Nobody}
use Rattle.reading.specs.Line.{Taken, Cut}
use Rattle.reading.specs.declared.role.Role.TheVariants.{PlainWord}
use Rattle.manual.specs.Orders.{Stands, At, plain_count}

-- the parameters that are no options are all Singular
abbrev pub AllSingular : List ParameterMeaning → Type 0
AllSingular ps = (k : ℕ) (p : ParameterMeaning) → At ps k p → is_option p ≡ false → p.kind ≡ Singular

-- the words so far fill each parameter that is no option, and the next word is plain: no switch wants it, and it is neither switch nor end mark
pub record Filled (ps : List ParameterMeaning) (n : ℕ) (before : List Given) (w : Text) : Type 0 where
  pub roles : Roles ps n before
  pub filled : plains before ≡ plain_count ps
  pub unclaimed : wants ps n before ≡ Nobody
  pub plain : NoSwitch ps before w

-- the order has the words before w alone, and w starts the next order
pub record StartsNext (names : NameMeaning) (signatures : SignatureMeaning) (judge : JudgeMeaning) (t : Taken) (later : List Taken) (before : List Given) (w : Text) (behind : List Text) : Type 0 where
  pub ended : words_of t.given ≡ words_of before
  pub next : Cut names signatures judge (w ∷ behind) later

pub record RecipesStand : Type 0 where
  -- where the parameters that are no options are all Singular and filled, the next plain word starts the next order
  pub next_plain_word_starts_next_order : (names : NameMeaning) (signatures : SignatureMeaning) (judge : JudgeMeaning) (words : List Text) (t : Taken) (later : List Taken) (before : List Given) (w : Text) (behind : List Text) →
      Cut names signatures judge words (t ∷ later) → drop t.path words ≡ words_of before ++ (w ∷ behind) →
      AllSingular (signatures.parameters t.recipe) → Filled (signatures.parameters t.recipe) t.path before w →
      StartsNext names signatures judge t later before w behind
  -- a Plus or Star that has a plain word takes the next plain word too, whatever that names
  pub variadic_takes_any_name : (ps : List ParameterMeaning) (n : ℕ) (before earlier between : List Given) (u w : Text) (k : ℕ) (p : ParameterMeaning) → Roles ps n before → Stands before earlier u (PlainWord k) between → At ps k p → is_variadic p.kind ≡ true → wants ps n before ≡ Nobody → NoSwitch ps before w → Fits ps n before w (PlainWord k)
  -- an order whose recipe has a Plus or Star that is no option is the line's last, even where a word behind names a recipe
  pub variadic_order_is_last : (names : NameMeaning) (signatures : SignatureMeaning) (judge : JudgeMeaning) (words : List Text) (t : Taken) (later : List Taken) (k : ℕ) (p : ParameterMeaning) → Cut names signatures judge words (t ∷ later) → At (signatures.parameters t.recipe) k p → is_option p ≡ false → is_variadic p.kind ≡ true → later ≡ []
