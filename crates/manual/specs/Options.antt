-- Options and flags. Assumes nothing.
use Rattle.std.specs.Prelude.{◌≡◌, ℕ, ◌≤◌, true, false, List, [], ◌∷◌, ◌++◌, length, Some, None}
use Rattle.text.specs.Identifier.{Text}
use Rattle.register.specs.Meaning.{ParameterMeaning}
use Rattle.judge.specs.Meaning.{JudgeMeaning}
use Rattle.reading.specs.Signature.{is_option, is_star, is_variadic, takes_true}
use Rattle.reading.specs.Switches.{Switch, Called, called, attached, switches}
use Rattle.reading.specs.Reading.{Given, true_text, wants, Fits, LawfulOrder}
use Rattle.reading.specs.Reading.Waiting.{For}
use Rattle.reading.specs.declared.role.Role.TheVariants.{SwitchWord, SwitchValue}
use Rattle.manual.specs.Orders.{Stands, At, texts_of}

-- each of these texts is `true`
abbrev pub AllTrue : List Text → Type 0
AllTrue [] = Unit {0}
AllTrue (t ∷ ts) = (t ≡ true_text) × AllTrue ts

-- a switch that takes no value: it calls a flag or a `value` option
pub record TakesNoValue (ps : List ParameterMeaning) (s : Switch) : Type 0 where
  pub option : Called
  pub calls : called ps s ≡ Some option
  pub true_alone : takes_true option.parameter ≡ true

-- a switch word has no value: none behind `=`, and the next word is none
pub record HasNoValue (ps : List ParameterMeaning) (n : ℕ) (before : List Given) (w : Text) : Type 0 where
  pub not_attached : attached w ≡ None
  pub not_next : (next : Text) → Fits ps n (record { word = w; role = SwitchWord } ∷ before) next SwitchValue → ⊥

-- In a lawful order:
pub record OptionLaws (ps : List ParameterMeaning) (n : ℕ) (given : List Given) : Type 0 where
  -- an option without default, flag or Star must be given
  pub option_must_be_given : (k : ℕ) (p : ParameterMeaning) → At ps k p → is_option p ≡ true → p.default ≡ None → p.flag ≡ false → is_star p.kind ≡ false → 1 ≤ length (texts_of ps n given k)
  -- an option that is neither variadic nor `multiple` is given at most once
  pub option_at_most_once : (k : ℕ) (p : ParameterMeaning) → At ps k p → is_option p ≡ true → is_variadic p.kind ≡ false → p.multiple ≡ false → length (texts_of ps n given k) ≤ 1
  -- the value given to such an option is its whole group, and so takes the place of a default
  pub value_for_default : (before after : List Given) (v : Text) (c : Called) (at j : ℕ) → Stands given before v SwitchValue after → wants ps n before ≡ For c at j → is_variadic c.parameter.kind ≡ false → c.parameter.multiple ≡ false → texts_of ps n given c.place ≡ v ∷ []
  -- a flag or `value` option gives `true`, and no other text
  pub flag_gives_true : (k : ℕ) (p : ParameterMeaning) → At ps k p → is_option p ≡ true → takes_true p ≡ true → AllTrue (texts_of ps n given k)
  -- and a switch that calls it has given it
  pub flag_is_given : (before after : List Given) (w : Text) (front : List Switch) (s : Switch) (more : List Switch) → Stands given before w SwitchWord after → switches w ≡ front ++ (s ∷ more) → (flag : TakesNoValue ps s) → 1 ≤ length (texts_of ps n given flag.option.place)
  -- a flag or `value` option takes no value
  pub flag_takes_no_value : (before after : List Given) (w : Text) (front : List Switch) (s : Switch) → Stands given before w SwitchWord after → switches w ≡ front ++ (s ∷ []) → TakesNoValue ps s → HasNoValue ps n before w
  -- of joined letters, all but the last take no value
  pub all_but_last_take_no_value : (before after : List Given) (w : Text) (front : List Switch) (s r : Switch) (more : List Switch) → Stands given before w SwitchWord after → switches w ≡ front ++ (s ∷ r ∷ more) → TakesNoValue ps s

-- of every lawful order
abbrev pub OptionsStand : Type 0
OptionsStand = (ps : List ParameterMeaning) (judge : JudgeMeaning) (n : ℕ) (words : List Text) (given : List Given) (rest : List Text) → LawfulOrder ps judge n words given rest → OptionLaws ps n given
