-- Two spellings of the same switches. Assumes nothing.
use Rattle.std.specs.Prelude.{◌≡◌, ℕ, List, [], ◌∷◌, ◌++◌, None}
use Rattle.text.specs.Identifier.{Text}
use Rattle.text.specs.Utf8.{Char}
use Rattle.register.specs.Meaning.{ParameterMeaning}
use Rattle.judge.specs.Meaning.{JudgeMeaning}
use Rattle.reading.specs.Switches.{behind_equals}
use Rattle.reading.specs.Reading.{Given, words_of, LawfulOrder}
use Rattle.reading.specs.declared.role.Role.TheVariants.{SwitchWord, SwitchValue}
use Rattle.manual.specs.Orders.{texts_of}

-- Words.

-- `--name`
abbrev pub long_word : Text → Text
long_word name = 45 ∷ 45 ∷ name

-- `-letters`
abbrev pub letters_word : Text → Text
letters_word letters = 45 ∷ letters

-- `word=value`
abbrev pub with_value : Text → Text → Text
with_value word value = word ++ (61 ∷ value)

abbrev pub switch_word : Text → Given
switch_word w = record { word = w; role = SwitchWord }

abbrev pub switch_value : Text → Given
switch_value w = record { word = w; role = SwitchValue }

-- two orders with other words are lawful together, and then each parameter has the same texts in both: the groups differ in the numbers of their words alone
pub record SameOrder (ps : List ParameterMeaning) (judge : JudgeMeaning) (n : ℕ) (one other : List Given) (rest : List Text) : Type 0 where
  pub there : LawfulOrder ps judge n (words_of one ++ rest) one rest → LawfulOrder ps judge n (words_of other ++ rest) other rest
  pub back : LawfulOrder ps judge n (words_of other ++ rest) other rest → LawfulOrder ps judge n (words_of one ++ rest) one rest
  pub texts : LawfulOrder ps judge n (words_of one ++ rest) one rest → (k : ℕ) → texts_of ps n one k ≡ texts_of ps n other k

-- two spellings mean the same: with the same words before them and behind them, the orders are the same
abbrev pub MeanTheSame : List ParameterMeaning → List Given → List Given → Type 0
MeanTheSame ps one other = (judge : JudgeMeaning) (n : ℕ) (before after : List Given) (rest : List Text) → SameOrder ps judge n (after ++ (one ++ before)) (after ++ (other ++ before)) rest

-- a letter: one character, which starts no long name and no value
pub record IsLetter (char : Text) : Type 0 where
  pub one : Char char
  pub no_dash : char ≡ 45 ∷ [] → ⊥
  pub no_equals : char ≡ 61 ∷ [] → ⊥

abbrev pub AllLetters : List Text → Type 0
AllLetters [] = Unit {0}
AllLetters (char ∷ chars) = IsLetter char × AllLetters chars

-- letters in one word, with what stands behind the last
abbrev pub joined : Text → List Text → Text → Text
joined char [] more = char ++ more
joined char (next ∷ chars) more = char ++ joined next chars more

-- the same letters in words of their own; the words of a spelling stand last first
abbrev pub apart : Text → List Text → Text → List Given
apart char [] more = switch_word (letters_word (char ++ more)) ∷ []
apart char (next ∷ chars) more = apart next chars more ++ (switch_word (letters_word char) ∷ [])

pub record SpellingsStand : Type 0 where
  -- `--name value` and `--name=value` give the same groups, where the name has no `=`
  pub long_value_or_equals : (ps : List ParameterMeaning) (name value : Text) → behind_equals name ≡ None → MeanTheSame ps (switch_value value ∷ switch_word (long_word name) ∷ []) (switch_word (with_value (long_word name) value) ∷ [])
  -- `-n value` and `-n=value` give the same groups, behind other letters too
  pub letter_value_or_equals : (ps : List ParameterMeaning) (char more value : Text) → IsLetter char → behind_equals more ≡ None → MeanTheSame ps (switch_value value ∷ switch_word (letters_word (char ++ more)) ∷ []) (switch_word (with_value (letters_word (char ++ more)) value) ∷ [])
  -- joined letters mean the same as one after the other, with what stands behind the last: `-qb` is `-q -b`, and `-qb=10` is `-q -b=10`; as switch words all but the last take no value, either way
  pub joined_letters_or_apart : (ps : List ParameterMeaning) (char : Text) (chars : List Text) (more : Text) → IsLetter char → AllLetters chars → MeanTheSame ps (switch_word (letters_word (joined char chars more)) ∷ []) (apart char chars more)
