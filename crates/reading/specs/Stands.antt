-- What stands of readings. Assumes nothing.
use Rattle.std.specs.Prelude.{◌≡◌, ℕ, suc, ◌+◌, ◌≤◌, max, List, [], ◌∷◌, length, Result}
use Rattle.refusal.specs.declared.Refusal.{Refusal}
use Rattle.text.specs.Identifier.{Text}
use Rattle.text.specs.Line.{closed, Within}
use Rattle.register.specs.Meaning.{NameMeaning, ParameterMeaning, SignatureMeaning}
use Rattle.judge.specs.Meaning.{JudgeMeaning}
use Rattle.path.specs.Path.{PathAnswer}
use Rattle.path.specs.declared.path.Path.{Path}
use Rattle.reading.specs.Reading.{Value}
use Rattle.reading.specs.Line.{Order, Reading, Lawful, OnlyReading}
use Rattle.reading.specs.Model.{State, step, walked, line_from, read_line}
use Rattle.reading.specs.Model.Next.{Go}
use Rattle.reading.specs.declared.role.Role.{Role}

abbrev pub groups_total : List (List Value) → ℕ
groups_total [] = 0
groups_total (g ∷ gs) = length g + groups_total gs

-- how many values the orders hold
abbrev pub values_total : List Order → ℕ
values_total [] = 0
values_total (o ∷ os) = groups_total o.groups + values_total os

-- In every register and by every judge, the words of a line have one lawful reading, or one first fault, and not both.
pub record ReadingStands : Type 0 where
  pub settled : (names : NameMeaning) (signatures : SignatureMeaning) (judge : JudgeMeaning) (words : List Text) → (answer : Result Reading Refusal) × OnlyReading names signatures judge words answer

-- A reading gives each word a role, has no more orders than words (one in an empty line) and no more values than the line has bytes, so that tables of 128 orders and 1,024 values suffice.
pub record ReadingsFit : Type 0 where
  pub roles : (names : NameMeaning) (signatures : SignatureMeaning) (judge : JudgeMeaning) (words : List Text) (reading : Reading) → Lawful names signatures judge words reading → length reading.roles ≡ length words
  pub orders : (names : NameMeaning) (signatures : SignatureMeaning) (judge : JudgeMeaning) (words : List Text) (reading : Reading) → Lawful names signatures judge words reading → length reading.orders ≤ max 1 (length words)
  pub values : (names : NameMeaning) (signatures : SignatureMeaning) (judge : JudgeMeaning) (words : List Text) (reading : Reading) → Lawful names signatures judge words reading → values_total reading.orders ≤ length (closed words)
  pub within_limits : (names : NameMeaning) (signatures : SignatureMeaning) (judge : JudgeMeaning) (line : List ℕ) (words : List Text) (reading : Reading) → Within line words → Lawful names signatures judge words reading → (length reading.orders ≤ 128) × (values_total reading.orders ≤ 1024)

-- The model's answer is the one answer, whatever function tells the paths. It unrolls order by order, and a word adds no more values than its bytes and one.
pub record ModelStands : Type 0 where
  pub only : (names : NameMeaning) (signatures : SignatureMeaning) (judge : JudgeMeaning) (walk : List Text → Result Path Refusal) → ((words : List Text) → PathAnswer names words (walk words)) → (words : List Text) → OnlyReading names signatures judge words (read_line walk signatures judge words)
  pub unrolls : (names : NameMeaning) (signatures : SignatureMeaning) (judge : JudgeMeaning) (walk : List Text → Result Path Refusal) → ((words : List Text) → PathAnswer names words (walk words)) → (first : ℕ) (words : List Text) → line_from walk signatures judge first words ≡ walked signatures judge (line_from walk signatures judge) first words (walk words)
  pub few : (ps : List ParameterMeaning) (before after : State) (word : Text) (role : Role) → step ps before word ≡ Go role after → length after.values ≤ length before.values + suc (length word)
