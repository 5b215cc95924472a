-- The rows that list the long names and the letters of all recipes' parameters. Assumes nothing.
use Rattle.std.specs.Prelude.{◌≡◌, ℕ, ◌≤◌, List, length, take, drop, Option, Result, MatchResult}
use Rattle.refusal.specs.declared.Refusal.{Refusal}
use Rattle.refusal.specs.declared.Refusal.TheVariants.{SharedName}
use Rattle.text.specs.Identifier.{Text}
use Rattle.text.specs.Spans.{text_at}
use Rattle.tree.specs.Keys.{long_key, letter_key}
use Rattle.tree.specs.Tree.{Parameter}
use Rattle.tree.specs.declared.rows.LongRow.{LongRow}
use Rattle.tree.specs.declared.rows.LetterRow.{LetterRow}
use Rattle.whole.specs.Places.{Stands, Among}
use Rattle.table.specs.Order.{Key, Ascending}
use Rattle.whole.specs.Shared.{Named, EachApart, FirstShared}
use Rattle.whole.specs.declared.filled.Filled.{Filled}

-- the row of the parameter at place p of recipe r, whose long name is t
pub record SaysLong (image : List ℕ) (r p : ℕ) (t : Text) (row : LongRow) : Type 0 where
  pub recipe : row.recipe ≡ r
  pub place : row.place ≡ p
  pub name : text_at image row.text ≡ t

-- the row of the parameter at place p of recipe r, whose letter is c
pub record SaysLetter (r p c : ℕ) (row : LetterRow) : Type 0 where
  pub recipe : row.recipe ≡ r
  pub place : row.place ≡ p
  pub letter : row.letter ≡ c

-- the parameter at place p of recipe r has the name
abbrev pub Gives : {X : Type 0} → (Parameter → Option X) → List (List Parameter) → ℕ → ℕ → X → Type 0
Gives name recipes r p x = Stands (λ parameters. Named name parameters p x) recipes r

-- the rows ascend, and a row says a name exactly where a parameter has it
pub record Listed {X Row : Type 0} (name : Parameter → Option X) (key : Row → Key) (says : ℕ → ℕ → X → Row → Type 0) (recipes : List (List Parameter)) (rows : List Row) : Type 0 where
  pub ascending : Ascending key rows
  pub sound : (r p : ℕ) (x : X) → Among (says r p x) rows → Gives name recipes r p x
  pub complete : (r p : ℕ) (x : X) → Gives name recipes r p x → Among (says r p x) rows

abbrev pub LongsListed : List ℕ → List (List Parameter) → List LongRow → Type 0
LongsListed image = Listed (λ p. p.long) (long_key image) (SaysLong image)

abbrev pub LettersListed : List ℕ → List (List Parameter) → List LetterRow → Type 0
LettersListed image = Listed (λ p. p.letter) (letter_key image) SaysLetter

-- so many rows of a table are filled, and those behind them are as they were
pub record FilledTo {Row : Type 0} (rows : List Row) (filled : ℕ) (after : List Row) : Type 0 where
  pub within : filled ≤ length after
  pub behind : drop filled after ≡ drop filled rows

-- no recipe's parameters share a name, and the filled rows list the names
pub record NamesListed (image : List ℕ) (recipes : List (List Parameter)) (longs : List LongRow) (letters : List LetterRow) (filled : Filled) (longs' : List LongRow) (letters' : List LetterRow) : Type 0 where
  pub apart : EachApart recipes
  pub by_long : LongsListed image recipes (take filled.longs longs')
  pub by_letter : LettersListed image recipes (take filled.letters letters')
  pub longs_filled : FilledTo longs filled.longs longs'
  pub letters_filled : FilledTo letters filled.letters letters'

-- the answer of the derivation: the rows list the names, or else the refusal tells the lowest recipe whose parameters share one
abbrev pub NamesDerived : List ℕ → List (List Parameter) → List LongRow → List LetterRow → Result Filled Refusal → List LongRow → List LetterRow → Type 0
NamesDerived image recipes longs letters answer longs' letters' =
    MatchResult answer (λ filled. NamesListed image recipes longs letters filled longs' letters')
    (λ refusal. (r : ℕ) × (refusal ≡ SharedName r) × FirstShared recipes r)
