-- What the words that are left come to, where orders were told before. Assumes nothing.
use Rattle.std.specs.Prelude.{◌≡◌, ℕ, ◌<◌, ◌≤◌, Bool, true, ◌⊎◌, List, [], ◌∷◌, ◌++◌, length, drop, Ok, Err, Result}
use Rattle.refusal.specs.declared.Refusal.{Refusal}
use Rattle.text.specs.Identifier.{Text}
use Rattle.text.specs.Spans.{texts_at}
use Rattle.text.specs.declared.span.Span.{Span}
use Rattle.register.specs.Meaning.{NameMeaning, SignatureMeaning}
use Rattle.judge.specs.Meaning.{JudgeMeaning}
use Rattle.path.specs.Path.{PathAnswer}
use Rattle.path.specs.declared.path.Path.{Path}
use Rattle.reading.specs.Line.{Reading, OnlyReading}
use Rattle.reading.specs.Model.{line_from, read_line, behind}
use Rattle.reader.specs.Told.{ToldOrder, reading_told, Fits, UpTo}

-- the reading so far, or with the words that are left
abbrev pub left_from : (List Text → Result Path Refusal) → SignatureMeaning → JudgeMeaning → Reading → ℕ → List Text → Result Reading Refusal
left_from walk s judge done first [] = Ok done
left_from walk s judge done first (w ∷ ws) = behind done (line_from walk s judge first (w ∷ ws))

-- a function that answers the path of the words from an order's first on
abbrev pub Walks : NameMeaning → (List Text → Result Path Refusal) → Type 0
Walks names walk = (ws : List Text) → PathAnswer names ws (walk ws)

-- the words from `first` on begin with this order, behind those that were told, and the next order starts at `next`
pub record Continues (names : NameMeaning) (s : SignatureMeaning) (judge : JudgeMeaning) (bytes : List ℕ) (words : List Span) (first next : ℕ) (os : List ToldOrder) (o : ToldOrder) : Type 0 where
  pub within : next ≤ length words
  pub further : first < length words → first < next
  pub fits : UpTo bytes words first os → Fits (os ++ o ∷ [])
  pub up_to : UpTo bytes words first os → first < length words → UpTo bytes words next (os ++ o ∷ [])
  pub left : (walk : List Text → Result Path Refusal) → Walks names walk → left_from walk s judge (reading_told s bytes (os ++ o ∷ [])) next (texts_at bytes (drop next words)) ≡ behind (reading_told s bytes os) (line_from walk s judge first (texts_at bytes (drop first words)))

-- one more order was told, and where the next one starts; or the first fault of these words, unless the taker refused
abbrev pub NextTold : NameMeaning → SignatureMeaning → JudgeMeaning → (Refusal → Bool) → (List ℕ → List ToldOrder → Type 0) → (List ℕ → List ToldOrder → Type 0) → List ℕ → List Span → ℕ → Result ℕ Refusal → Type 0
NextTold names s judge refuses before after bytes words first (Ok next) = (o : ToldOrder) × ((os : List ToldOrder) → before bytes os → after bytes (os ++ o ∷ [])) × ((os : List ToldOrder) → Continues names s judge bytes words first next os o)
NextTold names s judge refuses before after bytes words first (Err f) = (refuses f ≡ true) ⊎ ((walk : List Text → Result Path Refusal) → Walks names walk → Err f ≡ line_from walk s judge first (texts_at bytes (drop first words)))

-- the orders up to word `next` were told, and what is left behind them is left of the whole line
pub record SoFar (names : NameMeaning) (s : SignatureMeaning) (judge : JudgeMeaning) (told : List ℕ → List ToldOrder → Type 0) (bytes : List ℕ) (words : List Span) (next : ℕ) : Type 0 where
  pub within : next ≤ length words
  pub orders : List ToldOrder
  pub were : told bytes orders
  pub fits : Fits orders
  pub up_to : next < length words → UpTo bytes words next orders
  pub left : (walk : List Text → Result Path Refusal) → Walks names walk → left_from walk s judge (reading_told s bytes orders) next (texts_at bytes (drop next words)) ≡ read_line walk s judge (texts_at bytes words)

-- all orders were told; or the first fault
abbrev pub AllTold : {U : Type 0} → NameMeaning → SignatureMeaning → JudgeMeaning → (Refusal → Bool) → (List ℕ → List ToldOrder → Type 0) → List ℕ → List Text → Result U Refusal → Type 0
AllTold names s judge refuses told bytes words (Ok u) = (os : List ToldOrder) × told bytes os × Fits os × ((walk : List Text → Result Path Refusal) → Walks names walk → Ok (reading_told s bytes os) ≡ read_line walk s judge words)
AllTold names s judge refuses told bytes words (Err f) = (refuses f ≡ true) ⊎ ((walk : List Text → Result Path Refusal) → Walks names walk → Err f ≡ read_line walk s judge words)

-- What reading a line comes to: the taker was told the orders of its only lawful reading; or this is its first fault, unless the taker refused by itself.
abbrev pub LineTold : {U : Type 0} → NameMeaning → SignatureMeaning → JudgeMeaning → (Refusal → Bool) → (List ℕ → List ToldOrder → Type 0) → List ℕ → List Text → Result U Refusal → Type 0
LineTold names s judge refuses told bytes words (Ok u) = (os : List ToldOrder) × told bytes os × Fits os × OnlyReading names s judge words (Ok (reading_told s bytes os))
LineTold names s judge refuses told bytes words (Err f) = (refuses f ≡ true) ⊎ OnlyReading names s judge words (Err f)

-- an answer that is the only one of these words, and the model's by any function that answers paths
pub record OnlyTold (names : NameMeaning) (s : SignatureMeaning) (judge : JudgeMeaning) (words : List Text) (answer : Result Reading Refusal) : Type 0 where
  pub only : OnlyReading names s judge words answer
  pub model : (walk : List Text → Result Path Refusal) → Walks names walk → answer ≡ read_line walk s judge words

-- The same where the taker never refuses: it was told the orders of the line's only lawful reading, or this is the line's first fault.
abbrev pub EachTold : {U : Type 0} → NameMeaning → SignatureMeaning → JudgeMeaning → (List ℕ → List ToldOrder → Type 0) → List ℕ → List Text → Result U Refusal → Type 0
EachTold names s judge told bytes words (Ok u) = (os : List ToldOrder) × told bytes os × Fits os × OnlyTold names s judge words (Ok (reading_told s bytes os))
EachTold names s judge told bytes words (Err f) = OnlyTold names s judge words (Err f)
