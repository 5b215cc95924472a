-- A line, its words and its limits.
use Rattle.std.specs.Prelude.{◌≡◌, ℕ, ◌-◌, ◌<◌, ◌≤◌, Bool, true, false, cond, ◌&&◌, List, [], ◌∷◌, ◌++◌, length, ◌==◌, ◌≢◌, slice_index}
use Rattle.std.specs.List.{AllByRecursion}
use Rattle.refusal.specs.declared.Refusal.{Refusal}
use Rattle.refusal.specs.declared.Refusal.TheVariants.{LineTooLong, LineNotClosed, TooManyWords, WordNotUtf8}
use Rattle.text.specs.Identifier.{Text}
use Rattle.text.specs.Utf8.{Utf8}

-- words end to end, each closed by a zero byte
abbrev pub closed : List Text → List ℕ
closed [] = []
closed (w ∷ ws) = w ++ (0 ∷ closed ws)

-- no zero byte
abbrev pub bare : Text → Bool
bare [] = true
bare (b ∷ t) = cond (b == 0) false (bare t)

abbrev pub all_bare : List Text → Bool
all_bare [] = true
all_bare (w ∷ ws) = bare w && all_bare ws

-- the words of a line: closed and joined they are the line, and none holds a zero byte
pub record Cut (line : List ℕ) (words : List Text) : Type 0 where
  pub whole : closed words ≡ line
  pub zeroless : all_bare words ≡ true

-- a line within the limits, with its words
pub record Within (line : List ℕ) (words : List Text) : Type 0 where
  pub short : length line ≤ 1024
  pub cut : Cut line words
  pub few : length words ≤ 128
  pub valid : AllByRecursion Utf8 words

-- the first limit that a line oversteps: those before it are kept
pub data Oversteps (line : List ℕ) : Refusal → Type 0 where
  long : 1024 < length line → Oversteps line LineTooLong
  unclosed : length line ≤ 1024 → 0 < length line → (slice_index line (length line - 1) ≢ 0) → Oversteps line LineNotClosed
  many : {words : List Text} → length line ≤ 1024 → Cut line words → 128 < length words → Oversteps line TooManyWords
  garbled : (before : List Text) (word : Text) (after : List Text) → length line ≤ 1024 → Cut line (before ++ word ∷ after) → length (before ++ word ∷ after) ≤ 128 → AllByRecursion Utf8 before → (Utf8 word → ⊥) → Oversteps line (WordNotUtf8 (length before))

-- a line has one list of words at most, and keeps the limits or oversteps one first, and never both
pub record LineStands : Type 0 where
  pub only : (line : List ℕ) (words others : List Text) → Cut line words → Cut line others → words ≡ others
  pub apart : (line : List ℕ) (words : List Text) (refusal : Refusal) → Within line words → Oversteps line refusal → ⊥
  pub first : (line : List ℕ) (refusal other : Refusal) → Oversteps line refusal → Oversteps line other → refusal ≡ other
