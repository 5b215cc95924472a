-- What the steps of cutting a line answer.
use Rattle.std.specs.Prelude.{◌≡◌, ℕ, ◌-◌, ◌<◌, ◌≤◌, Bool, true, cond, List, ◌∷◌, ◌++◌, length, take, Option, MatchOption, ◌==◌, slice_index}
use Rattle.std.specs.List.{AllByRecursion}
use Rattle.text.specs.Identifier.{Text}
use Rattle.text.specs.Spans.{texts_at}
use Rattle.text.specs.Utf8.{Utf8}
use Rattle.text.specs.Line.{Cut}
use Rattle.text.specs.declared.span.Span.{Span}
use Rattle.text.specs.declared.line.Line.{Line}

-- the bytes and the words of a line that was cut
abbrev pub bytes_of : Line → List ℕ
bytes_of line = take line.size line.bytes

abbrev pub words_of : Line → List Text
words_of line = texts_at (bytes_of line) (take line.count line.words)

-- empty, or with a zero at the end
abbrev pub ends : List ℕ → Bool
ends line = cond (length line == 0) true (slice_index line (length line - 1) == 0)

-- the table's first rows are the words, 128 at most; or there are more
abbrev pub Filled : List ℕ → List Span → Option ℕ → Type 0
Filled line table r =
    MatchOption r ((words : List Text) × Cut line words × (128 < length words))
    (λ n. (n ≤ 128) × Cut line (texts_at line (take n table)))

-- all words are UTF-8; or those before this one, and not this one
abbrev pub FirstGarbled : List Text → Option ℕ → Type 0
FirstGarbled words r =
    MatchOption r (AllByRecursion Utf8 words)
    (λ i. (before : List Text) × (word : Text) × (after : List Text) × (words ≡ before ++ word ∷ after) × (length before ≡ i) × AllByRecursion Utf8 before × (Utf8 word → ⊥))
