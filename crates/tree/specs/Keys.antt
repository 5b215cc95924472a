-- The parts of each key, and the key of each row over an image's bytes. Assumes nothing.
use Rattle.std.specs.Prelude.{ℕ, List, [], ◌∷◌}
use Rattle.register.specs.Kinds.{kind_number}
use Rattle.text.specs.Spans.{text_at}
use Rattle.tree.specs.declared.keys.NameKey.{NameKey}
use Rattle.tree.specs.declared.keys.LongKey.{LongKey}
use Rattle.tree.specs.declared.keys.LetterKey.{LetterKey}
use Rattle.tree.specs.declared.rows.NameRow.{NameRow}
use Rattle.tree.specs.declared.rows.LongRow.{LongRow}
use Rattle.tree.specs.declared.rows.LetterRow.{LetterRow}

-- module, kind and the text's bytes
abbrev pub name_parts : NameKey → List ℕ
name_parts k = k.«module» ∷ kind_number k.kind ∷ k.text.now

abbrev pub name_key : List ℕ → NameRow → List ℕ
name_key image row = row.«module» ∷ kind_number row.kind ∷ text_at image row.text

-- recipe and the text's bytes
abbrev pub long_parts : LongKey → List ℕ
long_parts k = k.recipe ∷ k.text.now

abbrev pub long_key : List ℕ → LongRow → List ℕ
long_key image row = row.recipe ∷ text_at image row.text

-- recipe and code point
abbrev pub letter_parts : LetterKey → List ℕ
letter_parts k = k.recipe ∷ k.letter ∷ []

abbrev pub letter_key : List ℕ → LetterRow → List ℕ
letter_key image row = row.recipe ∷ row.letter ∷ []
