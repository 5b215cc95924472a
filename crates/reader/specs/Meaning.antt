-- What the reader's rows and answers mean in the model of the reading. Assumes nothing.
use Rattle.std.specs.Prelude.{ℕ, suc, ◌+◌, ◌-◌, ◌*◌, min, Bool, true, false, cond, List, [], ◌∷◌, map, length, ◌==◌}
use Rattle.std.specs.Str.{continuation_len, lead_bits}
use Rattle.text.specs.Identifier.{Text}
use Rattle.text.specs.Spans.{text_at}
use Rattle.reading.specs.Reading.{Value, true_text}
use Rattle.reader.specs.declared.source.Source.{Source}
use Rattle.reader.specs.declared.source.Source.TheVariants.{Part, True}
use Rattle.reader.specs.declared.source.ValueRow.{ValueRow}
use Rattle.reader.specs.declared.values.Values.{Values}

-- Values.

abbrev pub source_text : List ℕ → Source → Text
source_text bytes (Part span) = text_at bytes span
source_text bytes True = true_text

abbrev pub value_of : List ℕ → ValueRow → Value
value_of bytes row = record { parameter = row.parameter; text = source_text bytes row.source; word = row.word }

abbrev pub values_of : List ℕ → Values → List Value
values_of bytes values = map (value_of bytes) values.rows.items

-- whether a row gives to the parameter at a place
abbrev pub any_to : ℕ → List ValueRow → Bool
any_to k [] = false
any_to k (row ∷ rows) = cond (k == row.parameter) true (any_to k rows)

-- Letters.

-- a code point with six bits of each further byte
abbrev pub with_tail : ℕ → List ℕ → ℕ
with_tail c [] = c
with_tail c (b ∷ t) = with_tail (c * 64 + (b - 128)) t

-- the code point that the bytes of one letter stand for
abbrev pub letter_code : Text → ℕ
letter_code [] = 0
letter_code (b ∷ t) = with_tail (lead_bits b) t

-- how many bytes the first letter has
abbrev pub letter_length : Text → ℕ
letter_length [] = 0
letter_length (b ∷ t) = min (suc (continuation_len b)) (suc (length t))
