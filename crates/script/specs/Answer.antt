-- The text of the answers.
use Rattle.std.specs.Prelude.{ℕ, List, [], ◌∷◌, ◌++◌, length, codes, decimal}
use Rattle.refusal.specs.Told.{told_text}
use Rattle.refusal.specs.declared.Told.{Told}
use Rattle.script.specs.Hex.{hex_of}

abbrev pub refused_text : Told → List ℕ
refused_text told = codes "refused " ++ told_text told

-- a word in hexadecimal digits; an empty one as a dash
abbrev pub word_text : List ℕ → List ℕ
word_text [] = codes "-"
word_text (b ∷ t) = hex_of (b ∷ t)

-- each word behind a space
abbrev pub listed : List (List ℕ) → List ℕ
listed [] = []
listed (w ∷ ws) = 32 ∷ word_text w ++ listed ws

abbrev pub words_text : List (List ℕ) → List ℕ
words_text words = (codes "words " ++ decimal (length words)) ++ listed words
