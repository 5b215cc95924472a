-- The letters of a switch word that are left. Assumes nothing.
use Rattle.std.specs.Prelude.{ℕ, true, false, List, [], ◌∷◌}
use Rattle.reading.specs.Letters.{letters}
use Rattle.reader.specs.declared.letters.SwitchLetter.{SwitchLetter}
use Rattle.reader.specs.declared.letters.Letters.{Letters}

-- code points, with a mark at the last
abbrev pub marked : List ℕ → List SwitchLetter
marked [] = []
marked (c ∷ []) = record { code = c; last = true } ∷ []
marked (c ∷ d ∷ cs) = record { code = c; last = false } ∷ marked (d ∷ cs)

abbrev pub letters_left : Letters → List SwitchLetter
letters_left l = marked (letters l.0.now)
