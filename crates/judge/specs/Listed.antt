-- A text among listed texts, as a test: `Has` says the same. Assumes nothing.
use Rattle.std.specs.Prelude.{Bool, false, ◌||◌, List, [], ◌∷◌}
use Rattle.std.specs.Str.{bytes_eq}
use Rattle.text.specs.Identifier.{Text}

abbrev pub listed : List Text → Text → Bool
listed [] text = false
listed (first ∷ more) text = bytes_eq first text || listed more text
