-- The pieces that are left of a word while it is gone along. Assumes nothing.
use Rattle.std.specs.Prelude.{List, [], Some, None, Option}
use Rattle.std.specs.Option.{option_map}
use Rattle.text.specs.Identifier.{Text}
use Rattle.text.specs.Pieces.{split}
use Rattle.text.specs.declared.pieces.Split.{Split}

abbrev pub pieces_of : Option Text → List Text
pieces_of None = []
pieces_of (Some text) = split text

abbrev pub pieces_left : Split → List Text
pieces_left pieces = pieces_of (option_map (λ text. text.now) pieces.rest)
