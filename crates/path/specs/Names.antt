-- The names of a path as the walk is given them. Assumes nothing.
use Rattle.std.specs.Prelude.{◌≡◌, ℕ, ◌+◌, Bool, false, cond, List, [], ◌∷◌, length, Option}
use Rattle.std.specs.Iterator.{AlwaysYields}
use Rattle.text.specs.Identifier.{Text}
use Rattle.text.specs.Left.{pieces_left}
use Rattle.path.specs.declared.name.Name.{Name}
use Rattle.path.specs.declared.pieces.Pieces.{Pieces}
use Rattle.path.specs.Path.{Modulepath, words_of, followed_by}

-- a name, whether more pieces of its word follow, and its word
pub record NameAt : Type 0 where
  pub text : Text
  pub followed : Bool
  pub word : ℕ

abbrev pub name_of : Name → NameAt
name_of name = record { text = name.text.now; followed = name.followed; word = name.word }

-- names from this word on, in words of their own (spaced) or in one
abbrev pub names_from : Bool → ℕ → List Text → List NameAt
names_from spaced word [] = []
names_from spaced word (name ∷ rest) = record { text = name; followed = followed_by (record { components = []; spaced = spaced }) rest; word = word } ∷ names_from spaced (cond spaced (word + 1) word) rest

abbrev pub names_of : Modulepath → List NameAt
names_of path = names_from path.spaced 0 path.components

-- the names that are left of a word
abbrev pub names_left : Pieces → List NameAt
names_left names = names_from false 0 (pieces_left names.pieces)

-- an iterator gives the names of a path, which has so many words where they end
pub record Names {I : Type 0} (steps : I → Option Name → I → Type 0) (along : I) (path : Modulepath) (words : ℕ) : Type 0 where
  pub gives : AlwaysYields steps name_of along (names_of path)
  pub count : words_of path (length path.components) ≡ words

-- an iterator gives the names of some path
abbrev pub SomeNames : {I : Type 0} → (I → Option Name → I → Type 0) → I → ℕ → Type 0
SomeNames steps along words = (path : Modulepath) × Names steps along path words
