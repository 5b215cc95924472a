-- The pieces of a word, one after the other.
use Rattle.std.proofs.Common.{◌≡◌, Bool, true, List, [], ◌∷◌, is_some, option_map, Some, None, Option, Bor, false, Result, refl, subst, sym, ap, ◌∙◌}
use Rattle.std.specs.Iterator.{YieldsFirstBy}
use Rattle.std.proofs.lemmas.Iterator.Consumers.{YieldsList-from_first}
use Rattle.refusal.specs.declared.Refusal.{Refusal}
use Rattle.text.specs.Identifier.{Text}
use Rattle.text.specs.Pieces.{split, Pieces as IsPieces}
use Rattle.text.specs.Left.{pieces_of}
use Rattle.text.proofs.Splits.{split_some}
use Rattle.text.proofs.Joins.{pieces_is}
use Rattle.register.specs.Meaning.{NameMeaning}
use Rattle.path.specs.declared.path.Path.{Path}
use Rattle.path.specs.declared.pieces.Pieces.{Pieces}
use Rattle.path.specs.Path.{followed_by}
use Rattle.path.specs.Steps.{ResolvesTo, of_pieces}
use Rattle.path.specs.Names.{name_of, names_from, names_left, Names}

some_follow : (behind : List Text) (q : Text) (qs : List Text) → behind ≡ q ∷ qs → followed_by (record { components = []; spaced = false }) behind ≡ true
some_follow behind q qs s = rw s

-- a piece as a name, before the pieces that are left
pub name_given : {left : List Text} (t : Text) (rest : Option (Bor Text)) (followed : Bool) → followed ≡ is_some rest → left ≡ t ∷ pieces_of (option_map (λ x. x.now) rest)
    → names_from false 0 left ≡ record { text = t; followed = followed; word = 0 } ∷ names_from false 0 (pieces_of (option_map (λ x. x.now) rest))
name_given t None followed f is =
    ap (names_from false 0) is ∙ ap (λ (b : Bool). record { text = t; followed = b; word = 0 } ∷ []) (sym f)
name_given t (Some x) followed f is =
    let s = split_some x.now in
    ap (names_from false 0) is ∙ ap (λ (b : Bool). record { text = t; followed = b; word = 0 } ∷ names_from false 0 (split x.now)) (some_follow (split x.now) s.0 s.1 s.2 ∙ sym f)

-- the pieces of a text as the names of a path
pub pieces_names : (pieces : Pieces) (text : Text) → names_left pieces ≡ names_from false 0 (split text) → Names (YieldsFirstBy name_of names_left) pieces (of_pieces (split text)) 1
pieces_names pieces text is = record { gives = (YieldsList-from_first name_of names_left (names_from false 0 (split text)) is).runs; count = refl }

-- pieces that are identifiers are those that a cut at each `::` gives
pub by_split : (names : NameMeaning) {text : Text} {pieces : List Text} (answer : Result Path Refusal) → IsPieces text pieces → ResolvesTo names (of_pieces (split text)) answer → ResolvesTo names (of_pieces pieces) answer
by_split names answer p h = subst (λ ps. ResolvesTo names (of_pieces ps) answer) (pieces_is p) h
