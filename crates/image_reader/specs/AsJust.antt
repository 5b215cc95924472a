-- A line over an image is answered as just answers it. Assumes nothing.
use Rattle.std.specs.Prelude.{◌≡◌, ℕ, List, map, Some, Ok, Err, Option, Result}
use Rattle.refusal.specs.declared.Refusal.{Refusal}
use Rattle.text.specs.Identifier.{Text}
use Rattle.text.specs.Line.{Within, Oversteps}
use Rattle.register.specs.Meaning.{SignatureMeaning}
use Rattle.tree.specs.Tree.{Tree}
use Rattle.tree_register.specs.Signatures.{tree_signatures}
use Rattle.image.specs.Image.{Lawful, Unlawful}
use Rattle.book.specs.Kept.{KeptOrder, told_as}
use Rattle.just.specs.InvocationParser.{parse_invocations}
use Rattle.just.specs.FromTree.{justfiles_of}
use Rattle.just.specs.Outcome.{Telling, of_order, of_just}
use Rattle.image_reader.specs.Choice.{choice_of}
use Rattle.image_reader.specs.declared.choice.JudgeChoice.{JudgeChoice}

-- what is compared of an answer: the orders that are kept, or the refusal
abbrev pub answered : {U : Type 0} → SignatureMeaning → List KeptOrder → Result U Refusal → Result (List Telling) (Option Refusal)
answered s kept (Ok u) = Ok (map of_order (map (told_as s) kept))
answered s kept (Err f) = Err (Some f)

-- an unlawful image is refused by its first failing check; over a lawful one a line is refused by the first limit that it oversteps, or answered as just's `parse_invocations` answers its words over the image's tree
pub record AsJust {U : Type 0} (image : List ℕ) (choice : JudgeChoice) (line : List ℕ) (kept : List KeptOrder) (r : Result U Refusal) : Type 0 where
  pub unlawful : (f : Refusal) → Unlawful image f → r ≡ Err f
  pub overstepped : (t : Tree) → Lawful image t → (f : Refusal) → Oversteps line f → r ≡ Err f
  pub just : (t : Tree) → Lawful image t → (words : List Text) → Within line words → answered (tree_signatures t) kept r ≡ of_just (parse_invocations (choice_of choice t) (justfiles_of t) words)
