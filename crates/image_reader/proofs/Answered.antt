-- What is read over an image is what just answers. Assumes nothing.
use Rattle.std.proofs.Common.{◌≡◌, ℕ, List, length, Ok, Err, Result, sym, ap, ◌∙◌, subst, inl, inr, MatchResult}
use Rattle.refusal.specs.declared.Refusal.{Refusal}
use Rattle.text.specs.Identifier.{Text}
use Rattle.text.specs.Line.{Within, Oversteps}
use Rattle.text.proofs.Lines.{line_stands}
use Rattle.register.specs.Meaning.{NameMeaning, SignatureMeaning}
use Rattle.judge.specs.Meaning.{JudgeMeaning}
use Rattle.tree.specs.Tree.{Tree}
use Rattle.tree_register.specs.Names.{tree_names}
use Rattle.tree_register.specs.Signatures.{tree_signatures}
use Rattle.image.specs.Image.{Lawful, Unlawful}
use Rattle.image.specs.Loads.{Loads, Means, no_tree}
use Rattle.image.specs.declared.load.Loaded.{Loaded}
use Rattle.image.specs.declared.tables.Sizes.{Sizes}
use Rattle.image.proofs.Stands.{image_stands}
use Rattle.reading.specs.Line.{Reading, OnlyReading}
use Rattle.reading.specs.declared.role.Role.{Role}
use Rattle.book.specs.Kept.{KeptOrder, Reads}
use Rattle.just.specs.InvocationParser.{parse_invocations}
use Rattle.just.specs.FromTree.{justfiles_of}
use Rattle.just.specs.Outcome.{of_just, of_reading}
use Rattle.just.proofs.Stands.{just_stands}
use Rattle.image_reader.specs.Choice.{choice_of}
use Rattle.image_reader.specs.AsJust.{answered, AsJust}
use Rattle.image_reader.specs.declared.choice.JudgeChoice.{JudgeChoice}

module _ (U : Type 0) (image line : List ℕ) (choice : JudgeChoice) (kept : List KeptOrder) where
  pub image_refused : (f : Refusal) → Unlawful image f → AsJust {U = U} image choice line kept (Err f)
  image_refused f u = record {
    unlawful = λ g v. ap Err (image_stands.first image f g u v);
    overstepped = λ t l g o. absurd (image_stands.apart image t f l u);
    just = λ t l words within. absurd (image_stands.apart image t f l u);
  }

  module _ (t : Tree) (l : Lawful image t) (roles : List Role) where
    -- the words of the line, and the rules' answer to them
    just_says : (words : List Text) → Within line words → (answer : Result Reading Refusal) → OnlyReading (tree_names t) (tree_signatures t) (choice_of choice t) words answer → (others : List Text) → Within line others → of_reading answer ≡ of_just (parse_invocations (choice_of choice t) (justfiles_of t) others)
    just_says words w answer only others o =
        sym (just_stands image t l (choice_of choice t) words w.valid answer only)
        ∙ ap (λ (x : List Text). of_just (parse_invocations (choice_of choice t) (justfiles_of t) x)) (line_stands.only line words others w.cut o.cut)

    says : (r : Result U Refusal) → Reads (tree_names t) (tree_signatures t) (choice_of choice t) line kept roles r → (words : List Text) → Within line words → answered (tree_signatures t) kept r ≡ of_just (parse_invocations (choice_of choice t) (justfiles_of t) words)
    says (Ok u) reads words w = just_says reads.0 reads.1 _ reads.2 words w
    says (Err f) (inl o) words w = absurd (line_stands.apart line words f w o)
    says (Err f) (inr reads) words w = just_says reads.0 reads.1 _ reads.2 words w

    oversteps : (r : Result U Refusal) → Reads (tree_names t) (tree_signatures t) (choice_of choice t) line kept roles r → (f : Refusal) → Oversteps line f → r ≡ Err f
    oversteps (Ok u) reads f o = absurd (line_stands.apart line reads.0 f reads.1 o)
    oversteps (Err g) (inl p) f o = ap Err (line_stands.first line g f p o)
    oversteps (Err g) (inr reads) f o = absurd (line_stands.apart line reads.0 f reads.1 o)

    pub line_read : (r : Result U Refusal) → Reads (tree_names t) (tree_signatures t) (choice_of choice t) line kept roles r → AsJust {U = U} image choice line kept r
    line_read r reads = record {
      unlawful = λ f u. absurd (image_stands.apart image t f l u);
      overstepped = λ u m f o. oversteps r reads f o;
      just = λ u m words w. subst (λ (x : Tree). answered (tree_signatures x) kept r ≡ of_just (parse_invocations (choice_of choice x) (justfiles_of x) words)) (image_stands.one image t u l m) (says r reads words w);
    }

-- what a checked image says of its tree, by the answer of the check
pub loads_ok : (image : List ℕ) (loaded : Loaded) (sizes : Sizes) → loaded.answer ≡ Ok sizes → Loads image loaded → (t : Tree) × Lawful image t × Means loaded t
loads_ok image loaded sizes e l = let x = subst (λ (a : Result Sizes Refusal). MatchResult a (λ sizes. (t : Tree) × Lawful image t × Means loaded t × (sizes.modules ≡ length t.modules) × (sizes.names ≡ length t.names) × (sizes.recipes ≡ length t.recipes) × (sizes.patterns ≡ length t.patterns)) (λ refusal. Unlawful image refusal × Means loaded no_tree)) e l in (x.0, x.1, x.2)

pub loads_err : (image : List ℕ) (loaded : Loaded) (f : Refusal) → loaded.answer ≡ Err f → Loads image loaded → Unlawful image f
loads_err image loaded f e l = (subst (λ (a : Result Sizes Refusal). MatchResult a (λ sizes. (t : Tree) × Lawful image t × Means loaded t × (sizes.modules ≡ length t.modules) × (sizes.names ≡ length t.names) × (sizes.recipes ≡ length t.recipes) × (sizes.patterns ≡ length t.patterns)) (λ refusal. Unlawful image refusal × Means loaded no_tree)) e l).0

-- by the meanings of the tree
pub by_tree : {U : Type 0} (names : NameMeaning) (s : SignatureMeaning) (judge : JudgeMeaning) (t : Tree) (choice : JudgeChoice) (line : List ℕ) (kept : List KeptOrder) (roles : List Role) (r : Result U Refusal) → names ≡ tree_names t → s ≡ tree_signatures t → judge ≡ choice_of choice t → Reads names s judge line kept roles r → Reads (tree_names t) (tree_signatures t) (choice_of choice t) line kept roles r
by_tree names s judge t choice line kept roles r n g j reads =
    subst (λ (x : JudgeMeaning). Reads (tree_names t) (tree_signatures t) x line kept roles r) j
    (subst (λ (x : SignatureMeaning). Reads (tree_names t) x judge line kept roles r) g
    (subst (λ (x : NameMeaning). Reads x s judge line kept roles r) n reads))
