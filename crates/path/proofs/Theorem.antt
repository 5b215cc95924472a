-- Words from an order's first on have exactly one lawful path, or exactly one first fault.
use Rattle.std.proofs.Common.{◌≡◌, true, false, List, [], ◌∷◌, Ok, Err, Result, sym, refl, ap, ◌∙◌}
use Rattle.std.proofs.lemmas.Bool.{true≢false}
use Rattle.refusal.specs.declared.Refusal.{Refusal}
use Rattle.text.specs.Identifier.{Text}
use Rattle.text.specs.Pieces.{has_colon, split, well_formed, Pieces}
use Rattle.text.proofs.Splits.{either_way}
use Rattle.text.proofs.Joins.{pieces_is, pieces_formed, pieces_does, unclosed_is, unclosed_does}
use Rattle.register.specs.Meaning.{NameMeaning}
use Rattle.path.specs.declared.path.Path.{Path}
use Rattle.path.specs.Path.{Modulepath, Meant, Gives, PathFault, PathAnswer, OnlyAnswer}
use Rattle.path.specs.Steps.{ResolvesTo, of_words, of_pieces, TextAnswer}
use Rattle.path.proofs.Model.{whole, meant_of, text_path, path_of}
use Rattle.path.proofs.Walks.{resolves_is, strays_is, whole_does}

pub meant_is : {word text : Text} {rest : List Text} → Meant word rest text → meant_of word rest ≡ text
meant_is Meant.not_last = refl
meant_is (Meant.last u) = unclosed_is u

meant_does : (word : Text) (rest : List Text) → Meant word rest (meant_of word rest)
meant_does word [] = Meant.last (unclosed_does word)
meant_does word (next ∷ rest) = Meant.not_last

-- where the names that words give lead is their answer
pub gives_answer : (names : NameMeaning) {words : List Text} {path : Modulepath} → Gives words path → (answer : Result Path Refusal) → ResolvesTo names path answer → PathAnswer names words answer
gives_answer names {path} g (Ok found) h = record { path = path; gives = g; resolves = h }
gives_answer names g (Err refusal) h = PathFault.strays g h

module _ (names : NameMeaning) where
  -- From the rules to the function.

  word_is : {word text : Text} {rest : List Text} → has_colon word ≡ true → Meant word rest text → path_of names (word ∷ rest) ≡ text_path names text
  word_is c m = rw c (ap (text_path names) (meant_is m))

  gives_is : {words : List Text} {path : Modulepath} → Gives words path → path_of names words ≡ whole names path
  gives_is Gives.no_words = refl
  gives_is (Gives.each_word c) = rw c
  gives_is (Gives.one_word {text} c m p) = word_is c m ∙ rw (pieces_formed p) (ap (λ ps. whole names (of_pieces ps)) (pieces_is p))

  no_pieces : (text : Text) → ((pieces : List Text) → Pieces text pieces → ⊥) → well_formed text ≡ false
  no_pieces text no! = either_way (well_formed text) (λ t. absurd (no! (split text) (pieces_does text t))) (λ f. f)

  fault_is : {words : List Text} {refusal : Refusal} → PathFault names words refusal → path_of names words ≡ Err refusal
  fault_is (PathFault.strays {path} g s) = gives_is g ∙ strays_is names path s
  fault_is (PathFault.malformed {text} c m no!) = word_is c m ∙ rw (no_pieces text no!)

  answer_is : (words : List Text) (answer : Result Path Refusal) → PathAnswer names words answer → path_of names words ≡ answer
  answer_is words (Ok found) h = gives_is h.gives ∙ resolves_is names h.path h.resolves
  answer_is words (Err refusal) h = fault_is h

  -- From the function to the rules.

  text_does : (text : Text) → TextAnswer names text (text_path names text)
  text_does text word rest c m =
      either_way (well_formed text)
      (λ e. rw e (gives_answer names (Gives.one_word c m (pieces_does text e)) (whole names (of_pieces (split text))) (whole_does names (of_pieces (split text)))))
      (λ e. rw e (PathFault.malformed c m (λ pieces p. true≢false (sym (pieces_formed p) ∙ e))))

  pub answer_does : (words : List Text) → PathAnswer names words (path_of names words)
  answer_does [] = gives_answer names Gives.no_words (whole names (of_words [])) (whole_does names (of_words []))
  answer_does (word ∷ rest) =
      either_way (has_colon word)
      (λ c. rw c (text_does (meant_of word rest) word rest c (meant_does word rest)))
      (λ c. rw c (gives_answer names (Gives.each_word c) (whole names (of_words (word ∷ rest))) (whole_does names (of_words (word ∷ rest)))))

  -- words have no other answer than one that they have
  pub the_only : (words : List Text) (answer : Result Path Refusal) → PathAnswer names words answer → OnlyAnswer names words answer
  the_only words answer h = record { right = h; only = λ other k. sym (answer_is words other k) ∙ answer_is words answer h }
