-- The first word decides how a path is read.
use Rattle.std.proofs.Common.{◌≡◌, ℕ, true, false, List, [], ◌∷◌, length, Result, sym, refl, ap, ◌∙◌, subst, arith}
use Rattle.refusal.specs.declared.Refusal.{Refusal}
use Rattle.text.specs.Identifier.{Text}
use Rattle.text.specs.Pieces.{has_colon, Unclosed}
use Rattle.text.specs.Spans.{text_at, texts_at}
use Rattle.text.specs.declared.span.Span.{Span}
use Rattle.register.specs.Meaning.{NameMeaning}
use Rattle.path.specs.declared.path.Path.{Path}
use Rattle.path.specs.Path.{Meant, Gives, PathAnswer}
use Rattle.path.specs.Steps.{of_words, TextAnswer}

module _ (bytes : List ℕ) where
  pub no_first : (words : List Span) → length words ≡ 0 → Gives (texts_at bytes words) (of_words (texts_at bytes words))
  no_first [] h = Gives.no_words
  no_first (w ∷ ws) h = absurd (omega arith)

  pub plain_first : (words rest : List Span) (first : Span) (word : Text) → words ≡ first ∷ rest → word ≡ text_at bytes first → has_colon word ≡ false → Gives (texts_at bytes words) (of_words (texts_at bytes words))
  plain_first words rest first word e is c = subst (λ ws. Gives (texts_at bytes ws) (of_words (texts_at bytes ws))) (sym e) (Gives.each_word (ap has_colon (sym is) ∙ c))

  -- the first word has a colon
  pub colon_first : (names : NameMeaning) (answer : Result Path Refusal) (words rest : List Span) (first : Span) (word text : Text) → words ≡ first ∷ rest → word ≡ text_at bytes first → has_colon word ≡ true → Meant word (texts_at bytes rest) text → TextAnswer names text answer → PathAnswer names (texts_at bytes words) answer
  colon_first names answer words rest first word text e is c m told =
      subst (λ ws. PathAnswer names (texts_at bytes ws) answer) (sym e)
      (told (text_at bytes first) (texts_at bytes rest) (ap has_colon (sym is) ∙ c) (subst (λ w. Meant w (texts_at bytes rest) text) is m))

  -- what a word is taken for where no words follow, and where some do
  pub meant_last : (rest : List Span) {word text : Text} → length rest ≡ 0 → Unclosed word text → Meant word (texts_at bytes rest) text
  meant_last [] h u = Meant.last u
  meant_last (w ∷ ws) h u = absurd (omega arith)

  pub meant_mid : (rest : List Span) {word : Text} → (length rest ≡ 0 → ⊥) → Meant word (texts_at bytes rest) word
  meant_mid [] h = absurd (h refl)
  meant_mid (w ∷ ws) h = Meant.not_last
