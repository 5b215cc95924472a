-- The words of an order as the names of a path.
use Rattle.std.proofs.Common.{◌≡◌, ℕ, ◌+◌, true, false, List, [], ◌∷◌, length, map, Option, refl, sym, ap, ◌∙◌, subst}
use Rattle.std.specs.List.{enumerate_from}
use Rattle.std.proofs.lemmas.List.{length-map}
use Rattle.std.proofs.lemmas.Iterator.{YieldsList}
use Rattle.text.specs.Identifier.{Text}
use Rattle.text.specs.Spans.{text_at, texts_at}
use Rattle.text.specs.declared.span.Span.{Span}
use Rattle.path.specs.declared.name.Name.{Name}
use Rattle.path.specs.Path.{followed_by}
use Rattle.path.specs.Steps.{of_words}
use Rattle.path.specs.Names.{NameAt, name_of, names_from, Names}

-- a word by its number
abbrev pub name_at : List ℕ → ℕ × Span → NameAt
name_at bytes (word, span) = record { text = text_at bytes span; followed = false; word = word }

alone : (rest : List Text) → followed_by (record { components = []; spaced = true }) rest ≡ false
alone [] = refl
alone (text ∷ rest) = refl

numbered : (bytes : List ℕ) (word : ℕ) (words : List Span) → map (name_at bytes) (enumerate_from word words) ≡ names_from true word (texts_at bytes words)
numbered bytes word [] = refl
numbered bytes word (span ∷ words) =
    ap (λ (l : List NameAt). name_at bytes (word, span) ∷ l) (numbered bytes (word + 1) words)
    ∙ ap (λ b. record { text = text_at bytes span; followed = b; word = word } ∷ names_from true (word + 1) (texts_at bytes words)) (sym (alone (texts_at bytes words)))

pub words_names : {S : Type 0} {steps : S → Option Name → S → Type 0} {along : S} (bytes : List ℕ) (words : List Span) → YieldsList steps name_of along (map (name_at bytes) (enumerate_from 0 words)) → Names steps along (of_words (texts_at bytes words)) (length words)
words_names {steps} {along} bytes words road = record {
  gives = (subst (YieldsList steps name_of along) (numbered bytes 0 words) road).runs;
  count = length-map words (text_at bytes);
}
