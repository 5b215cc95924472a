-- The words of an answer.
use Rattle.std.proofs.Common.{◌≡◌, ℕ, ◌+◌, ◌<◌, List, [], ◌∷◌, ◌++◌, length, get_or, take, sym, ap, ◌∙◌}
use Rattle.std.proofs.lemmas.List.{append_assoc, append-nil, map_more}
use Rattle.text.specs.declared.span.Span.{Span}
use Rattle.text.specs.Spans.{text_at, texts_at}
use Rattle.script.specs.Answer.{word_text, listed}

listed_push : (ws : List (List ℕ)) (w : List ℕ) → listed (ws ++ w ∷ []) ≡ listed ws ++ (32 ∷ word_text w)
listed_push [] w = ap (λ l. 32 ∷ l) (append-nil (word_text w))
listed_push (v ∷ ws) w = ap (λ l. 32 ∷ word_text v ++ l) (listed_push ws w) ∙ ap (λ l. 32 ∷ l) (sym (append_assoc (word_text v) (listed ws) (32 ∷ word_text w)))

-- one word more: a space, and then the word
pub word_more : (bytes word : List ℕ) (words : List Span) (i : ℕ) (d : Span) → i < length words → word ≡ text_at bytes (get_or words i d) → listed (texts_at bytes (take i words)) ++ (32 ∷ word_text word) ≡ listed (texts_at bytes (take (i + 1) words))
word_more bytes word words i d h w =
    let done = texts_at bytes (take i words) in
    sym (listed_push done word) ∙ ap (λ x. listed (done ++ x ∷ [])) w ∙ ap listed (sym (map_more (text_at bytes) words i d h))
