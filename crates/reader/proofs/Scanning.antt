-- Steps of the loop over the words of an order. Assumes nothing.
use Rattle.std.proofs.Common.{◌≡◌, ℕ, ◌+◌, ◌<◌, List, length, get_or, drop, None, Ok, Err, Option, Result, sym, ap, ◌∙◌}
use Rattle.std.proofs.lemmas.List.{at_drop_more}
use Rattle.refusal.specs.declared.Refusal.{Refusal}
use Rattle.text.specs.Spans.{text_at, texts_at}
use Rattle.text.specs.declared.span.Span.{Span}
use Rattle.register.specs.Meaning.{ParameterMeaning}
use Rattle.reading.specs.Model.{Next, step, scan, on_step}
use Rattle.reading.specs.Model.Scanned.{Stopped, Broken}
use Rattle.reading.specs.declared.role.Role.{Role}
use Rattle.reader.specs.Steps.{state_of, next_of}
use Rattle.reader.specs.declared.invocation.Invocation.{Invocation}

module _ (ps : List ParameterMeaning) (bytes : List ℕ) (words : List Span) (i : ℕ) (d : Span) (before after : Invocation) (roles : List Role) (r : Result (Option Role) Refusal) (h : i < length words) (n : next_of ps bytes roles r after ≡ step ps (state_of ps bytes before roles) (text_at bytes (get_or words i d))) where
  at : scan ps (state_of ps bytes before roles) (texts_at bytes (drop i words)) ≡ on_step (next_of ps bytes roles r after) (state_of ps bytes before roles) (texts_at bytes (drop i words)) (λ t. scan ps t (texts_at bytes (drop (i + 1) words)))
  at =
      let st = state_of ps bytes before roles in
      let w = text_at bytes (get_or words i d) in
      at_drop_more (λ (ws : List Span). scan ps st (texts_at bytes ws)) words i d h
      ∙ ap (λ (ws : List (List ℕ)). on_step (step ps st w) st ws (λ t. scan ps t (texts_at bytes (drop (i + 1) words)))) (sym (at_drop_more (texts_at bytes) words i d h))
      ∙ ap (λ (x : Next). on_step x st (texts_at bytes (drop i words)) (λ t. scan ps t (texts_at bytes (drop (i + 1) words)))) (sym n)

  pub turn_stop : r ≡ Ok None → after ≡ before → Stopped (state_of ps bytes after roles) (texts_at bytes (drop i words)) ≡ scan ps (state_of ps bytes before roles) (texts_at bytes (drop i words))
  turn_stop e s =
      ap (λ (x : Invocation). Stopped (state_of ps bytes x roles) (texts_at bytes (drop i words))) s
      ∙ sym (at ∙ ap (λ (x : Result (Option Role) Refusal). on_step (next_of ps bytes roles x after) (state_of ps bytes before roles) (texts_at bytes (drop i words)) (λ t. scan ps t (texts_at bytes (drop (i + 1) words)))) e)

  pub turn_off : (f : Refusal) → r ≡ Err f → Broken f ≡ scan ps (state_of ps bytes before roles) (texts_at bytes (drop i words))
  turn_off f e = sym (at ∙ ap (λ (x : Result (Option Role) Refusal). on_step (next_of ps bytes roles x after) (state_of ps bytes before roles) (texts_at bytes (drop i words)) (λ t. scan ps t (texts_at bytes (drop (i + 1) words)))) e)
