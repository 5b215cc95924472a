-- Texts as places in bytes; a span past the end is cut short.
use Rattle.std.specs.Prelude.{ℕ, List, map, take, drop}
use Rattle.text.specs.Identifier.{Text}
use Rattle.text.specs.declared.span.Span.{Span}

abbrev pub text_at : List ℕ → Span → Text
text_at bytes s = take s.len (drop s.start bytes)

abbrev pub texts_at : List ℕ → List Span → List Text
texts_at bytes spans = map (text_at bytes) spans
