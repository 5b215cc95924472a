use Rattle.std.proofs.Common.{rules, tests}
use Rattle.std.proofs.lemmas.Iterator.{IsFirst-from_position, YieldsList-from_slice}
use Rattle.text.specs.Spans.{text_at}
use Rattle.text.specs.Utf8.{Utf8}
use Rattle.text.specs.declared.span.Span.{Span}
use Rattle.text.proofs.Kept.{first_garbled_at}
use Rattle.text.proofs.line.cut.first_garbled.Goals as goal

pub returns : goal.returns
returns c =
    let bytes = c.args.bytes.now in
    first_garbled_at bytes c.args.words.now c.position.result
    (IsFirst-from_position _ _ c.position.result (λ (w : Span). Utf8 (text_at bytes w) → ⊥) (λ (w : Span). Utf8 (text_at bytes w)) c.position.ensures.ran (YieldsList-from_slice c.args.words.now cc) (λ x q k. search (rules, tests)) (λ x q k. search (rules, tests)))
