use Rattle.std.proofs.Common.{sym, subst, ◌∙◌}
use Rattle.std.proofs.lemmas.List.{take_rest}
use Rattle.text.specs.Utf8.{Utf8}
use Rattle.text.proofs.Grammar.{before, behind, ended}
use Rattle.text.proofs.utf8.is_utf8.Goals as goal

pub loop-len-preserved : goal.loop-len-preserved
loop-len-preserved c =
    let rest = c.loop-len.rest.now in
    let is = c.in-Some.ensures.value in
    let e = take_rest rest c.in-Some.len in
    (λ u. c.loop-len.invariant.0 (before rest _ is.0 is.1 (subst Utf8 e u)), λ u. subst Utf8 (sym e) (behind rest _ is.0 is.1 (c.loop-len.invariant.1 u)))

pub returns : goal.returns
returns c =
    let d = ended c.loop-len.rest.now c.in_default.ensures.value in
    (λ e. c.loop-len.invariant.0 (d.0 (sym c.is_empty.ensures ∙ e)), λ u. c.is_empty.ensures ∙ d.1 (c.loop-len.invariant.1 u))
