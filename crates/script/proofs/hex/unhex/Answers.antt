use Rattle.std.proofs.Common.{arith, [], length, ◌∙◌, sym, subst, vec_items}
use Rattle.std.proofs.lemmas.Result.{err_from_is_err_and}
use Rattle.script.specs.Hex.{Spells}
use Rattle.script.proofs.Hexing.{even, no_value, has_value, not_high, not_low, one_byte, all_pairs}
use Rattle.script.proofs.hex.unhex.Goals as goal

pub returns-in_default : goal.returns-in_default
returns-in_default c bytes s = let e = even s in let k = c.as_chunks.ensures.back_len in let l = c.in_default.len_at_least in omega arith

pub loop-high-init : goal.loop-high-init
loop-high-init c = subst (Spells []) (sym c.new-bytes.ensures.items) Spells.none

pub returns-in_err-high : goal.returns-in_err-high
returns-in_err-high c =
    let p = err_from_is_err_and c.from_residual.result c.from_residual.ensures.1 in
    let n = no_value c.value.result c.in_err-high.field-0.0 (sym c.ok_or.ensures.value ∙ c.in_err-high.was) in
    rw (p.1, p.2, n.1)
    (not_high c.args.hex.now c.as_chunks.result.0.now c.loop-high.high-index (vec_items c.loop-high.bytes) c.as_chunks.ensures.front c.as_chunks.ensures.front_len c.loop-high-test.true c.loop-high.invariant (sym c.value.ensures.value ∙ n.0))

pub returns-in_err-low : goal.returns-in_err-low
returns-in_err-low c =
    let p = err_from_is_err_and c.from_residual-in_err-low.result c.from_residual-in_err-low.ensures.1 in
    let n = no_value c.value-in-loop-high.result c.in_err-low.field-0.0 (sym c.ok_or-in-loop-high.ensures.value ∙ c.in_err-low.was) in
    rw (p.1, p.2, n.1)
    (not_low c.args.hex.now c.as_chunks.result.0.now c.loop-high.high-index (vec_items c.loop-high.bytes) c.as_chunks.ensures.front c.as_chunks.ensures.front_len c.loop-high-test.true c.loop-high.invariant (sym c.value-in-loop-high.ensures.value ∙ n.0))

pub loop-high-preserved : goal.loop-high-preserved
loop-high-preserved c =
    let high = has_value c.value.result c.in_ok-high.high (sym c.ok_or.ensures.value ∙ c.in_ok-high.was) in
    let low = has_value c.value-in-loop-high.result c.in_ok-low.low (sym c.ok_or-in-loop-high.ensures.value ∙ c.in_ok-low.was) in
    subst (Spells _) (sym c.in_ok-push.ensures.items)
    (one_byte c.args.hex.now c.as_chunks.result.0.now c.loop-high.high-index (vec_items c.loop-high.bytes) c.as_chunks.ensures.front c.as_chunks.ensures.front_len c.loop-high-test.true c.loop-high.invariant c.in_ok-high.high c.in_ok-low.low (sym c.value.ensures.value ∙ high) (sym c.value-in-loop-high.ensures.value ∙ low))

pub returns : goal.returns
returns c = let k = c.in_default-empty.len_below in let b = c.as_chunks.ensures.back_len in all_pairs c.args.hex.now (length c.as_chunks.result.0.now) c.loop-high.high-index (vec_items c.loop-high.bytes) c.as_chunks.ensures.front_len (omega arith) c.loop-high-test.false c.loop-high.invariant
