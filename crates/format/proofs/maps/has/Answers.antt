use Rattle.std.proofs.Common.{◌^◌, ◌<◌, sym, ap, ◌∙◌, arith, pow_mono}
use Rattle.std.proofs.lemmas.Bool.{le-ltb}
use Rattle.format.specs.Fields.{bit}
use Rattle.format.proofs.Bitwise.{bit_is, bit_above}
use Rattle.format.proofs.maps.has.Goals as goal

pub returns-then-place-lt32 : goal.returns-then-place-lt32
returns-then-place-lt32 g c = sym (bit_is c.args.place c.wide-bits.result) ∙ ap (bit c.args.place) c.wide-bits.ensures

pub returns-else-place-lt32 : goal.returns-else-place-lt32
returns-else-place-lt32 g c =
    let m = c.wide-bits.result in
    let h : m < 2 ^ 32 = omega arith in
    let k : m < 2 ^ c.args.place = omega (arith, pow_mono c.if-place-lt32.false) in
    le-ltb c.args.place 32 c.if-place-lt32.false ∙ sym (bit_above c.args.place m k) ∙ ap (bit c.args.place) c.wide-bits.ensures
