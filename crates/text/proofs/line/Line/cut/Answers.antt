use Rattle.std.proofs.Common.{sym}
use Rattle.text.specs.Line.{Oversteps}
use Rattle.text.proofs.Kept.{not_closed, garbled_at, whole_made, zeroless_made, valid_made, within_made}
use Rattle.text.proofs.line.Line.cut.Goals as goal

pub returns-then-bytes-gt-LINE_BYTES : goal.returns-then-bytes-gt-LINE_BYTES
returns-then-bytes-gt-LINE_BYTES c = Oversteps.long c.if-bytes-gt-LINE_BYTES.true

pub returns-then-not-is_closed : goal.returns-then-not-is_closed
returns-then-not-is_closed c = not_closed c.args.bytes.now c.if-bytes-gt-LINE_BYTES.false (sym c.if-not-is_closed.ensures)

pub returns-in_default : goal.returns-in_default
returns-in_default c = let f = c.in_default.ensures.filled in Oversteps.many c.if-bytes-gt-LINE_BYTES.false f.1 f.2

pub returns-in-Some-first_garbled : goal.returns-in-Some-first_garbled
returns-in-Some-first_garbled c =
    let f = c.in-Some.ensures.filled in
    garbled_at c.args.bytes.now c.fill.new.words c.in-Some.count c.in-Some-first_garbled.word c.if-bytes-gt-LINE_BYTES.false f.0 f.1 c.in-Some-first_garbled.ensures

pub invariant_of-result : goal.invariant_of-result
invariant_of-result c =
    let bytes = c.args.bytes.now in
    let own = c.copied.result in
    let words = c.fill.new.words in
    let count = c.in-Some.count in
    let f = c.in-Some.ensures.filled in
    let valid = c.in_default-first_garbled.ensures in
    let short = c.if-bytes-gt-LINE_BYTES.false in
    record {
      short = short;
      few = f.0;
      whole = whole_made bytes own words count c.copied.ensures short f.0 f.1 valid;
      zeroless = zeroless_made bytes own words count c.copied.ensures short f.0 f.1 valid;
      valid = valid_made bytes own words count c.copied.ensures short f.0 f.1 valid;
    }

pub returns : goal.returns
returns c =
    let f = c.in-Some.ensures.filled in
    (c.copied.ensures, within_made c.args.bytes.now c.copied.result c.fill.new.words c.in-Some.count c.copied.ensures c.if-bytes-gt-LINE_BYTES.false f.0 f.1 c.in_default-first_garbled.ensures)
