use Rattle.std.proofs.Common.{ap, rules}
use Rattle.refusal.specs.declared.Refusal.TheVariants.{OutOfRange}
use Rattle.text.specs.Spans.{text_at}
use Rattle.format.specs.Format.{both, checked, number}
use Rattle.format.specs.Fields.{below, within, plain_text}
use Rattle.format.proofs.Calls.{if_reads, number_if_reads}
use Rattle.format.proofs.Bitwise.{stands_bit}
use Rattle.tree.specs.Rows.{parameter_at}
use Rattle.records.specs.Records.{Scalar, parameter_parts, parts_of_parameter}
use Rattle.records.proofs.Parts.{map_ten}
use Rattle.format.specs.Format.{both}
use Rattle.format.proofs.Towards.{begin, through, stopped, ends, finished, stopped_last}
use Rattle.records.proofs.parameters.read_parameter.Goals as goal

pub returns-in_err-map : goal.returns-in_err-map
returns-in_err-map c =
    let t = begin (parameter_parts c.args.patterns) c.args.cursor.now in
    stopped _ _ t c.read_below.ensures parts_of_parameter parameter_at c.in_err-map.was c.from_residual.ensures.1

pub returns-in_err-default : goal.returns-in_err-default
returns-in_err-default c =
    let t = begin (parameter_parts c.args.patterns) c.args.cursor.now in
    let t = through _ _ t c.read_below.ensures _ c.in_ok-map.was in
    stopped _ _ t (if_reads (plain_text 0) text_at c.read_if.ensures (λ r p. search rules)) parts_of_parameter parameter_at c.in_err-default.was c.from_residual-in_err-default.ensures.1

pub returns-in_err-kind : goal.returns-in_err-kind
returns-in_err-kind c =
    let t = begin (parameter_parts c.args.patterns) c.args.cursor.now in
    let t = through _ _ t c.read_below.ensures _ c.in_ok-map.was in
    let t = through _ _ t (if_reads (plain_text 0) text_at c.read_if.ensures (λ r p. search rules)) _ c.in_ok-default.was in
    stopped _ _ t c.read_kind.ensures parts_of_parameter parameter_at c.in_err-kind.was c.from_residual-in_err-kind.ensures.1

pub returns-in_err-long : goal.returns-in_err-long
returns-in_err-long c =
    let t = begin (parameter_parts c.args.patterns) c.args.cursor.now in
    let t = through _ _ t c.read_below.ensures _ c.in_ok-map.was in
    let t = through _ _ t (if_reads (plain_text 0) text_at c.read_if.ensures (λ r p. search rules)) _ c.in_ok-default.was in
    let t = through _ _ t c.read_kind.ensures _ c.in_ok-kind.was in
    stopped _ _ t (if_reads (plain_text 1) text_at c.read_if-2.ensures (λ r p. search rules)) parts_of_parameter parameter_at c.in_err-long.was c.from_residual-in_err-long.ensures.1

pub returns-in_err-letter : goal.returns-in_err-letter
returns-in_err-letter c =
    let t = begin (parameter_parts c.args.patterns) c.args.cursor.now in
    let t = through _ _ t c.read_below.ensures _ c.in_ok-map.was in
    let t = through _ _ t (if_reads (plain_text 0) text_at c.read_if.ensures (λ r p. search rules)) _ c.in_ok-default.was in
    let t = through _ _ t c.read_kind.ensures _ c.in_ok-kind.was in
    let t = through _ _ t (if_reads (plain_text 1) text_at c.read_if-2.ensures (λ r p. search rules)) _ c.in_ok-long.was in
    stopped _ _ t (number_if_reads (checked OutOfRange Scalar (number 4)) c.read_if-3.ensures (λ r p. search rules)) parts_of_parameter parameter_at c.in_err-letter.was c.from_residual-in_err-letter.ensures.1

pub returns-in_err-min : goal.returns-in_err-min
returns-in_err-min c =
    let t = begin (parameter_parts c.args.patterns) c.args.cursor.now in
    let t = through _ _ t c.read_below.ensures _ c.in_ok-map.was in
    let t = through _ _ t (if_reads (plain_text 0) text_at c.read_if.ensures (λ r p. search rules)) _ c.in_ok-default.was in
    let t = through _ _ t c.read_kind.ensures _ c.in_ok-kind.was in
    let t = through _ _ t (if_reads (plain_text 1) text_at c.read_if-2.ensures (λ r p. search rules)) _ c.in_ok-long.was in
    let t = through _ _ t (number_if_reads (checked OutOfRange Scalar (number 4)) c.read_if-3.ensures (λ r p. search rules)) _ c.in_ok-letter.was in
    stopped _ _ t (number_if_reads (number 4) c.read_if-4.ensures (λ r p. search rules)) parts_of_parameter parameter_at c.in_err-min.was c.from_residual-in_err-min.ensures.1

pub returns-in_err-max : goal.returns-in_err-max
returns-in_err-max c =
    let t = begin (parameter_parts c.args.patterns) c.args.cursor.now in
    let t = through _ _ t c.read_below.ensures _ c.in_ok-map.was in
    let t = through _ _ t (if_reads (plain_text 0) text_at c.read_if.ensures (λ r p. search rules)) _ c.in_ok-default.was in
    let t = through _ _ t c.read_kind.ensures _ c.in_ok-kind.was in
    let t = through _ _ t (if_reads (plain_text 1) text_at c.read_if-2.ensures (λ r p. search rules)) _ c.in_ok-long.was in
    let t = through _ _ t (number_if_reads (checked OutOfRange Scalar (number 4)) c.read_if-3.ensures (λ r p. search rules)) _ c.in_ok-letter.was in
    let t = through _ _ t (number_if_reads (number 4) c.read_if-4.ensures (λ r p. search rules)) _ c.in_ok-min.was in
    stopped _ _ t (number_if_reads (number 4) c.read_if-5.ensures (λ r p. search rules)) parts_of_parameter parameter_at c.in_err-max.was c.from_residual-in_err-max.ensures.1

pub returns-in_err-pattern : goal.returns-in_err-pattern
returns-in_err-pattern c =
    let t = begin (parameter_parts c.args.patterns) c.args.cursor.now in
    let t = through _ _ t c.read_below.ensures _ c.in_ok-map.was in
    let t = through _ _ t (if_reads (plain_text 0) text_at c.read_if.ensures (λ r p. search rules)) _ c.in_ok-default.was in
    let t = through _ _ t c.read_kind.ensures _ c.in_ok-kind.was in
    let t = through _ _ t (if_reads (plain_text 1) text_at c.read_if-2.ensures (λ r p. search rules)) _ c.in_ok-long.was in
    let t = through _ _ t (number_if_reads (checked OutOfRange Scalar (number 4)) c.read_if-3.ensures (λ r p. search rules)) _ c.in_ok-letter.was in
    let t = through _ _ t (number_if_reads (number 4) c.read_if-4.ensures (λ r p. search rules)) _ c.in_ok-min.was in
    let t = through _ _ t (number_if_reads (number 4) c.read_if-5.ensures (λ r p. search rules)) _ c.in_ok-max.was in
    stopped_last t (number_if_reads (below c.args.patterns 1) c.read_if-6.ensures (λ r p. search rules)) parts_of_parameter parameter_at c.in_err-pattern.was c.from_residual-in_err-pattern.ensures.1

pub returns : goal.returns
unfolding both
returns c =
    let t = begin (parameter_parts c.args.patterns) c.args.cursor.now in
    let t = through _ _ t c.read_below.ensures _ c.in_ok-map.was in
    let t = through _ _ t (if_reads (plain_text 0) text_at c.read_if.ensures (λ r p. search rules)) _ c.in_ok-default.was in
    let t = through _ _ t c.read_kind.ensures _ c.in_ok-kind.was in
    let t = through _ _ t (if_reads (plain_text 1) text_at c.read_if-2.ensures (λ r p. search rules)) _ c.in_ok-long.was in
    let t = through _ _ t (number_if_reads (checked OutOfRange Scalar (number 4)) c.read_if-3.ensures (λ r p. search rules)) _ c.in_ok-letter.was in
    let t = through _ _ t (number_if_reads (number 4) c.read_if-4.ensures (λ r p. search rules)) _ c.in_ok-min.was in
    let t = through _ _ t (number_if_reads (number 4) c.read_if-5.ensures (λ r p. search rules)) _ c.in_ok-max.was in
    let k = (ends t (number_if_reads (below c.args.patterns 1) c.read_if-6.ensures (λ r p. search rules)) _ c.in_ok-pattern.was).keeps in
    let m = c.in_ok-map.map in
    let image = c.args.cursor.now.image.now in
    let p = parameter_at image (record { default = c.in_ok-default.default; flag = c.has.result; multiple = c.has-2.result; value = c.has-3.result; kind = c.in_ok-kind.kind; long = c.in_ok-long.long; letter = c.in_ok-letter.letter; min = c.in_ok-min.min; max = c.in_ok-max.max; pattern = c.in_ok-pattern.pattern }) in
    let e = map_ten m p k.0.1
    (stands_bit _ (plain_text 0) _ k.1.0) c.has.ensures c.has-2.ensures c.has-3.ensures
    (stands_bit _ (within 1 2 1) _ k.1.1.0)
    (stands_bit _ (plain_text 1) _ k.1.1.1.0)
    (stands_bit _ (checked OutOfRange Scalar (number 4)) _ k.1.1.1.1.0)
    (stands_bit _ (number 4) _ k.1.1.1.1.1.0)
    (stands_bit _ (number 4) _ k.1.1.1.1.1.1.0)
    (stands_bit _ (below c.args.patterns 1) _ k.1.1.1.1.1.1.1) in
    finished t (number_if_reads (below c.args.patterns 1) c.read_if-6.ensures (λ r p. search rules)) parts_of_parameter parameter_at _ _ c.in_ok-pattern.was (ap (λ x. (x, (parts_of_parameter p).1)) e)
