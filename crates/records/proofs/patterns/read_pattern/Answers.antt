use Rattle.std.proofs.Common.{ap, ◌∙◌, rules}
use Rattle.std.specs.Option.{option_map}
use Rattle.std.proofs.lemmas.Result.{IfOk-from_err}
use Rattle.text.specs.Spans.{text_at}
use Rattle.format.specs.Fields.{plain_text, counted}
use Rattle.tree.specs.Rows.{range_at, pattern_at}
use Rattle.records.specs.Records.{range, pattern_parts, parts_of_pattern}
use Rattle.records.specs.TreeRows.{some_rows_at, gauge_at}
use Rattle.records.proofs.Parts.{map_two, listed_is}
use Rattle.records.proofs.Tables.{counted_if_reads}
use Rattle.format.proofs.Calls.{if_reads}
use Rattle.format.specs.Format.{both}
use Rattle.format.proofs.Towards.{begin, through, stopped, ends, finished, stopped_last}
use Rattle.records.proofs.patterns.read_pattern.Goals as goal

pub returns-in_err-map : goal.returns-in_err-map
returns-in_err-map c =
    let t = begin pattern_parts c.args.cursor.now in
    record {
      reads = stopped _ _ t c.read_below.ensures parts_of_pattern pattern_at c.in_err-map.was c.from_residual.ensures.1;
      tidy = IfOk-from_err c.from_residual.result _ c.from_residual.ensures.0;
    }

pub returns-in_err-count : goal.returns-in_err-count
returns-in_err-count c =
    let t = begin pattern_parts c.args.cursor.now in
    let t = through _ _ t c.read_below.ensures _ c.in_ok-map.was in
    record {
      reads = stopped _ _ t (counted_if_reads (plain_text 1) text_at 16 c.read_counted_if.ensures.counts (λ c r d p. search rules)) parts_of_pattern pattern_at c.in_err-count.was c.from_residual-in_err-count.ensures.1;
      tidy = IfOk-from_err c.from_residual-in_err-count.result _ c.from_residual-in_err-count.ensures.0;
    }

pub returns-in_err-gauge : goal.returns-in_err-gauge
returns-in_err-gauge c =
    let t = begin pattern_parts c.args.cursor.now in
    let t = through _ _ t c.read_below.ensures _ c.in_ok-map.was in
    let t = through _ _ t (counted_if_reads (plain_text 1) text_at 16 c.read_counted_if.ensures.counts (λ c r d p. search rules)) _ c.in_ok-count.was in
    record {
      reads = stopped_last t (if_reads range gauge_at c.read_if.ensures (λ r p. search rules)) parts_of_pattern pattern_at c.in_err-gauge.was c.from_residual-in_err-gauge.ensures.1;
      tidy = IfOk-from_err c.from_residual-in_err-gauge.result _ c.from_residual-in_err-gauge.ensures.0;
    }

pub returns : goal.returns
unfolding both
returns c =
    let t = begin pattern_parts c.args.cursor.now in
    let t = through _ _ t c.read_below.ensures _ c.in_ok-map.was in
    let t = through _ _ t (counted_if_reads (plain_text 1) text_at 16 c.read_counted_if.ensures.counts (λ c r d p. search rules)) _ c.in_ok-count.was in
    let k = (ends t (if_reads range gauge_at c.read_if.ensures (λ r p. search rules)) _ c.in_ok-gauge.was).keeps in
    let image = c.args.cursor.now.image.now in
    let n = c.in_ok-count.count in
    let rs = c.read_counted_if.new.rows in
    let gauge = option_map range_at c.in_ok-gauge.gauge in
    let e = map_two c.in_ok-map.map (counted 1 16 (plain_text 1)) (some_rows_at text_at rs n image) range gauge k.0.1 k.1.0 k.1.1 in
    record {
      reads = finished t (if_reads range gauge_at c.read_if.ensures (λ r p. search rules)) parts_of_pattern pattern_at _ _ c.in_ok-gauge.was (ap (λ m. (m, (some_rows_at text_at rs n image, gauge))) e ∙ ap (λ l. parts_of_pattern (record { texts = l; range = gauge })) (listed_is image n rs));
      tidy = c.in_ok-count.ensures.filled.rest;
    }
