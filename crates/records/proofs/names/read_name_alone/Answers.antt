use Rattle.std.proofs.Common.{ap, rules}
use Rattle.refusal.specs.declared.Refusal.TheVariants.{OutOfRange}
use Rattle.text.specs.Spans.{text_at}
use Rattle.format.specs.Format.{both, checked, number}
use Rattle.register.specs.Kinds.{kind_number}
use Rattle.tree.specs.Rows.{name_at}
use Rattle.records.specs.Records.{Leads, name_parts, parts_of_name}
use Rattle.records.proofs.Parts.{map-one}
use Rattle.format.specs.Format.{both}
use Rattle.format.proofs.Calls.{number_if_reads}
use Rattle.format.proofs.Towards.{begin, through, stopped, ends, finished, stopped_last}
use Rattle.records.proofs.names.read_name_alone.Goals as goal

pub returns-in_err-map : goal.returns-in_err-map
returns-in_err-map c =
    let t = begin (name_parts c.args.counts.modules c.args.counts.recipes) c.args.cursor.now in
    stopped _ _ t c.read_below.ensures parts_of_name name_at c.in_err-map.was c.from_residual.ensures.1

pub returns-in_err-module : goal.returns-in_err-module
returns-in_err-module c =
    let t = begin (name_parts c.args.counts.modules c.args.counts.recipes) c.args.cursor.now in
    let t = through _ _ t c.read_below.ensures _ c.in_ok-map.was in
    stopped _ _ t c.read_below-2.ensures parts_of_name name_at c.in_err-module.was c.from_residual-in_err-module.ensures.1

pub returns-in_err-kind : goal.returns-in_err-kind
returns-in_err-kind c =
    let t = begin (name_parts c.args.counts.modules c.args.counts.recipes) c.args.cursor.now in
    let t = through _ _ t c.read_below.ensures _ c.in_ok-map.was in
    let t = through _ _ t c.read_below-2.ensures _ c.in_ok-module.was in
    stopped _ _ t c.read_kind.ensures parts_of_name name_at c.in_err-kind.was c.from_residual-in_err-kind.ensures.1

pub returns-in_err-text : goal.returns-in_err-text
returns-in_err-text c =
    let t = begin (name_parts c.args.counts.modules c.args.counts.recipes) c.args.cursor.now in
    let t = through _ _ t c.read_below.ensures _ c.in_ok-map.was in
    let t = through _ _ t c.read_below-2.ensures _ c.in_ok-module.was in
    let t = through _ _ t c.read_kind.ensures _ c.in_ok-kind.was in
    stopped _ _ t c.read_name.ensures parts_of_name name_at c.in_err-text.was c.from_residual-in_err-text.ensures.1

pub returns-in_err-number : goal.returns-in_err-number
returns-in_err-number c =
    let t = begin (name_parts c.args.counts.modules c.args.counts.recipes) c.args.cursor.now in
    let t = through _ _ t c.read_below.ensures _ c.in_ok-map.was in
    let t = through _ _ t c.read_below-2.ensures _ c.in_ok-module.was in
    let t = through _ _ t c.read_kind.ensures _ c.in_ok-kind.was in
    let t = through _ _ t c.read_name.ensures _ c.in_ok-text.was in
    stopped_last t (number_if_reads (checked OutOfRange (Leads c.args.counts.modules c.args.counts.recipes c.in_ok-module.«module» (kind_number c.in_ok-kind.kind)) (number 2)) c.read_if.ensures (λ r p. search rules)) parts_of_name name_at c.in_err-number.was c.from_residual-in_err-number.ensures.1

pub returns : goal.returns
unfolding both
returns c =
    let t = begin (name_parts c.args.counts.modules c.args.counts.recipes) c.args.cursor.now in
    let t = through _ _ t c.read_below.ensures _ c.in_ok-map.was in
    let t = through _ _ t c.read_below-2.ensures _ c.in_ok-module.was in
    let t = through _ _ t c.read_kind.ensures _ c.in_ok-kind.was in
    let t = through _ _ t c.read_name.ensures _ c.in_ok-text.was in
    let k = (ends t (number_if_reads (checked OutOfRange (Leads c.args.counts.modules c.args.counts.recipes c.in_ok-module.«module» (kind_number c.in_ok-kind.kind)) (number 2)) c.read_if.ensures (λ r p. search rules)) _ c.in_ok-number.was).keeps in
    let number! = c.in_ok-number.number in
    let own = c.in_ok-module.«module» in
    let kind = kind_number c.in_ok-kind.kind in
    let words = text_at c.args.cursor.now.image.now c.in_ok-text.text in
    let e = map-one c.in_ok-map.map (checked OutOfRange (Leads c.args.counts.modules c.args.counts.recipes own kind) (number 2)) number! k.0.1 k.1.1.1.1 in
    finished t (number_if_reads (checked OutOfRange (Leads c.args.counts.modules c.args.counts.recipes c.in_ok-module.«module» (kind_number c.in_ok-kind.kind)) (number 2)) c.read_if.ensures (λ r p. search rules)) parts_of_name name_at _ _ c.in_ok-number.was (ap (λ m. (m, (own, (kind, (words, number!))))) e)
