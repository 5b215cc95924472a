use Rattle.std.proofs.Common.{length, inl, ap, ◌∙◌, arith}
use Rattle.std.specs.Iterator.Adapters.{enumerate_source, enumerate_count}
use Rattle.std.specs.Option.{option_map}
use Rattle.text.specs.Spans.{text_at}
use Rattle.reading.specs.Letters.{letters}
use Rattle.reading.specs.Reading.Waiting.{Nobody}
use Rattle.reader.specs.Meaning.{values_of}
use Rattle.reader.specs.Signatures.{parameters_of}
use Rattle.reader.specs.Letters.{letters_left}
use Rattle.reader.specs.declared.letters.SwitchLetter.{SwitchLetter}
use Rattle.reader.proofs.LetterRuns.{run_on, run_start, marked_few}
use Rattle.reader.proofs.word.apply_letters.Goals as goal

pub loop-i-init-derived : goal.loop-i-init-derived
loop-i-init-derived g c =
    let n = ap enumerate_count c.into_iter-i-iterator.ensures.into_iter_gives ∙ c.enumerate-i-items.ensures.count in
    let l = ap (λ x. length (letters_left (enumerate_source x))) c.into_iter-i-iterator.ensures.into_iter_gives ∙ ap (λ x. length (letters_left x)) c.enumerate-i-items.ensures.source in
    let f = marked_few c.args.name.now in
    ((tt, tt, inl (omega (arith, n, l, c.requires))), tt)

pub loop-i-init : goal.loop-i-init
loop-i-init g c =
    let ps = parameters_of g.R.Register.signatures c.args.signature.now in
    let n = ap enumerate_count c.into_iter-i-iterator.ensures.into_iter_gives ∙ c.enumerate-i-items.ensures.count in
    let e = ap (λ x. letters_left (enumerate_source x)) c.into_iter-i-iterator.ensures.into_iter_gives ∙ ap letters_left c.enumerate-i-items.ensures.source in
    let l = ap (length {A = SwitchLetter}) e in
    record {
      room = omega (arith, l);
      runs = λ bytes.
          let value = option_map (text_at bytes) c.args.value in let vs = values_of bytes c.args.values.now in
          ap (λ j. run_on ps c.args.word value vs Nobody j (letters_left (enumerate_source c.into_iter-i-iterator.result))) n
          ∙ ap (run_on ps c.args.word value vs Nobody 0) e
          ∙ run_start ps c.args.word value vs (letters c.args.name.now);
    }

pub apply-requires : goal.apply-requires
apply-requires g c =
    let f = marked_few c.args.name.now in
    let e = ap (length {A = SwitchLetter}) c.in-Some.ensures.steps.0 in
    omega (arith, c.loop-i.invariant.room)

pub returns-in_err-waiting-clause-room : goal.returns-in_err-waiting-clause-room
returns-in_err-waiting-clause-room g c =
    let f = marked_few c.args.name.now in
    let e = ap (length {A = SwitchLetter}) c.in-Some.ensures.steps.0 in
    omega (arith, c.loop-i.invariant.room, c.apply.ensures.room)

pub returns-clause-room : goal.returns-clause-room
returns-clause-room g c =
    let f = marked_few c.args.name.now in
    omega (arith, c.loop-i.invariant.room)
