use Rattle.std.proofs.Common.{◌∷◌, ap, rules}
use Rattle.std.proofs.Output.{has_written_append, has_written_of_eq}
use Rattle.std.proofs.lemmas.List.{take_all}
use Rattle.text.specs.Spans.{texts_at}
use Rattle.script.specs.Answer.{listed, word_text}
use Rattle.script.proofs.Listing.{word_more}
use Rattle.script.proofs.answer.ListTextDisplay.fmt.Goals as goal

pub loop-span-preserved : goal.loop-span-preserved
loop-span-preserved g c = λ p.
    has_written_of_eq _ _ _ _ _ (word_more c.args.self.now.bytes.now c.text_at-word.result.now c.args.self.now.words.now c.loop-span.span-index (record { start = 0; len = 0 }) c.loop-span-test.true c.text_at-word.ensures)
    (has_written_append _ _ _ _ (32 ∷ word_text c.text_at-word.result.now) _ (c.loop-span.invariant p) (search rules))

pub returns-clause-writes : goal.returns-clause-writes
returns-clause-writes g c = λ p _.
    has_written_of_eq _ _ _ _ _ (ap (λ ws. listed (texts_at c.args.self.now.bytes.now ws)) (take_all c.loop-span.span-index c.args.self.now.words.now c.loop-span-test.false)) (c.loop-span.invariant p)
