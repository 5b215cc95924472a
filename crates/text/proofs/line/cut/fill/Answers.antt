use Rattle.text.proofs.Filling.{too_many, word_step, byte_step, all_filled}
use Rattle.text.proofs.line.cut.fill.Goals as goal
use Rattle.text.proofs.line.cut.fill.Goals.{then-b-eq0+else-count-eq-LINE_WORDS, else-b-eq0}

pub returns-then-count-eq-LINE_WORDS : goal.returns-then-count-eq-LINE_WORDS
returns-then-count-eq-LINE_WORDS c =
    let v = c.loop-i.invariant in
    record {
      filled = too_many c.args.bytes.now c.loop-i.words c.loop-i.i c.loop-i.start c.loop-i.count v.2 c.loop-i-test.true v.3 v.4 v.5 c.if-b-eq0.true c.requires v.0 c.if-count-eq-LINE_WORDS.true;
      long = v.0;
    }

pub loop-i-preserved : goal.loop-i-preserved
loop-i-preserved c =
    elim c.if-b-eq0.branch [
      | then-b-eq0+else-count-eq-LINE_WORDS w ↦ simp (w.words-is, w.count-is, w.start-is) (word_step c.args.bytes.now c.loop-i.words c.loop-i.i c.loop-i.start c.loop-i.count c.loop-i.invariant c.loop-i-test.true w.if-b-eq0.true w.if-count-eq-LINE_WORDS.false)
      | else-b-eq0 w ↦ simp (w.words-is, w.count-is, w.start-is) (byte_step c.args.bytes.now c.loop-i.words c.loop-i.i c.loop-i.start c.loop-i.count c.loop-i.invariant c.loop-i-test.true w.if-b-eq0.false)
    ]

pub returns : goal.returns
returns c =
    record {
      filled = (c.loop-i.invariant.1, all_filled c.args.bytes.now c.loop-i.words c.loop-i.i c.loop-i.start c.loop-i.count c.loop-i.invariant c.requires c.loop-i-test.false c.loop-i.auto.i-end);
      long = c.loop-i.invariant.0;
    }
