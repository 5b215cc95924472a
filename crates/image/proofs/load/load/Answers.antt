use Rattle.std.proofs.Common.{refl}
use Rattle.image.proofs.Facts.{Facts, facts_checked, loads_from}
use Rattle.image.proofs.load.load.Goals as goal

pub invariant_of-result : goal.invariant_of-result
invariant_of-result c =
    let image = c.args.image.now in
    let tables = c.check-answer.new.tables in
    let facts = facts_checked image c.check-answer.result tables c.check-answer.ensures in
    let over : Facts image c.front.result.now c.front-2.result.now c.front-3.result.now c.front-4.result.now c.front-5.result.now =
    rw (c.front.ensures, c.front-2.ensures, c.front-3.ensures, c.front-4.ensures, c.front-5.ensures) facts in
    record {
      modules_fit = over.modules_fit;
      names_fit = over.names_fit;
      few = over.few;
      names_ascend = over.names_up;
      longs_ascend = over.longs_up;
      letters_ascend = over.letters_up;
      longs_right = over.longs_right;
      longs_told = over.longs_told;
      letters_right = over.letters_right;
      letters_told = over.letters_told;
    }

pub returns : goal.returns
returns c =
    loads_from c.args.image.now c.check-answer.new.tables _
    (record { bytes = refl; modules = c.front.ensures; names = c.front-2.ensures; recipes = c.front-3.ensures; texts = refl; patterns = c.front-patterns.ensures; gauges = refl })
    c.check-answer.ensures
