-- The table's rule, at all 256 entries by one computed test.
use Rattle.std.proofs.Common.{ℕ, ◌<◌, Bool, eqb, List, ◌++◌, get_or, replicate, eqb→eq, rules}
use Rattle.text.specs.Lead.{announced}
use Rattle.text.proofs.Table.{at}
use Rattle.text.proofs.utf8.announced.Goals as goal

abbrev lengths : List ℕ
lengths = replicate 128 1 ++ (replicate 66 0 ++ (replicate 30 2 ++ (replicate 16 3 ++ (replicate 5 4 ++ replicate 11 0))))

abbrev right : ℕ → ℕ → Bool
right lead length = eqb length (announced lead)

pub returns : goal.returns
returns c =
    let h : c.args.lead < 256 = search rules in
    eqb→eq (get_or lengths c.args.lead 0) (announced c.args.lead) (at right lengths tt c.args.lead h)
