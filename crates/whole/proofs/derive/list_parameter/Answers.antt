use Rattle.tree.specs.Rows.{parameter_at}
use Rattle.whole.proofs.Stepping.{listed_by}
use Rattle.whole.proofs.derive.list_parameter.Goals as goal

pub returns-in-Some : goal.returns-in-Some
returns-in-Some g c =
    let image = c.args.image.now in
    listed_by (g.T.Listing.said image) (g.T.Ranked.keyed image) (g.met.T.Listing.found_by image) c.args.rows.now c.insert.new.rows c.args.filled c.args.recipe c.args.place c.in-Some.row
    (g.T.Listing.name (parameter_at image c.args.parameter.now)) (c.in-Some.ensures image) c.insert.result c.insert.ensures
