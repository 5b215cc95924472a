use Rattle.std.proofs.Common.{sym, refl, ◌∙◌}
use Rattle.script.proofs.Spaces.{space_at, spaceless, parted_whole, parted_name}
use Rattle.script.proofs.call.part.Goals as goal

pub returns-in-Some : goal.returns-in-Some
returns-in-Some c =
    let first = space_at c.args.line.now c.in-Some.at (sym c.first_space.ensures ∙ c.in-Some.is) in
    record { whole = parted_whole c.args.line.now c.in-Some.at first; named = parted_name c.args.line.now c.in-Some.at first }

pub returns-in-None : goal.returns-in-None
returns-in-None c = record { whole = refl; named = spaceless c.args.line.now (sym c.first_space.ensures ∙ c.in-None.is) }
