use Rattle.std.proofs.Common.{sym, ◌∙◌, refl}
use Rattle.std.proofs.lemmas.Bool.{true≢false}
use Rattle.path.specs.Path.{Gives, PathFault}
use Rattle.path.proofs.Theorem.{gives_answer}
use Rattle.path.proofs.PieceSteps.{pieces_names, by_split}
use Rattle.path.proofs.walk.text_path.Goals as goal

pub walk-requires : goal.walk-requires
walk-requires g c = λ k. ((refl, tt), (tt, (tt, (_, pieces_names _ c.args.text.now refl))))

pub returns-then-is_well_formed : goal.returns-then-is_well_formed
returns-then-is_well_formed g c =
    let names = g.R.Register.names c.args.register.now in
    let p = c.is_well_formed.ensures.means.0 c.if-is_well_formed.true in
    λ word rest colon meant. gives_answer names (Gives.one_word colon meant p.1) c.walk.result (by_split names c.walk.result p.1 (c.walk.ensures _ (pieces_names _ c.args.text.now refl)))

pub returns-else-is_well_formed : goal.returns-else-is_well_formed
returns-else-is_well_formed g c =
    λ word rest colon meant. PathFault.malformed colon meant (λ pieces p. true≢false (sym (c.is_well_formed.ensures.means.1 (pieces, p)) ∙ c.if-is_well_formed.false))
