use Rattle.std.proofs.Common.{◌∙◌, rules}
use Rattle.text.proofs.Splits.{piece_by}
use Rattle.text.proofs.pieces.piece_length.Goals as goal

pub returns-clause-value : goal.returns-clause-value
returns-clause-value c =
    c.unwrap_or.ensures
    ∙ piece_by c.args.word.now c.position.result (λ e i l h g. search rules) (λ k e. search rules) (λ k e i l h g. search rules)
