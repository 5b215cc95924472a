use Rattle.std.proofs.Common.{sym, ap, ◌∙◌, rules}
use Rattle.std.specs.Result.{result_map_both}
use Rattle.format.proofs.Towards.{was}
use Rattle.records.proofs.Tables.{counts_rows}
use Rattle.records.proofs.rows.read_counted.Goals as goal

pub returns-in_err-read_table-clause-counts : goal.returns-in_err-read_table-clause-counts
returns-in_err-read_table-clause-counts g c =
    let f = c.read_table.ensures.filled in
    let n = c.in_ok-count.count in
    counts_rows n c.read_within.ensures c.in_ok-count.was (rw f.long f.fits) c.read_table.ensures.fills (λ last c r d p. search rules) (was _ _ c.from_residual-in_err-read_table.ensures.1 ∙ ap (result_map_both (λ _. n) (λ e. e)) (sym c.in_err-read_table.was))

pub returns-clause-counts : goal.returns-clause-counts
returns-clause-counts g c =
    let f = c.read_table.ensures.filled in
    let n = c.in_ok-count.count in
    counts_rows n c.read_within.ensures c.in_ok-count.was (rw f.long f.fits) c.read_table.ensures.fills (λ last c r d p. search rules) (ap (result_map_both (λ _. n) (λ e. e)) (sym c.in_ok-read_table.was))
