use Rattle.std.proofs.Common.{Ok, sym, ap, ◌∙◌, rules}
use Rattle.std.specs.Result.{result_map_both}
use Rattle.std.specs.Option.{unwrap_or}
use Rattle.format.proofs.Towards.{was}
use Rattle.register.specs.declared.parameter.ParameterKind.TheVariants.{Singular}
use Rattle.register.specs.declared.parameter_number.NoParameterKind.{NoParameterKind}
use Rattle.records.proofs.FromNumbers.{parameter_kind_read}
use Rattle.records.proofs.parameters.read_kind.Goals as goal

pub returns-in_err-kind : goal.returns-in_err-kind
returns-in_err-kind c =
    parameter_kind_read {E = NoParameterKind} _ c.read_if.ensures (λ r p. search rules) (was _ _ c.from_residual.ensures.1 ∙ ap (result_map_both (λ o. unwrap_or o Singular) (λ e. e)) (sym c.in_err-kind.was))

pub returns : goal.returns
returns c =
    parameter_kind_read {E = NoParameterKind} _ c.read_if.ensures (λ r p. search rules) (ap Ok c.unwrap_or.ensures ∙ ap (result_map_both (λ o. unwrap_or o Singular) (λ e. e)) (sym c.in_ok-kind.was))
