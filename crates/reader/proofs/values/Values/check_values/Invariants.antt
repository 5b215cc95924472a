use Rattle.std.proofs.Common.{◌≡◌, ℕ, List}
use Rattle.register.specs.Meaning.{ParameterMeaning}
use Rattle.reading.specs.Model.{first_of, check_sound}
use Rattle.reader.specs.Meaning.{values_of}
use Rattle.reader.specs.Signatures.{parameters_of, left_of, called_from}
use Rattle.reader.proofs.values.Values.check_values.Given as goal

abbrev pub invariant-loop-called : goal.invariant-loop-called
invariant-loop-called g l =
    let check = check_sound (g.J.Judge.accepts l.judge) (values_of l.bytes l.self) in
    (k : ℕ) × ((ps : List ParameterMeaning) × (left_of g.R.Register.signatures l.called-iterator ≡ called_from k ps) × (first_of check k ps ≡ first_of check 0 (parameters_of g.R.Register.signatures l.signature)))
