use Rattle.std.proofs.Common.{refl, sym}
use Rattle.reader.specs.Signatures.{parameters_of}
use Rattle.std.proofs.Common.{Some}
use Rattle.reader.proofs.Applies.{called_there}
use Rattle.reader.proofs.signature.Signature.called.Goals as goal

pub returns : goal.returns
returns g c = called_there (parameters_of g.R.Register.signatures c.args.self.now) (Some c.args.place) c.args.place c.in_ok-parameter.parameter refl (sym c.in_ok-parameter.ensures)
