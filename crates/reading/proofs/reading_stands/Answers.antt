use Rattle.path.proofs.Model.{path_of}
use Rattle.path.proofs.Theorem.{answer_does}
use Rattle.reading.specs.Model.{read_line}
use Rattle.reading.proofs.Lines.{model_only}
use Rattle.reading.proofs.reading_stands.Goals as goal

pub returns : goal.returns
returns c = record { settled = λ names signatures judge words. (read_line (path_of names) signatures judge words, model_only names signatures judge (path_of names) (answer_does names) words) }
