use Rattle.path.proofs.Model.{path_of}
use Rattle.path.proofs.Theorem.{answer_does, the_only}
use Rattle.path.proofs.paths_stand.Goals as goal

pub returns : goal.returns
returns c = λ names words. (path_of names words, the_only names words (path_of names words) (answer_does names words))
