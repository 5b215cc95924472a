use Rattle.std.proofs.Common.{length}
use Rattle.tree_register.proofs.Found.{found_exists, default_exists}
use Rattle.whole.proofs.Paths.{each_reached}
use Rattle.image.proofs.Keeps.{numbers_exist, rising}
use Rattle.image.proofs.check.trees_stand.Goals as goal

pub returns : goal.returns
returns c = λ image t l. let exist = numbers_exist t l.keeps in record {
  found = record { found = found_exists t exist; default = default_exists t exist };
  reached = each_reached t.names (length t.modules) l.once (rising t l.keeps);
}
