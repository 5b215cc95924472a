-- What stands of the tree of every lawful image. Assumes nothing.
use Rattle.std.specs.Prelude.{ℕ, ◌<◌, List, length}
use Rattle.tree.specs.Tree.{Tree}
use Rattle.tree_register.specs.Found.{FoundExists}
use Rattle.whole.specs.Modules.{OnePath}
use Rattle.image.specs.Image.{Lawful}

pub record LawfulTree (t : Tree) : Type 0 where
  -- what is found by a name, and each default recipe, exists
  pub found : FoundExists t
  -- exactly one path leads from the root to each module
  pub reached : (m : ℕ) → m < length t.modules → OnePath t.names m

abbrev pub TreeStands : Type 0
TreeStands = (image : List ℕ) (t : Tree) → Lawful image t → LawfulTree t
