-- What an image that was checked means. Assumes nothing.
use Rattle.std.specs.Prelude.{◌≡◌, ℕ, List, [], map, length, MatchResult}
use Rattle.register.specs.Meaning.{NameMeaning, SignatureMeaning}
use Rattle.judges.specs.Patterns.{OfTree}
use Rattle.tree.specs.Tree.{Tree}
use Rattle.tree.specs.Rows.{module_at, name_at, recipe_at}
use Rattle.tree_register.specs.Names.{names_of, tree_names}
use Rattle.tree_register.specs.Signatures.{signatures_of, tree_signatures}
use Rattle.tree_register.specs.declared.table_register.TableRegister.{TableRegister}
use Rattle.image.specs.Image.{Lawful, Unlawful}
use Rattle.image.specs.declared.load.Loaded.{Loaded}

-- what a register over rows means, as its answers do
abbrev pub names_in : TableRegister → NameMeaning
names_in r = names_of (map (module_at r.image.now) r.modules.now) (map (name_at r.image.now) r.names.now)

abbrev pub signatures_in : TableRegister → SignatureMeaning
signatures_in r = signatures_of (map (recipe_at r.image.now) r.recipes.now)

-- register and judges mean the tree
pub record Means (loaded : Loaded) (t : Tree) : Type 0 where
  pub names : names_in loaded.register ≡ tree_names t
  pub signatures : signatures_in loaded.register ≡ tree_signatures t
  pub judges : OfTree loaded.texts.image.now loaded.texts.patterns.now t
  pub gauges : loaded.gauges.patterns.now ≡ loaded.texts.patterns.now

-- a tree of nothing
abbrev pub no_tree : Tree
no_tree = record { modules = []; names = []; recipes = []; patterns = [] }

-- an accepted image, with the only tree that it says; or a refused one, and then nothing is known of any tree
abbrev pub Loads : List ℕ → Loaded → Type 0
Loads image loaded =
    MatchResult loaded.answer (λ sizes. (t : Tree) × Lawful image t × Means loaded t × (sizes.modules ≡ length t.modules) × (sizes.names ≡ length t.names) × (sizes.recipes ≡ length t.recipes) × (sizes.patterns ≡ length t.patterns))
    (λ refusal. Unlawful image refusal × Means loaded no_tree)
