-- Which images are lawful, and what the first failing check of any other is. Assumes nothing.
use Rattle.std.specs.Prelude.{◌≡◌, ℕ, ◌<◌, ◌≤◌, List, length}
use Rattle.refusal.specs.declared.Refusal.{Refusal}
use Rattle.refusal.specs.declared.Refusal.TheVariants.{ImageTooLong, BytesBehind, SharedName, ModuleNotNamedOnce}
use Rattle.format.specs.Format.{Good}
use Rattle.records.specs.Records.{tree}
use Rattle.tree.specs.Tree.{Tree}
use Rattle.whole.specs.Shared.{EachApart, FirstShared}
use Rattle.whole.specs.Modules.{EachNamedOnce, FirstNotOnce}

-- an image is the records of a tree, written end to end, of a tree that keeps the rules
pub record Lawful (image : List ℕ) (t : Tree) : Type 0 where
  pub short : length image ≤ 32768
  pub keeps : tree.Keeps t
  pub written : image ≡ tree.bytes t
  -- no two parameters of a recipe share a long name or a letter
  pub apart : EachApart t.recipes
  -- each module above 0 is named by exactly one row of kind 0
  pub once : EachNamedOnce t.names (length t.modules)

-- an image of at most 32,768 bytes that holds the tree up to this place
pub record Holds (image : List ℕ) (t : Tree) (to : ℕ) : Type 0 where
  pub short : length image ≤ 32768
  pub good : Good tree image 0 t to

-- the first check that fails: those before it are passed
pub data Unlawful (image : List ℕ) : Refusal → Type 0 where
  long : 32768 < length image → Unlawful image ImageTooLong
  field : {refusal : Refusal} → length image ≤ 32768 → tree.Faulty image 0 refusal → Unlawful image refusal
  behind : {t : Tree} {to : ℕ} → Holds image t to → to < length image → Unlawful image (BytesBehind to)
  shared : {t : Tree} {recipe : ℕ} → Holds image t (length image) → FirstShared t.recipes recipe → Unlawful image (SharedName recipe)
  unnamed : {t : Tree} {below : ℕ} → Holds image t (length image) → EachApart t.recipes → FirstNotOnce t.names (length t.modules) below → Unlawful image (ModuleNotNamedOnce below)

-- an image says one tree or gets one refusal, and never both
pub record ImageStands : Type 0 where
  pub one : (image : List ℕ) (t u : Tree) → Lawful image t → Lawful image u → t ≡ u
  pub apart : (image : List ℕ) (t : Tree) (refusal : Refusal) → Lawful image t → Unlawful image refusal → ⊥
  pub first : (image : List ℕ) (refusal other : Refusal) → Unlawful image refusal → Unlawful image other → refusal ≡ other
