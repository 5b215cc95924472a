-- What the steps of the check find, put together.
use Rattle.std.proofs.Common.{◌≡◌, ℕ, ◌≤◌, List, map, length, take, drop, sym, ap, ◌∙◌, subst, arith}
use Rattle.std.proofs.lemmas.List.{length-map, length-take-le}
use Rattle.format.specs.Format.{Good}
use Rattle.format.proofs.Whole.{encoded}
use Rattle.records.specs.Records.{tree}
use Rattle.records.specs.TreeRows.{Filled}
use Rattle.tree.specs.Tree.{Tree}
use Rattle.tree.specs.Rows.{name_at}
use Rattle.tree.specs.declared.rows.NameRow.{NameRow}
use Rattle.whole.specs.Shared.{EachApart}
use Rattle.whole.specs.Modules.{EachNamedOnce, FirstNotOnce}
use Rattle.image.specs.Image.{Lawful, Holds}
use Rattle.image.specs.Checks.{ZeroBehind}

-- a table that was filled up to n from a clear one
pub zero_behind : {Row : Type 0} (places n : ℕ) (before after zeros : List Row) → Filled places n before after → before ≡ zeros → ZeroBehind n after zeros
zero_behind places n before after zeros f e = f.rest ∙ ap (drop n) e

-- the rows of a filled table, counted
pub filled_rows : {Row : Type 0} (places n : ℕ) (before after : List Row) → Filled places n before after → length (take n after) ≡ n
filled_rows places n before after f = let a = f.fits in let b = f.long in length-take-le n after (omega arith)

pub filled_count : {Row A : Type 0} (told : Row → A) (places n : ℕ) (before after : List Row) → Filled places n before after → length (map told (take n after)) ≡ n
filled_count told places n before after f =
    length-map (take n after) told ∙ filled_rows places n before after f

module _ {image : List ℕ} {t : Tree} {to : ℕ} (good : Good tree image 0 t to) (short : length image ≤ 32768) (all : length image ≤ to) where
  written : image ≡ tree.bytes t
  written = (encoded tree).written image t to good all

  -- nothing stands behind the tree
  pub all_held : Holds image t (length image)
  all_held = record { short = short; good = (encoded tree).held image t good.keeps written }

  pub lawful_from : EachApart t.recipes → EachNamedOnce t.names (length t.modules) → Lawful image t
  lawful_from apart once = record { short = short; keeps = good.keeps; written = written; apart = apart; once = once }

-- the modules were checked over the filled names
module _ (image : List ℕ) (names : List NameRow) (n modules counted : ℕ) (is : counted ≡ modules) where
  pub once_from : EachNamedOnce (map (name_at image) (take n names)) modules → EachNamedOnce (map (name_at image) (take n names)) counted
  once_from = subst (EachNamedOnce (map (name_at image) (take n names))) (sym is)

  pub not_once_from : {m : ℕ} → FirstNotOnce (map (name_at image) (take n names)) modules m → FirstNotOnce (map (name_at image) (take n names)) counted m
  not_once_from {m} = subst (λ c. FirstNotOnce (map (name_at image) (take n names)) c m) (sym is)
