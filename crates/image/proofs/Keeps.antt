-- What a tree that may stand in an image keeps: its rows ascend, its numbers name records that exist, and its modules rise.
use Rattle.std.proofs.Common.{◌≡◌, ℕ, zero, suc, ◌+◌, ◌<◌, true, List, [], ◌∷◌, map, length, get_or, Some, None, Option, ap, ◌∙◌, subst, add-one, arith}
use Rattle.std.specs.Ordering.{is_lt}
use Rattle.std.specs.List.{slice_get}
use Rattle.std.proofs.lemmas.Option.{slice_get_within}
use Rattle.std.proofs.lemmas.List.{get_or-map, length-map}
use Rattle.std.proofs.lemmas.Bool.{ltb-true}
use Rattle.refusal.specs.declared.Refusal.TheVariants.{OutOfRange}
use Rattle.format.specs.Format.{Format, KeepsIf, number, checked, both, rows}
use Rattle.format.specs.Fields.{below}
use Rattle.records.specs.Records.{Leads, key, module_record, name_record, tree}
use Rattle.register.specs.Kinds.{kind_number}
use Rattle.register.specs.declared.kind.Kind.{Kind}
use Rattle.register.specs.declared.kind.Kind.TheVariants as kinds
use Rattle.table.specs.Order.{ranked, Ascending}
use Rattle.tree.specs.Keys.{name_key}
use Rattle.tree.specs.Rows.{name_at}
use Rattle.tree.specs.Tree.{Module, Name, Tree}
use Rattle.tree.specs.declared.rows.NameRow.{NameRow}
use Rattle.tree_register.specs.Found.{records, NumbersExist}
use Rattle.whole.specs.Modules.{Down, Rising}
use Rattle.whole.specs.Places.{Stands}
use Rattle.whole.proofs.Places.{stands_both, stands_within}

-- rows that may stand, one by one and two by two
module _ {A : Type 0} (row : Option A → Format A) where
  each_row : (P : A → Type 0) → ((last : Option A) (a : A) → (row last).Keeps a → P a) → (last : Option A) (n : ℕ) (xs : List A) → (rows row last n).Keeps xs → (i : ℕ) → i < length xs → Stands P xs i
  each_row P f last n [] k i h = absurd (omega arith)
  each_row P f last zero (x ∷ xs) k i h = absurd (let e = ap length k in omega arith)
  each_row P f last (suc n) (x ∷ xs) k zero h = f last x k.0
  each_row P f last (suc n) (x ∷ xs) k (suc i) h = each_row P f (Some x) n xs k.1 i (omega arith)

  each_next : (R : A → A → Type 0) → ((last a : A) → (row (Some last)).Keeps a → R last a) → (last : Option A) (n : ℕ) (xs : List A) → (rows row last n).Keeps xs → (i : ℕ) (d : A) → suc i < length xs → R (get_or xs i d) (get_or xs (suc i) d)
  each_next R f last n [] k i d h = absurd (omega arith)
  each_next R f last n (x ∷ []) k i d h = absurd (omega arith)
  each_next R f last zero (x ∷ y ∷ xs) k i d h = absurd (let e = ap length k in omega arith)
  each_next R f last (suc zero) (x ∷ y ∷ xs) k i d h = absurd (let e = ap length k.1 in omega arith)
  each_next R f last (suc (suc n)) (x ∷ y ∷ xs) k zero d h = f x y k.1.0
  each_next R f last (suc (suc n)) (x ∷ y ∷ xs) k (suc i) d h = each_next R f (Some x) (suc n) (y ∷ xs) k.1 i d (omega arith)

-- the item that is read at a place stands there
read_stands : {A : Type 0} (xs : List A) (i : ℕ) (a : A) → slice_get xs i ≡ Some a → Stands (λ x. x ≡ a) xs i
read_stands [] i a e = cc
read_stands (x ∷ xs) zero a e = cc
read_stands (x ∷ xs) (suc i) a e = read_stands xs i a e

-- what holds at each place holds of what is read
of_read : {A : Type 0} (P : A → Type 0) (xs : List A) → ((i : ℕ) → i < length xs → Stands P xs i) → (i : ℕ) (a : A) → slice_get xs i ≡ Some a → P a
of_read P xs each i a e = stands_both P (λ x. x ≡ a) (λ x p is. subst P is p) xs i (each i (slice_get_within xs i a e)) (read_stands xs i a e)

-- the number of a name row leads where its kind says, and kinds from 4 have none
abbrev NumberLeads : ℕ → ℕ → Name → Type 0
NumberLeads modules recipes n = (x : ℕ) → n.number ≡ Some x → (n.kind < 4) × Leads modules recipes n.within n.kind x

number_leads : (modules recipes : ℕ) (last : Option Name) (n : Name) → (name_record modules recipes last).Keeps n → NumberLeads modules recipes n
unfolding both
number_leads modules recipes last n k x e =
    let parts = k.0 in
    let led = subst (KeepsIf _ (checked OutOfRange (Leads modules recipes n.within n.kind) (number 2))) e parts.1.1.1.1 in
    (ltb-true n.kind 4 (parts.1.1.0.1.fits ∙ led.0), led.1.1)

-- the default recipe of a module exists
abbrev DefaultExists : ℕ → Module → Type 0
DefaultExists recipes m = (x : ℕ) → m.default ≡ Some x → x < recipes

default_kept : (recipes : ℕ) (m : Module) → (module_record recipes).Keeps m → DefaultExists recipes m
unfolding both
default_kept recipes m k x e = (subst (KeepsIf _ (below recipes 2)) e k.1).1.1

module _ (t : Tree) (k : tree.Keeps t) where
  names_kept : (rows (name_record (length t.modules) (length t.recipes)) None (length t.names)).Keeps t.names
  unfolding both
  names_kept = k.1.1.0

  modules_kept : (rows (λ _. module_record (length t.recipes)) None (length t.modules)).Keeps t.modules
  unfolding both
  modules_kept = k.1.0

  names_lead : (i : ℕ) → i < length t.names → Stands (NumberLeads (length t.modules) (length t.recipes)) t.names i
  names_lead = each_row _ _ (number_leads _ _) _ _ t.names names_kept

  modules_default : (i : ℕ) → i < length t.modules → Stands (DefaultExists (length t.recipes)) t.modules i
  modules_default = each_row _ _ (λ _. default_kept _) _ _ t.modules modules_kept

  -- name rows ascend by module, kind and text
  pub names_ascend : Ascending key t.names
  names_ascend i d h =
      rw add-one (each_next _ (λ last n. is_lt (ranked (key last) (key n)) ≡ true) (λ last n kept. ap is_lt kept.1) None _ t.names names_kept i d (omega arith))

  to_record : (kind : Kind) (n : Name) (x : ℕ) → n.kind ≡ kind_number kind → n.kind < 4 → Leads (length t.modules) (length t.recipes) n.within n.kind x → x < records t kind
  to_record kinds.Module n x e h l = l.to_module (omega arith)
  to_record kinds.ModuleAlias n x e h l = l.to_module (omega arith)
  to_record kinds.Recipe n x e h l = l.to_recipe (omega arith)
  to_record kinds.RecipeAlias n x e h l = l.to_recipe (omega arith)
  to_record kinds.DisabledRecipe n x e h l = absurd (omega arith)
  to_record kinds.DisabledAlias n x e h l = absurd (omega arith)
  to_record kinds.AbsentModule n x e h l = absurd (omega arith)

  -- numbers name records that exist
  pub numbers_exist : NumbersExist t
  numbers_exist = record {
    names = λ place n kind x at of is. let l = of_read _ t.names names_lead place n at x is in to_record kind n x of l.0 l.1;
    defaults = λ m row x at is. of_read _ t.modules modules_default m row at x is;
  }

  -- a name row of kind 0 leads to a higher module
  pub rising : Rising t.names
  rising place from to s =
      stands_both (Down from to) _ (λ n d l. let up = (l to d.leads.number).1.above d.leads.kind in subst (λ m. m < to) d.within up) t.names place s (names_lead place (stands_within _ t.names place s))

-- rows over an image's bytes ascend as the names that they say
pub rows_ascend : (image : List ℕ) (names : List NameRow) → Ascending key (map (name_at image) names) → Ascending (name_key image) names
rows_ascend image names ascend i d less =
    let name = name_at image in
    let here = get_or-map name names i d (name d) (omega arith) in
    let next = get_or-map name names (i + 1) d (name d) less in
    let h = ascend i (name d) (rw (length-map names name) less) in
    rw (here, next) at h
