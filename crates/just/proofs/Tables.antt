-- The tables of the justfiles that a tree tells answer as the tree's names do.
use Rattle.std.proofs.Common.{◌≡◌, ℕ, zero, suc, ◌+◌, ◌<◌, true, false, not, ◌&&◌, eqb, ltb, List, [], ◌∷◌, map, length, is_some, Some, None, Option, unwrap_or, sym, refl, ap, ◌∙◌, zero-add, arith}
use Rattle.std.specs.Option.{option_map, option_flatten}
use Rattle.std.specs.List.{slice_get}
use Rattle.std.specs.Str.{bytes_eq}
use Rattle.std.proofs.lemmas.Bool.{and_parts, eqb-true, true≢false, false≢true}
use Rattle.text.specs.Identifier.{Text}
use Rattle.text.proofs.Splits.{either_way}
use Rattle.tree.specs.Tree as tree
use Rattle.tree.specs.Tree.{Tree, Name, Module}
use Rattle.register.specs.Kinds.{kind_number, labelled}
use Rattle.register.specs.Parameters.{place_of, Apart}
use Rattle.register.proofs.Places.{place_found, passing}
use Rattle.register.specs.declared.kind.Kind.{Kind}
use Rattle.register.specs.declared.kind.Kind.TheVariants as kinds
use Rattle.tree_register.specs.Names.{is_of_kind, is_named, leads, led_from, tree_names}
use Rattle.tree_register.specs.Signatures as signatures
use Rattle.tree_register.specs.Signatures.{tree_signatures}
use Rattle.tree_register.specs.Found.{FoundExists}
use Rattle.just.specs.Table.{get, is_empty}
use Rattle.just.specs.Justfile.{submodule_by}
use Rattle.just.specs.FromTree.{kind_of, parameter_of, recipe_at, modulepath_to, table_from, table_of, number_of, justfile_of, justfiles_from, justfiles_of}
use Rattle.just.proofs.Meaning.{kind_means, meaning}

-- kinds 0 to 3 and no others have a number
abbrev pub Numbered : Tree → Type 0
Numbered t = (j : ℕ) (n : Name) → slice_get t.names j ≡ Some n → ltb n.kind 4 ≡ is_some n.number

-- What the proofs ask of a tree.
pub record Good (t : Tree) : Type 0 where
  pub rooted : 0 < length t.modules
  pub numbered : Numbered t
  pub found : FoundExists t
  pub apart : (r : ℕ) → Apart ((tree_signatures t).parameters r)
  pub reached : (m : ℕ) (row : Module) → slice_get t.modules m ≡ Some row → submodule_by (justfiles_of t) (length (justfiles_of t)) (modulepath_to t m) ≡ Some (justfile_of t m row)

-- Parameters.

kind_means_lem : (o : Option ℕ) → signatures.parameter_kind o ≡ kind_means (kind_of o)
kind_means_lem None = refl
kind_means_lem (Some k) = either_way (eqb k 1) (λ e. rw e) (λ e. rw e (either_way (eqb k 2) (λ f. rw f) (λ f. rw f)))

parameter_means : (p : tree.Parameter) → signatures.parameter_of p ≡ meaning (parameter_of p)
parameter_means p = rw (kind_means_lem p.kind)

parameters_mean : (ps : List tree.Parameter) → map signatures.parameter_of ps ≡ map meaning (map parameter_of ps)
parameters_mean [] = refl
parameters_mean (p ∷ ps) = rw (parameter_means p, parameters_mean ps)

pub recipe_means : (t : Tree) (r : ℕ) → (tree_signatures t).parameters r ≡ map meaning (recipe_at t r).parameters
recipe_means t r = go (slice_get t.recipes r)
  where
    go : (o : Option (List tree.Parameter)) → unwrap_or (option_map (map signatures.parameter_of) o) [] ≡ map meaning (map parameter_of (unwrap_or o []))
    go None = refl
    go (Some ps) = parameters_mean ps

-- Names.

module _ {V : Type 0} (m c : ℕ) (value : ℕ → Name → V) (arg : Text) where
  abbrev led : ℕ → List Name → Option ℕ → Option V
  led place ns None = None
  led place ns (Some j) = option_map (value (place + j)) (slice_get ns j)

  led_later : (place : ℕ) (n : Name) (ns : List Name) (o : Option ℕ) → led (suc place) ns o ≡ led place (n ∷ ns) (option_map suc o)
  led_later place n ns None = refl
  led_later place n ns (Some j) = let e : suc place + j ≡ place + suc j = omega arith in ap (λ (x : ℕ). option_map (value x) (slice_get ns j)) e

  table_leads : (place : ℕ) (ns : List Name) → get (table_from m c value place ns) arg ≡ led place ns (place_of (is_named m c arg) ns)
  table_leads place [] = refl
  table_leads place (n ∷ ns) =
      either_way (eqb n.within m && eqb n.kind c)
      (λ a. rw a (either_way (bytes_eq n.text arg)
      (λ b. let e : place ≡ place + 0 = omega arith in rw b (ap (λ (x : ℕ). Some (value x n)) e))
      (λ b. rw b (table_leads (suc place) ns ∙ led_later place n ns (place_of (is_named m c arg) ns)))))
      (λ a. rw a (table_leads (suc place) ns ∙ led_later place n ns (place_of (is_named m c arg) ns)))

table_empty : {V : Type 0} (m c : ℕ) (value : ℕ → Name → V) (place : ℕ) (ns : List Name) → is_empty (table_from m c value place ns) ≡ not (is_some (place_of (is_of_kind m c) ns))
table_empty m c value place [] = refl
table_empty m c value place (n ∷ ns) =
    either_way (eqb n.within m && eqb n.kind c)
    (λ a. rw a)
    (λ a. rw a (table_empty m c value (suc place) ns ∙ ap not (later (place_of (is_of_kind m c) ns))))
  where
    later : (o : Option ℕ) → is_some o ≡ is_some (option_map suc o)
    later None = refl
    later (Some j) = refl

pub no_recipes : (t : Tree) (m : ℕ) (row : Module) → is_empty (justfile_of t m row).recipes ≡ not ((tree_names t).has_recipes m)
no_recipes t m row = table_empty m 2 (λ place n. recipe_at t (number_of n)) 0 t.names

small : (kind : Kind) → labelled kind ≡ false → ltb (kind_number kind) 4 ≡ true
small kinds.Module e = refl
small kinds.ModuleAlias e = refl
small kinds.Recipe e = refl
small kinds.RecipeAlias e = refl
small kinds.DisabledRecipe e = absurd (true≢false e)
small kinds.DisabledAlias e = absurd (true≢false e)
small kinds.AbsentModule e = absurd (true≢false e)

module _ (t : Tree) (m : ℕ) (kind : Kind) (arg : Text) where
  -- labels
  pub label_is : labelled kind ≡ true → get (table_of t m (kind_number kind) (λ place n. place)) arg ≡ (tree_names t).find m kind arg
  label_is l = table_leads m (kind_number kind) (λ place n. place) arg 0 t.names ∙ go (place_of (is_named m (kind_number kind) arg) t.names)
    where
      at : (j : ℕ) (o : Option Name) → option_map (λ (n : Name). 0 + j) o ≡ option_flatten (option_map (leads kind j) o)
      at j None = refl
      at j (Some n) = rw l (ap (λ (x : ℕ). Some x) (zero-add j))

      go : (o : Option ℕ) → led m (kind_number kind) (λ place n. place) arg 0 t.names o ≡ led_from t.names kind o
      go None = refl
      go (Some j) = at j (slice_get t.names j)

  -- numbers
  pub number_is : {V : Type 0} (value : ℕ → V) → Numbered t → labelled kind ≡ false → get (table_of t m (kind_number kind) (λ place n. value (number_of n))) arg ≡ option_map value ((tree_names t).find m kind arg)
  number_is {V} value numbered l = table_leads m (kind_number kind) (λ place n. value (number_of n)) arg 0 t.names ∙ go (place_of (is_named m (kind_number kind) arg) t.names) refl
    where
      some : (n : Name) (o : Option ℕ) → n.number ≡ o → is_some n.number ≡ true → Some (value (number_of n)) ≡ option_map value n.number
      some n None e s = absurd (false≢true (sym (ap is_some e) ∙ s))
      some n (Some x) e s = rw e

      at : (j : ℕ) → (n : Name) × (slice_get t.names j ≡ Some n) × (is_named m (kind_number kind) arg n ≡ true) → option_map (λ (n : Name). value (number_of n)) (slice_get t.names j) ≡ option_map value (option_flatten (option_map (leads kind j) (slice_get t.names j)))
      at j (n, e, named) =
          let of_kind : eqb n.kind (kind_number kind) ≡ true = (and_parts (eqb n.within m) (eqb n.kind (kind_number kind)) (and_parts (eqb n.within m && eqb n.kind (kind_number kind)) (bytes_eq n.text arg) named).0).1 in
          let is : n.kind ≡ kind_number kind = eqb-true n.kind (kind_number kind) of_kind in
          let has : is_some n.number ≡ true = sym (numbered j n e) ∙ ap (λ (k : ℕ). ltb k 4) is ∙ small kind l in
          rw (e, l) (some n n.number refl has)

      go : (o : Option ℕ) → place_of (is_named m (kind_number kind) arg) t.names ≡ o → led m (kind_number kind) (λ place n. value (number_of n)) arg 0 t.names o ≡ option_map value (led_from t.names kind o)
      go None e = refl
      go (Some j) e = at j (passing (is_named m (kind_number kind) arg) t.names j (place_found (is_named m (kind_number kind) arg) t.names j e))

-- Modules.

from_place : (t : Tree) (k : ℕ) (rows : List Module) (j : ℕ) → slice_get (justfiles_from t k rows) j ≡ option_map (justfile_of t (k + j)) (slice_get rows j)
from_place t k [] j = refl
from_place t k (row ∷ rows) zero = let e : k ≡ k + 0 = omega arith in ap (λ (x : ℕ). Some (justfile_of t x row)) e
from_place t k (row ∷ rows) (suc j) = let e : suc k + j ≡ k + suc j = omega arith in from_place t (suc k) rows j ∙ ap (λ (x : ℕ). option_map (justfile_of t x) (slice_get rows j)) e

pub module_at_lem : (t : Tree) (m : ℕ) (row : Module) → slice_get t.modules m ≡ Some row → slice_get (justfiles_of t) m ≡ Some (justfile_of t m row)
module_at_lem t m row e = from_place t 0 t.modules m ∙ ap (λ (x : ℕ). option_map (justfile_of t x) (slice_get t.modules m)) (zero-add m) ∙ ap (option_map (justfile_of t m)) e
