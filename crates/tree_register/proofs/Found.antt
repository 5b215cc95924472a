-- What is found in a tree exists. Assumes nothing.
use Rattle.std.proofs.Common.{◌≡◌, ℕ, ◌<◌, Bool, true, false, cond, eqb, length, Some, None, Option, sym, refl, ap, ◌∙◌, arith}
use Rattle.std.specs.Option.{option_map, option_flatten}
use Rattle.std.specs.List.{slice_get}
use Rattle.std.specs.Str.{bytes_eq}
use Rattle.std.proofs.lemmas.Option.{slice_get_within}
use Rattle.std.proofs.lemmas.Bool.{and_parts, eqb-true}
use Rattle.text.specs.Identifier.{Text}
use Rattle.tree.specs.Tree.{Tree, Module, Name}
use Rattle.register.specs.Kinds.{kind_number, labelled}
use Rattle.register.specs.Parameters.{place_of}
use Rattle.register.specs.declared.kind.Kind.{Kind}
use Rattle.register.specs.declared.kind.Kind.TheVariants as kinds
use Rattle.register.proofs.Places.{place_found, passing}
use Rattle.tree_register.specs.Names.{is_named, is_of_kind, leads, led_from, tree_names}
use Rattle.tree_register.specs.Found.{records, NumbersExist}

module _ (tree : Tree) (exist : NumbersExist tree) where
  -- of kinds with labels the name rows are counted
  label_records : (kind : Kind) → labelled kind ≡ true → records tree kind ≡ length tree.names
  label_records kinds.Module e = let z : ◌≡◌ {A = ℕ} 0 1 = cc in absurd (omega arith)
  label_records kinds.ModuleAlias e = let z : ◌≡◌ {A = ℕ} 0 1 = cc in absurd (omega arith)
  label_records kinds.Recipe e = let z : ◌≡◌ {A = ℕ} 0 1 = cc in absurd (omega arith)
  label_records kinds.RecipeAlias e = let z : ◌≡◌ {A = ℕ} 0 1 = cc in absurd (omega arith)
  label_records kinds.DisabledRecipe e = refl
  label_records kinds.DisabledAlias e = refl
  label_records kinds.AbsentModule e = refl

  led_exists : (kind : Kind) (place x : ℕ) (n : Name) (b : Bool) → labelled kind ≡ b → slice_get tree.names place ≡ Some n → n.kind ≡ kind_number kind → cond b (Some place) n.number ≡ Some x → x < records tree kind
  led_exists kind place x n true is at of h =
      let e : place ≡ x = cc in let c = label_records kind is in let w = slice_get_within tree.names place n at in omega arith
  led_exists kind place x n false is at of h = exist.names place n kind x at of h

  of_kind : (m kind : ℕ) (t : Text) (n : Name) → is_named m kind t n ≡ true → n.kind ≡ kind
  of_kind m kind t n h =
      let one : (is_of_kind m kind n ≡ true) × (bytes_eq n.text t ≡ true) = and_parts _ _ h in
      let two : (eqb n.within m ≡ true) × (eqb n.kind kind ≡ true) = and_parts _ _ one.0 in
      eqb-true _ _ two.1

  pub found_exists : (m : ℕ) (kind : Kind) (t : Text) (x : ℕ) → (tree_names tree).find m kind t ≡ Some x → x < records tree kind
  found_exists m kind t x h = at (place_of (is_named m (kind_number kind) t) tree.names) refl h
    where
      row : (place : ℕ) → led_from tree.names kind (Some place) ≡ Some x → (n : Name) × (slice_get tree.names place ≡ Some n) × (is_named m (kind_number kind) t n ≡ true) → x < records tree kind
      row place led (n, e, named) =
          led_exists kind place x n (labelled kind) refl e (of_kind m (kind_number kind) t n named) (sym (ap (λ o. option_flatten (option_map (leads kind place) o)) e) ∙ led)

      at : (o : Option ℕ) → place_of (is_named m (kind_number kind) t) tree.names ≡ o → led_from tree.names kind o ≡ Some x → x < records tree kind
      at None e led = let z : ◌≡◌ {A = ℕ} 0 1 = cc in absurd (omega arith)
      at (Some place) e led =
          row place led (passing (is_named m (kind_number kind) t) tree.names place (place_found (is_named m (kind_number kind) t) tree.names place e))

  pub default_exists : (m x : ℕ) → (tree_names tree).default m ≡ Some x → x < length tree.recipes
  default_exists m x h = at (slice_get tree.modules m) refl h
    where
      at : (o : Option Module) → slice_get tree.modules m ≡ o → option_flatten (option_map (λ r. r.default) o) ≡ Some x → x < length tree.recipes
      at None e led = let z : ◌≡◌ {A = ℕ} 0 1 = cc in absurd (omega arith)
      at (Some row) e led = exist.defaults m row x e led
