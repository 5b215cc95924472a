-- The tree of a lawful image is good: what the proofs ask of a tree.
use Rattle.std.proofs.Common.{◌≡◌, ℕ, zero, suc, ◌<◌, true, false, ◌&&◌, eqb, ltb, List, [], ◌∷◌, ◌++◌, map, length, is_some, Some, None, Option, sym, refl, ap, ◌∙◌, subst, inl, inr, arith}
use Rattle.std.specs.Option.{option_map}
use Rattle.std.specs.List.{slice_get}
use Rattle.std.specs.Str.{bytes_eq}
use Rattle.std.proofs.lemmas.Option.{slice_get_within}
use Rattle.std.proofs.lemmas.Slice.Eq.{bytes_eq-Decides}
use Rattle.std.proofs.lemmas.Bool.{cases_order, and_parts, eqb-true, eq-eqb, ne_eqb, false≢true}
use Rattle.text.specs.Identifier.{Text}
use Rattle.text.proofs.Splits.{either_way}
use Rattle.format.specs.Format.{Format, KeepsIf, number, checked, both, rows}
use Rattle.refusal.specs.declared.Refusal.TheVariants.{OutOfRange}
use Rattle.records.specs.Records as records
use Rattle.records.specs.Records.{name_record, key, tree}
use Rattle.table.specs.Order.{Ascending, KeyAt}
use Rattle.table.proofs.Narrow.{ascending_once}
use Rattle.tree.specs.Tree as trees
use Rattle.tree.specs.Tree.{Tree, Name, Module}
use Rattle.register.specs.Parameters.{Passes, AtMostOne, Apart, has_long_name, has_letter_code}
use Rattle.register.proofs.Places.{place_only, passing, text_has, code_has}
use Rattle.register.specs.declared.kind.Kind.TheVariants as kinds
use Rattle.tree_register.specs.Names.{is_named, tree_names}
use Rattle.tree_register.specs.Signatures as signatures
use Rattle.tree_register.specs.Signatures.{tree_signatures}
use Rattle.tree_register.proofs.Found.{found_exists, default_exists}
use Rattle.whole.specs.Places.{Stands}
use Rattle.whole.specs.Shared as shared
use Rattle.whole.specs.Modules.{Leads, EachNamedOnce, Down, Rising}
use Rattle.image.specs.Image.{Lawful}
use Rattle.image.proofs.Keeps.{names_ascend, numbers_exist, rising}
use Rattle.just.specs.Results.{if_let}
use Rattle.just.specs.Table.{get}
use Rattle.just.specs.Modulepath.{Modulepath}
use Rattle.just.specs.Justfile.{Justfile, below, submodule_from, submodule_by}
use Rattle.just.specs.FromTree.{is_number, row_to, path_to, modulepath_to, justfile_of, justfiles_from, justfiles_of}
use Rattle.just.proofs.Tables.{Numbered, Good, number_is, module_at_lem}
use Rattle.just.proofs.Resolve.{nth_some}

-- what holds of each row
each_row : {A : Type 0} (row : Option A → Format A) (P : A → Type 0) → ((last : Option A) (a : A) → (row last).Keeps a → P a) → (last : Option A) (n : ℕ) (xs : List A) → (rows row last n).Keeps xs → (i : ℕ) (x : A) → slice_get xs i ≡ Some x → P x
each_row row P f last n [] k i x e = let z : ◌≡◌ {A = ℕ} 0 1 = cc in absurd (omega arith)
each_row row P f last zero (y ∷ xs) k i x e = absurd (let e = ap length k in omega arith)
each_row row P f last (suc n) (y ∷ xs) k zero x e = let s : y ≡ x = cc in subst P s (f last y k.0)
each_row row P f last (suc n) (y ∷ xs) k (suc i) x e = each_row row P f (Some y) n xs k.1 i x e

-- kinds below 4 and no others have a number
numbered : (modules recipes : ℕ) (last : Option Name) (n : Name) → (name_record modules recipes last).Keeps n → ltb n.kind 4 ≡ is_some n.number
unfolding both
numbered modules recipes last n k = by n.number refl
  where
    by : (o : Option ℕ) → n.number ≡ o → ltb n.kind 4 ≡ is_some n.number
    by None e =
        let led = subst (KeepsIf _ (checked OutOfRange (records.Leads modules recipes n.within n.kind) (number 2))) e k.0.1.1.1.1 in
        k.0.1.1.0.1.fits ∙ led ∙ sym (ap is_some e)
    by (Some x) e =
        let led = subst (KeepsIf _ (checked OutOfRange (records.Leads modules recipes n.within n.kind) (number 2))) e k.0.1.1.1.1 in
        k.0.1.1.0.1.fits ∙ led.0 ∙ sym (ap is_some e)

all_numbered : (t : Tree) → tree.Keeps t → (j : ℕ) (n : Name) → slice_get t.names j ≡ Some n → ltb n.kind 4 ≡ is_some n.number
unfolding both
all_numbered t k = each_row (name_record (length t.modules) (length t.recipes)) (λ n. ltb n.kind 4 ≡ is_some n.number) (numbered (length t.modules) (length t.recipes)) None (length t.names) t.names k.1.1.0

rooted : (t : Tree) → tree.Keeps t → 0 < length t.modules
unfolding both
rooted t k = k.0.0.1.0

-- No two parameters share a long name or a letter.

long_stands : (x : Text) (qs : List trees.Parameter) (i : ℕ) → Passes (has_long_name x) (map signatures.parameter_of qs) i → Stands (λ (p : trees.Parameter). p.long ≡ Some x) qs i
long_stands x [] i h = let z : ◌≡◌ {A = ℕ} 0 1 = cc in absurd (omega arith)
long_stands x (q ∷ qs) zero h = text_has x q.long (cc)
long_stands x (q ∷ qs) (suc i) h = long_stands x qs i h

letter_stands : (c : ℕ) (qs : List trees.Parameter) (i : ℕ) → Passes (has_letter_code c) (map signatures.parameter_of qs) i → Stands (λ (p : trees.Parameter). p.letter ≡ Some c) qs i
letter_stands c [] i h = let z : ◌≡◌ {A = ℕ} 0 1 = cc in absurd (omega arith)
letter_stands c (q ∷ qs) zero h = code_has c q.letter (cc)
letter_stands c (q ∷ qs) (suc i) h = letter_stands c qs i h

one_place : (P : ℕ → Type 0) → ((i j : ℕ) → i < j → P i → P j → ⊥) → (i j : ℕ) → P i → P j → i ≡ j
one_place P apart i j a b = elim (cases_order i j) [
  | inl e ↦ e
  | inr (inl h) ↦ absurd (apart i j h a b)
  | inr (inr h) ↦ absurd (apart j i h b a)
]

parameters_apart : (qs : List trees.Parameter) → shared.Apart qs → Apart (map signatures.parameter_of qs)
parameters_apart qs a = record {
  longs = λ x. one_place (Passes (has_long_name x) (map signatures.parameter_of qs)) (λ i j h m n. a.longs i j x h (long_stands x qs i m) (long_stands x qs j n));
  letters = λ c. one_place (Passes (has_letter_code c) (map signatures.parameter_of qs)) (λ i j h m n. a.letters i j c h (letter_stands c qs i m) (letter_stands c qs j n));
}

none_apart : Apart []
none_apart = record {
  longs = λ x i j h g. let z : ◌≡◌ {A = ℕ} 0 1 = cc in absurd (omega arith);
  letters = λ c i j h g. let z : ◌≡◌ {A = ℕ} 0 1 = cc in absurd (omega arith);
}

stands_of : {A : Type 0} (P : A → Type 0) (xs : List A) (i : ℕ) (x : A) → slice_get xs i ≡ Some x → Stands P xs i → P x
stands_of P [] i x e s = absurd s
stands_of P (y ∷ xs) zero x e s = let is : y ≡ x = cc in subst P is s
stands_of P (y ∷ xs) (suc i) x e s = stands_of P xs i x e s

of_stands : {A : Type 0} (P : A → Type 0) (xs : List A) (i : ℕ) (x : A) → slice_get xs i ≡ Some x → P x → Stands P xs i
of_stands P [] i x e p = let z : ◌≡◌ {A = ℕ} 0 1 = cc in absurd (omega arith)
of_stands P (y ∷ xs) zero x e p = let is : x ≡ y = cc in subst P is p
of_stands P (y ∷ xs) (suc i) x e p = of_stands P xs i x e p

recipes_apart : (t : Tree) → shared.EachApart t.recipes → (r : ℕ) → Apart ((tree_signatures t).parameters r)
recipes_apart t each r = by (slice_get t.recipes r) refl
  where
    by : (o : Option (List trees.Parameter)) → slice_get t.recipes r ≡ o → Apart ((tree_signatures t).parameters r)
    by None e = rw e none_apart
    by (Some qs) e = rw e (parameters_apart qs (stands_of shared.Apart t.recipes r qs e (each r (slice_get_within t.recipes r qs e))))

-- Each module is reached by the path that its aliases have.

-- the row that names a module
record Parent (names : List Name) (m : ℕ) : Type 0 where
  row : Name
  place : ℕ
  is : row_to m names ≡ Some row
  at : slice_get names place ≡ Some row
  kind : row.kind ≡ 0
  number! : row.number ≡ Some m

number_has : (m : ℕ) (o : Option ℕ) → is_number m o ≡ true → o ≡ Some m
number_has m None e = absurd (false≢true e)
number_has m (Some n) e = ap (λ (x : ℕ). Some x) (eqb-true n m e)

leads_pass : (m : ℕ) (n : Name) → Leads m n → (eqb n.kind 0 && is_number m n.number) ≡ true
leads_pass m n l = rw (eq-eqb n.kind 0 l.kind, l.number, eq-eqb m m refl)

parent_later : (n : Name) (ns : List Name) (m : ℕ) → (eqb n.kind 0 && is_number m n.number) ≡ false → Parent ns m → Parent (n ∷ ns) m
parent_later n ns m e p = record { row = p.row; place = suc p.place; is = rw e p.is; at = p.at; kind = p.kind; number! = p.number! }

parent_here : (n : Name) (ns : List Name) (m : ℕ) → (eqb n.kind 0 && is_number m n.number) ≡ true → Parent (n ∷ ns) m
parent_here n ns m e =
    let h = and_parts (eqb n.kind 0) (is_number m n.number) e in
    record { row = n; place = 0; is = rw e; at = refl; kind = eqb-true n.kind 0 h.0; number! = number_has m n.number h.1 }

parent : (names : List Name) (m place : ℕ) → Stands (Leads m) names place → Parent names m
parent [] m place s = absurd s
parent (n ∷ ns) m zero s = parent_here n ns m (leads_pass m n s)
parent (n ∷ ns) m (suc place) s =
    either_way (eqb n.kind 0 && is_number m n.number)
    (λ e. parent_here n ns m e)
    (λ e. parent_later n ns m e (parent ns m place s))

-- a name of a kind in a module stands once
named_key : (m c : ℕ) (text : Text) (names : List Name) (i : ℕ) → Passes (is_named m c text) names i → KeyAt key names i (m ∷ c ∷ text)
named_key m c text names i h = by (passing (is_named m c text) names i h)
  where
    by : (n : Name) × (slice_get names i ≡ Some n) × (is_named m c text n ≡ true) → KeyAt key names i (m ∷ c ∷ text)
    by (n, e, named) =
        let p = and_parts (eqb n.within m && eqb n.kind c) (bytes_eq n.text text) named in
        let q = and_parts (eqb n.within m) (eqb n.kind c) p.0 in
        let a : n.within ≡ m = eqb-true n.within m q.0 in
        let b : n.kind ≡ c = eqb-true n.kind c q.1 in
        let d : n.text ≡ text = (bytes_eq-Decides n.text text).0 p.1 in
        rw e (let k : key n ≡ m ∷ c ∷ text = cc in ap (λ (x : List ℕ). Some x) k)

named_once : (names : List Name) → Ascending key names → (m c : ℕ) (text : Text) → AtMostOne (is_named m c text) names
named_once names up m c text i j h g = ascending_once key names up i j (m ∷ c ∷ text) (named_key m c text names i h) (named_key m c text names j g)

-- so a module is found in its parent by its name
found_below : (t : Tree) → Ascending key t.names → (m : ℕ) (p : Parent t.names m) → (tree_names t).find p.row.within kinds.Module p.row.text ≡ Some m
found_below t up m p =
    let n = p.row in
    let passes : Passes (is_named n.within 0 n.text) t.names p.place = rw (p.at, eq-eqb n.within n.within refl, eq-eqb n.kind 0 p.kind, (bytes_eq-Decides n.text n.text).1 refl) in
    rw (place_only (is_named n.within 0 n.text) t.names p.place (named_once t.names up n.within 0 n.text) passes, p.at, p.number!)

along : (all : List Justfile) (again : Modulepath → Option Justfile) (self : Option Justfile) (xs ys : List Text) → submodule_from all again self (xs ++ ys) ≡ submodule_from all again (submodule_from all again self xs) ys
along all again self [] ys = refl
along all again self (x ∷ xs) ys = along all again (if_let self (λ s. below all again s x) None) xs ys

-- what reaching a module asks
record Sound (t : Tree) : Type 0 where
  rooted : 0 < length t.modules
  numbered : Numbered t
  ascending : Ascending key t.names
  once : EachNamedOnce t.names (length t.modules)
  rises : Rising t.names

module _ (t : Tree) (sound : Sound t) (again : Modulepath → Option Justfile) where
  -- one step down, from the parent by its name
  step_down : (m : ℕ) (p : Parent t.names m) → p.row.within < length t.modules → submodule_from (justfiles_of t) again (slice_get (justfiles_of t) p.row.within) (p.row.text ∷ []) ≡ slice_get (justfiles_of t) m
  step_down m p less =
      let n = p.row in
      let r = nth_some t.modules n.within less in
      let told : get (justfile_of t n.within r.0).modules n.text ≡ Some m = number_is t n.within kinds.Module n.text (λ x. x) sound.numbered refl ∙ ap (option_map (λ (x : ℕ). x)) (found_below t sound.ascending m p) in
      rw (module_at_lem t n.within r.0 r.1, told)

  reach : (fuel m : ℕ) → m < fuel → m < length t.modules → submodule_from (justfiles_of t) again (slice_get (justfiles_of t) 0) (path_to t.names fuel m) ≡ slice_get (justfiles_of t) m
  reach zero m h l = absurd (omega arith)
  reach (suc fuel) zero h l = refl
  reach (suc fuel) (suc m) h l =
      let one = sound.once (suc m) (omega arith) l in
      let p = parent t.names (suc m) one.place one.there in
      let n = p.row in
      let up : n.within < suc m = sound.rises p.place n.within (suc m) (of_stands (Down n.within (suc m)) t.names p.place n p.at (record { within = refl; leads = record { kind = p.kind; number = p.number! } })) in
      let less : n.within < length t.modules = omega arith in
      rw (ne_eqb (suc m) 0 (λ e. omega arith), p.is)
      (along (justfiles_of t) again (slice_get (justfiles_of t) 0) (path_to t.names fuel n.within) (n.text ∷ [])
      ∙ ap (λ (s : Option Justfile). submodule_from (justfiles_of t) again s (n.text ∷ [])) (reach fuel n.within (omega arith) less)
      ∙ step_down (suc m) p less)

count : (t : Tree) (k : ℕ) (rows : List Module) → length (justfiles_from t k rows) ≡ length rows
count t k [] = refl
count t k (row ∷ rows) = ap suc (count t (suc k) rows)

reached : (t : Tree) → Sound t → (m : ℕ) (row : Module) → slice_get t.modules m ≡ Some row → submodule_by (justfiles_of t) (length (justfiles_of t)) (modulepath_to t m) ≡ Some (justfile_of t m row)
reached t sound m row e = by (length (justfiles_of t)) refl
  where
    by : (n : ℕ) → length (justfiles_of t) ≡ n → submodule_by (justfiles_of t) n (modulepath_to t m) ≡ Some (justfile_of t m row)
    by zero h = let a = count t 0 t.modules in let b = sound.rooted in absurd (omega arith)
    by (suc n) h = reach t sound (submodule_by (justfiles_of t) n) (suc m) m (omega arith) (slice_get_within t.modules m row e) ∙ module_at_lem t m row e

pub good : (image : List ℕ) (t : Tree) → Lawful image t → Good t
good image t l =
    let exist = numbers_exist t l.keeps in
    let sound : Sound t = record { rooted = rooted t l.keeps; numbered = all_numbered t l.keeps; ascending = names_ascend t l.keeps; once = l.once; rises = rising t l.keeps } in
    record {
      rooted = sound.rooted;
      numbered = sound.numbered;
      found = record { found = found_exists t exist; default = default_exists t exist };
      apart = recipes_apart t l.apart;
      reached = reached t sound;
    }
