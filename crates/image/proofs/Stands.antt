-- An image says one tree or gets one refusal, and never both.
use Rattle.std.proofs.Common.{◌≡◌, ℕ, ◌+◌, ◌<◌, List, length, sym, refl, ap, ◌∙◌, subst, inl, inr, arith}
use Rattle.std.proofs.lemmas.Bool.{cases_order}
use Rattle.refusal.specs.declared.Refusal.{Refusal}
use Rattle.refusal.specs.declared.Refusal.TheVariants.{BytesBehind, SharedName, ModuleNotNamedOnce}
use Rattle.format.proofs.Whole.{encoded}
use Rattle.records.specs.Records.{tree}
use Rattle.records.proofs.Certain.{tree_sure}
use Rattle.tree.specs.Tree.{Tree, Name, Parameter}
use Rattle.whole.specs.Shared.{Apart, EachApart, FirstShared}
use Rattle.whole.specs.Modules.{FirstNotOnce}
use Rattle.whole.proofs.Places.{stands_within, stands_both}
use Rattle.image.specs.Image.{Lawful, Holds, Unlawful, ImageStands}

pub holds : {image : List ℕ} {t : Tree} → Lawful image t → Holds image t (length image)
holds {image} {t} l = record { short = l.short; good = (encoded tree).held image t l.keeps l.written }

module _ {image : List ℕ} {t u : Tree} {to up : ℕ} (h : Holds image t to) (k : Holds image u up) where
  same_tree : t ≡ u
  same_tree = tree_sure.one image 0 t u to up h.good k.good

  same_end : to ≡ up
  same_end = sym h.good.stands.ends ∙ ap (λ x. 0 + length (tree.bytes x)) same_tree ∙ k.good.stands.ends

not_shared : {recipes : List (List Parameter)} {r : ℕ} → EachApart recipes → FirstShared recipes r → ⊥
not_shared {recipes} {r} a f = stands_both (λ ps. Apart ps → ⊥) Apart (λ ps n p. n p) recipes r f.shared (a r (stands_within (λ ps. Apart ps → ⊥) recipes r f.shared))

lower_shared : {recipes : List (List Parameter)} {r s : ℕ} → FirstShared recipes r → FirstShared recipes s → r < s → ⊥
lower_shared {recipes} {r} f g h = stands_both (λ ps. Apart ps → ⊥) Apart (λ ps n p. n p) recipes r f.shared (g.before r h)

same_shared : {recipes : List (List Parameter)} {r s : ℕ} → FirstShared recipes r → FirstShared recipes s → r ≡ s
same_shared {recipes} {r} {s} f g =
    elim (cases_order r s) [
      | inl e ↦ e
      | inr (inl h) ↦ absurd (lower_shared f g h)
      | inr (inr h) ↦ absurd (lower_shared g f h)
    ]

same_unnamed : {names : List Name} {n m k : ℕ} → FirstNotOnce names n m → FirstNotOnce names n k → m ≡ k
same_unnamed {names} {n} {m} {k} f g =
    elim (cases_order m k) [
      | inl e ↦ e
      | inr (inl h) ↦ absurd (f.fails (g.before m f.above h))
      | inr (inr h) ↦ absurd (g.fails (f.before k g.above h))
    ]

-- the rules of one tree on another that is the same
shared_in : {t u : Tree} {r : ℕ} → t ≡ u → FirstShared t.recipes r → FirstShared u.recipes r
shared_in {r = r} e f = subst (λ (x : Tree). FirstShared x.recipes r) e f

apart_in : {t u : Tree} → t ≡ u → EachApart t.recipes → EachApart u.recipes
apart_in e a = subst (λ (x : Tree). EachApart x.recipes) e a

unnamed_in : {t u : Tree} {m : ℕ} → t ≡ u → FirstNotOnce t.names (length t.modules) m → FirstNotOnce u.names (length u.modules) m
unnamed_in {m = m} e f = subst (λ (x : Tree). FirstNotOnce x.names (length x.modules) m) e f

apart : {image : List ℕ} {t : Tree} {refusal : Refusal} → Lawful image t → Unlawful image refusal → ⊥
apart l (Unlawful.long h) = let s = l.short in omega arith
apart {image} {t} l (Unlawful.field {refusal} h f) = tree_sure.apart image 0 t (length image) refusal (holds l).good f
apart l (Unlawful.behind h less) = let e = same_end (holds l) h in omega arith
apart l (Unlawful.shared h f) = not_shared (apart_in (same_tree (holds l) h) l.apart) f
apart l (Unlawful.unnamed {below = m} h a f) = let g = unnamed_in (sym (same_tree (holds l) h)) f in g.fails (l.once m g.above g.within)

faulty_held : {image : List ℕ} {t : Tree} {to : ℕ} (refusal : Refusal) → tree.Faulty image 0 refusal → Holds image t to → ⊥
faulty_held {image} {t} {to} refusal f h = tree_sure.apart image 0 t to refusal h.good f

first : {image : List ℕ} {refusal other : Refusal} → Unlawful image refusal → Unlawful image other → refusal ≡ other
first (Unlawful.long h) (Unlawful.long k) = refl
first (Unlawful.long h) (Unlawful.field k g) = absurd (omega arith)
first (Unlawful.long h) (Unlawful.behind k less) = absurd (let s = k.short in omega arith)
first (Unlawful.long h) (Unlawful.shared k g) = absurd (let s = k.short in omega arith)
first (Unlawful.long h) (Unlawful.unnamed k a g) = absurd (let s = k.short in omega arith)
first (Unlawful.field h f) (Unlawful.long k) = absurd (omega arith)
first {image} {refusal} {other} (Unlawful.field h f) (Unlawful.field k g) = tree_sure.same image 0 refusal other f g
first {image} {refusal} {other} (Unlawful.field h f) (Unlawful.behind k less) = absurd (faulty_held refusal f k)
first {image} {refusal} {other} (Unlawful.field h f) (Unlawful.shared k g) = absurd (faulty_held refusal f k)
first {image} {refusal} {other} (Unlawful.field h f) (Unlawful.unnamed k a g) = absurd (faulty_held refusal f k)
first (Unlawful.behind h less) (Unlawful.long k) = absurd (let s = h.short in omega arith)
first {image} {refusal} {other} (Unlawful.behind h less) (Unlawful.field k g) = absurd (faulty_held other g h)
first (Unlawful.behind h less) (Unlawful.behind k more) = ap BytesBehind (same_end h k)
first (Unlawful.behind h less) (Unlawful.shared k g) = absurd (let e = same_end h k in omega arith)
first (Unlawful.behind h less) (Unlawful.unnamed k a g) = absurd (let e = same_end h k in omega arith)
first (Unlawful.shared h f) (Unlawful.long k) = absurd (let s = h.short in omega arith)
first {image} {refusal} {other} (Unlawful.shared h f) (Unlawful.field k g) = absurd (faulty_held other g h)
first (Unlawful.shared h f) (Unlawful.behind k more) = absurd (let e = same_end h k in omega arith)
first (Unlawful.shared h f) (Unlawful.shared k g) = ap SharedName (same_shared (shared_in (same_tree h k) f) g)
first (Unlawful.shared h f) (Unlawful.unnamed k a g) = absurd (not_shared a (shared_in (same_tree h k) f))
first (Unlawful.unnamed h a f) (Unlawful.long k) = absurd (let s = h.short in omega arith)
first {image} {refusal} {other} (Unlawful.unnamed h a f) (Unlawful.field k g) = absurd (faulty_held other g h)
first (Unlawful.unnamed h a f) (Unlawful.behind k more) = absurd (let e = same_end h k in omega arith)
first (Unlawful.unnamed h a f) (Unlawful.shared k g) = absurd (not_shared (apart_in (same_tree h k) a) g)
first (Unlawful.unnamed h a f) (Unlawful.unnamed k b g) = ap ModuleNotNamedOnce (same_unnamed (unnamed_in (same_tree h k) f) g)

pub image_stands : ImageStands
image_stands = record {
  one = λ image t u l m. same_tree (holds l) (holds m);
  apart = λ image t refusal l u. apart l u;
  first = λ image refusal other u v. first u v;
}
