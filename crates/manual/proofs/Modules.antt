-- Modules and default recipes. Assumes nothing.
use Rattle.std.proofs.Common.{◌≡◌, ℕ, ◌<◌, true, false, List, [], ◌∷◌, ◌++◌, Some, Ok, Result, sym, refl, ap, ◌∙◌, subst, arith}
use Rattle.refusal.specs.declared.Refusal.{Refusal}
use Rattle.text.specs.Identifier.{Text}
use Rattle.register.specs.Meaning.{NameMeaning, SignatureMeaning}
use Rattle.judge.specs.Meaning.{JudgeMeaning}
use Rattle.path.specs.Path.{Leads, Modulepath, Resolves, Gives, LawfulPath}
use Rattle.path.specs.declared.path.Path.{Path}
use Rattle.path.proofs.Follows.{path_laws}
use Rattle.path.proofs.Theorem.{the_only}
use Rattle.reading.specs.Signature.{required_count}
use Rattle.reading.specs.Line.{Taken, Begins, Cut, FaultFrom}
use Rattle.reading.proofs.Runs.{clash}
use Rattle.manual.specs.Modules.{LastDefault, Refused, ModulesStand}

last_default : (names : NameMeaning) (words : List Text) (path : Modulepath) → Gives words path → {found : Path} → Resolves names path found → found.default ≡ true → LastDefault names words found.recipe
last_default names words path g (Resolves.at_recipe h none r) e = absurd (clash (sym e))
last_default names words path g (Resolves.at_default {at} l d) e = record { path = path; gives = g; at = at; ends = l; default = d }

no_names : {names : NameMeaning} {at : ℕ} → Leads names names.root [] at → names.root ≡ at
no_names Leads.here = refl

no_front : (name : Text) (front rest : List Text) → [] ≡ front ++ (name ∷ rest) → ⊥
no_front name [] rest e = let z : ◌≡◌ {A = ℕ} 0 1 = cc in omega arith
no_front name (x ∷ front) rest e = let z : ◌≡◌ {A = ℕ} 0 1 = cc in omega arith

root_default : (names : NameMeaning) (path : Modulepath) → path.components ≡ [] → {found : Path} → Resolves names path found → names.default names.root ≡ Some found.recipe
root_default names path n (Resolves.at_recipe {front} {rest} {name} h none r) = absurd (no_front name front rest (sym n ∙ h.cut))
root_default names path n (Resolves.at_default {at} l d) = ap names.default (no_names (subst (λ (x : List Text). Leads names names.root x at) n l)) ∙ d

gives_none : {path : Modulepath} → Gives [] path → path.components ≡ []
gives_none Gives.no_words = refl

module _ (names : NameMeaning) (s : SignatureMeaning) (judge : JudgeMeaning) (words : List Text) (found : Path) (p : LawfulPath names words found) (d : found.default ≡ true) (r : 0 < required_count (s.parameters found.recipe)) where
  no_order : (t : Taken) (rest : List Text) → Begins names s judge words t rest → ⊥
  no_order t rest b =
      let other : Path = record { recipe = t.recipe; words = t.path; default = b.default } in
      let e : ◌≡◌ {A = Result Path Refusal} (Ok other) (Ok found) = (the_only names words (Ok found) p).only (Ok other) b.path in
      let i : other ≡ found = cc in
      let u = b.undemanding (ap (λ (x : Path). x.default) i ∙ d) in
      let q = ap (λ (x : Path). required_count (s.parameters x.recipe)) i in
      omega arith

  no_cut : (ts : List Taken) → Cut names s judge words ts → ⊥
  no_cut ts (Cut.last {t = t} b) = no_order t [] b
  no_cut ts (Cut.then {rest = rest} {w = w} {t = t} b c) = no_order t (w ∷ rest) b

  refused : Refused names s judge words found.recipe
  refused = record { fault = FaultFrom.demanding p d r; unlawful = λ reading l. no_cut l.orders l.cut; no_order = no_order }

pub modules_stand : ModulesStand
modules_stand = record {
  laws = path_laws;
  pieces_take_last_default = λ names word text rest pieces at recipe c m p l d. record { path = record { components = pieces; spaced = false }; gives = Gives.one_word c m p; resolves = Resolves.at_default l d };
  words_take_last_default = λ names word rest at recipe c l d. record { path = record { components = word ∷ rest; spaced = true }; gives = Gives.each_word c; resolves = Resolves.at_default l d };
  default_is_last = λ names words found p d. last_default names words p.path p.gives p.resolves d;
  no_words_take_root_default = λ names found p. root_default names p.path (gives_none p.gives) p.resolves;
  demanding_default_refused = refused;
}
