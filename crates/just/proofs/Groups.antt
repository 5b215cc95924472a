-- just's groups hold the values of the rules.
use Rattle.std.proofs.Common.{◌≡◌, ℕ, zero, suc, ◌+◌, ◌<◌, cond, not, eqb, List, [], ◌∷◌, ◌++◌, map, set, Some, sym, refl, ap, ◌∙◌, zero-add, arith}
use Rattle.std.specs.List.{slice_get}
use Rattle.std.proofs.lemmas.List.{map_push}
use Rattle.std.proofs.lemmas.Bool.{eq-eqb, ne_eqb}
use Rattle.text.proofs.Splits.{either_way}
use Rattle.reading.specs.Reading as rules
use Rattle.reading.specs.Reading.{group, filled}
use Rattle.just.specs.Value as value
use Rattle.just.specs.Value.{Value, Element}
use Rattle.just.specs.Parameter.{Parameter}
use Rattle.just.specs.InvocationParser.{empty_groups}

abbrev pub element_of : rules.Value → Element
element_of v = record { text = v.text; word = v.word }

-- the groups of the parameters from place k on
abbrev pub groups_of : ℕ → List Parameter → List rules.Value → List Value
groups_of k [] vs = []
groups_of k (p ∷ ps) vs = map element_of (group k vs) ∷ groups_of (suc k) ps vs

pub groups_none : (k : ℕ) (ps : List Parameter) → groups_of k ps [] ≡ empty_groups ps
groups_none k [] = refl
groups_none k (p ∷ ps) = ap (λ (gs : List Value). [] ∷ gs) (groups_none (suc k) ps)

pub empty_is : (g : List rules.Value) → value.is_empty (map element_of g) ≡ not (filled g)
empty_is [] = refl
empty_is (v ∷ g) = refl

pub group_push : (k : ℕ) (vs : List rules.Value) (v : rules.Value) → group k (vs ++ v ∷ []) ≡ cond (eqb k v.parameter) (group k vs ++ v ∷ []) (group k vs)
group_push k [] v = refl
group_push k (x ∷ vs) v =
    either_way (eqb k x.parameter)
    (λ e. rw (e, group_push k vs v) (either_way (eqb k v.parameter) (λ f. rw f) (λ f. rw f)))
    (λ e. rw (e, group_push k vs v))

group_here : (k : ℕ) (vs : List rules.Value) (v : rules.Value) → k ≡ v.parameter → group k (vs ++ v ∷ []) ≡ group k vs ++ v ∷ []
group_here k vs v e = group_push k vs v ∙ rw (eq-eqb k v.parameter e)

group_apart : (k : ℕ) (vs : List rules.Value) (v : rules.Value) → (k ≡ v.parameter → ⊥) → group k (vs ++ v ∷ []) ≡ group k vs
group_apart k vs v e = group_push k vs v ∙ rw (ne_eqb k v.parameter e)

groups_apart : (k : ℕ) (ps : List Parameter) (vs : List rules.Value) (v : rules.Value) → v.parameter < k → groups_of k ps (vs ++ v ∷ []) ≡ groups_of k ps vs
groups_apart k [] vs v h = refl
groups_apart k (p ∷ ps) vs v h = rw (group_apart k vs v (λ e. omega arith), groups_apart (suc k) ps vs v (omega arith))

at_place : (k : ℕ) (ps : List Parameter) (vs : List rules.Value) (j : ℕ) (p : Parameter) → slice_get ps j ≡ Some p → slice_get (groups_of k ps vs) j ≡ Some (map element_of (group (k + j) vs))
at_place k [] vs j p e = let z : ◌≡◌ {A = ℕ} 0 1 = cc in absurd (omega arith)
at_place k (x ∷ ps) vs zero p e = let h : k ≡ k + 0 = omega arith in ap (λ (n : ℕ). Some (map element_of (group n vs))) h
at_place k (x ∷ ps) vs (suc j) p e = let h : suc k + j ≡ k + suc j = omega arith in at_place (suc k) ps vs j p e ∙ ap (λ (n : ℕ). Some (map element_of (group n vs))) h

pub group_at : (ps : List Parameter) (vs : List rules.Value) (j : ℕ) (p : Parameter) → slice_get ps j ≡ Some p → slice_get (groups_of 0 ps vs) j ≡ Some (map element_of (group j vs))
group_at ps vs j p e = at_place 0 ps vs j p e ∙ ap (λ (n : ℕ). Some (map element_of (group n vs))) (zero-add j)

set_place : (k : ℕ) (ps : List Parameter) (vs : List rules.Value) (j : ℕ) (p : Parameter) (v : rules.Value) → slice_get ps j ≡ Some p → k + j ≡ v.parameter → set (groups_of k ps vs) j (map element_of (group (k + j) vs) ++ element_of v ∷ []) ≡ groups_of k ps (vs ++ v ∷ [])
set_place k [] vs j p v e is = refl
set_place k (x ∷ ps) vs zero p v e is =
    let h : k ≡ v.parameter = omega arith in
    let a : k + 0 ≡ k = omega arith in
    let less : v.parameter < suc k = omega arith in
    rw (a, group_here k vs v h, groups_apart (suc k) ps vs v less, map_push element_of (group k vs) v)
set_place k (x ∷ ps) vs (suc j) p v e is =
    let a : k + suc j ≡ suc k + j = omega arith in
    rw (a, group_apart k vs v (λ h. omega arith))
    (ap (λ (gs : List Value). map element_of (group k vs) ∷ gs) (set_place (suc k) ps vs j p v e (sym a ∙ is)))

pub group_set : (ps : List Parameter) (vs : List rules.Value) (j : ℕ) (p : Parameter) (v : rules.Value) → slice_get ps j ≡ Some p → j ≡ v.parameter → set (groups_of 0 ps vs) j (map element_of (group j vs) ++ element_of v ∷ []) ≡ groups_of 0 ps (vs ++ v ∷ [])
group_set ps vs j p v e is =
    ap (λ (n : ℕ). set (groups_of 0 ps vs) j (map element_of (group n vs) ++ element_of v ∷ [])) (sym (zero-add j)) ∙ set_place 0 ps vs j p v e (zero-add j ∙ is)
