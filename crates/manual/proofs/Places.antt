-- Words and parameters of an order by their places. Assumes nothing.
use Rattle.std.proofs.Common.{◌≡◌, ℕ, zero, suc, ◌+◌, ◌≤◌, Bool, true, false, eqb, List, [], ◌∷◌, ◌++◌, map, is_some, Some, None, Option, sym, refl, ap, ◌∙◌, subst, append_assoc, append-nil, arith}
use mathlib.Core.List.{map-append}
use Rattle.std.specs.Option.{option_map}
use Rattle.std.specs.List.{slice_get}
use Rattle.std.proofs.lemmas.Bool.{eq-eqb, ne_eqb}
use Rattle.text.specs.Identifier.{Text}
use Rattle.register.specs.Meaning.{ParameterMeaning}
use Rattle.register.specs.Parameters.{place_of, has_long_name, has_letter_code, is_text, is_code}
use Rattle.register.proofs.Places.{place_found}
use Rattle.reading.specs.Signature.{Takes, Each, is_option, takes_true}
use Rattle.reading.specs.Switches.{Switch, Called, called, called_at, place_by, attached, switches}
use Rattle.reading.specs.Reading.{Given, Value, group, reached, wants, waits_for, last_wants, unless_attached, wanted_by, role_gives, values, plains, one_more_plain, Fits, Roles}
use Rattle.reading.specs.Reading.Waiting.{For}
use Rattle.reading.proofs.Runs.{split, clash}
use Rattle.reading.specs.declared.role.Role.{Role}
use Rattle.reading.specs.declared.role.Role.TheVariants.{PathWord, SwitchWord, SwitchValue, EndMark, PlainWord}
use Rattle.manual.specs.Orders.{text_of, texts_of, At}
use Rattle.manual.specs.Arguments.{GoesTo}

-- a word of an order fits behind the words before it
pub fits_at : (ps : List ParameterMeaning) (n : ℕ) (after before : List Given) (w : Text) (r : Role) → Roles ps n (after ++ (record { word = w; role = r } ∷ before)) → Roles ps n before × Fits ps n before w r
fits_at ps n [] before w r (Roles.more rs f) = (rs, f)
fits_at ps n (g ∷ after) before w r (Roles.more rs f) = fits_at ps n after before w r rs

pub plain_takes : {ps : List ParameterMeaning} {n k : ℕ} {before : List Given} {w : Text} → Fits ps n before w (PlainWord k) → Takes ps (plains before) k
plain_takes (Fits.plain e no! t) = t

-- Plain words and parameters.

pub goes_to : {ps : List ParameterMeaning} {i k : ℕ} → Takes ps i k → GoesTo ps i k
goes_to (Takes.pass {p} {ps} {n} {k} e t) =
    let g = goes_to t in
    record { parameter = g.parameter; there = g.there; no_option = g.no_option; most = rw e g.most; singular = λ s. rw e (g.singular s) }
goes_to (Takes.first {p} e) = record { parameter = p; there = refl; no_option = e; most = omega arith; singular = λ s. refl }
goes_to (Takes.further {p} e m) = record { parameter = p; there = refl; no_option = e; most = omega arith; singular = λ s. absurd (let z : ◌≡◌ {A = ℕ} 0 1 = cc in omega arith) }
goes_to (Takes.next {p} {ps} {n} {k} e m t) =
    let g = goes_to t in
    record { parameter = g.parameter; there = g.there; no_option = g.no_option; most = rw e (let h = g.most in omega arith); singular = λ s. rw e (ap suc (g.singular s)) }

-- a rule of each parameter holds at each place
pub each_at : (rule : ℕ → ParameterMeaning → Type 0) (start : ℕ) (ps : List ParameterMeaning) (k : ℕ) (p : ParameterMeaning) → Each rule start ps → At ps k p → rule (start + k) p
each_at rule start [] k p e a = absurd (let z : ◌≡◌ {A = ℕ} 0 1 = cc in omega arith)
each_at rule start (q ∷ ps) zero p e a = let i : q ≡ p = cc in let j : start ≡ start + 0 = omega arith in subst (λ x. rule x p) j (subst (rule start) i e.0)
each_at rule start (q ∷ ps) (suc k) p e a = let j : suc start + k ≡ start + suc k = omega arith in subst (λ x. rule x p) j (each_at rule (suc start) ps k p e.1 a)

-- Groups of values.

group_append_by : (k : ℕ) (v : Value) (vs us : List Value) (b : Bool) → eqb k v.parameter ≡ b → group k (vs ++ us) ≡ group k vs ++ group k us → group k ((v ∷ vs) ++ us) ≡ group k (v ∷ vs) ++ group k us
group_append_by k v vs us true e h = rw e (ap (λ (x : List Value). v ∷ x) h)
group_append_by k v vs us false e h = rw e h

pub group-append : (k : ℕ) (vs us : List Value) → group k (vs ++ us) ≡ group k vs ++ group k us
group-append k [] us = refl
group-append k (v ∷ vs) us = group_append_by k v vs us (eqb k v.parameter) refl (group-append k vs us)

pub group_same : (k : ℕ) (v : Value) → v.parameter ≡ k → group k (v ∷ []) ≡ v ∷ []
group_same k v e = rw (eq-eqb k v.parameter (sym e))

pub group_other : (k : ℕ) (v : Value) → (k ≡ v.parameter → ⊥) → group k (v ∷ []) ≡ []
group_other k v n = rw (ne_eqb k v.parameter n)

-- further words add values behind those that stand
pub values_grow : (ps : List ParameterMeaning) (n : ℕ) (after base : List Given) → (more : List Value) × (values ps n (after ++ base) ≡ values ps n base ++ more)
values_grow ps n [] base = ([], sym (append-nil (values ps n base)))
values_grow ps n (g ∷ after) base =
    let h = values_grow ps n after base in
    let new = role_gives ps (reached n (after ++ base)) (wants ps n (after ++ base)) g.word g.role in
    (h.0 ++ new, ap (λ (x : List Value). x ++ new) h.1 ∙ append_assoc (values ps n base) h.0 new)

-- a word that gives one value adds its text to its parameter's group, behind those given before it
pub one_in_group : (ps : List ParameterMeaning) (n : ℕ) (after base : List Given) (vs : List Value) (one : Value) → values ps n base ≡ vs ++ (one ∷ []) → (more : List Text) × (texts_of ps n (after ++ base) one.parameter ≡ map text_of (group one.parameter vs) ++ (one.text ∷ more))
one_in_group ps n after base vs one e =
    let k = one.parameter in
    let g = values_grow ps n after base in
    let q : group k (values ps n (after ++ base)) ≡ group k vs ++ (one ∷ group k g.0) =
    ap (group k) g.1 ∙ group-append k (values ps n base) g.0
    ∙ ap (λ (x : List Value). group k x ++ group k g.0) e
    ∙ ap (λ (x : List Value). x ++ group k g.0) (group-append k vs (one ∷ []) ∙ ap (λ (x : List Value). group k vs ++ x) (group_same k one refl))
    ∙ append_assoc (group k vs) (one ∷ []) (group k g.0) in
    (map text_of (group k g.0), ap (map text_of) q ∙ map-append text_of (group k vs) (one ∷ group k g.0))

plains_by : (r : Role) (i : ℕ) → i ≤ one_more_plain r i
plains_by PathWord i = omega arith
plains_by SwitchWord i = omega arith
plains_by SwitchValue i = omega arith
plains_by EndMark i = omega arith
plains_by (PlainWord k) i = omega arith

pub plains_grow : (after base : List Given) → plains base ≤ plains (after ++ base)
plains_grow [] base = omega arith
plains_grow (g ∷ after) base = let h = plains_grow after base in let k = plains_by g.role (plains (after ++ base)) in omega arith

-- Parameters that switches call.

-- the parameter at a place that was found by a test passes it
found_at : (test : ParameterMeaning → Bool) (ps : List ParameterMeaning) (k : ℕ) (p : ParameterMeaning) → place_of test ps ≡ Some k → At ps k p → test p ≡ true
found_at test ps k p f a = let h = place_found test ps k f in let e : option_map test (slice_get ps k) ≡ Some (test p) = ap (option_map test) a in let i : Some true ≡ Some (test p) = sym h ∙ e in cc

has_long_lem : (t : Text) (p : ParameterMeaning) (o : Option Text) → p.long ≡ o → is_text t o ≡ true → is_option p ≡ true
has_long_lem t p None e h = absurd (clash (sym h))
has_long_lem t p (Some s) e h = rw e

has_letter_lem : (c : ℕ) (p : ParameterMeaning) (o : Option ℕ) → p.letter ≡ o → is_code c o ≡ true → is_option p ≡ true
has_letter_lem c p None e h = absurd (clash (sym h))
has_letter_lem c p (Some d) e h = rw e (split (is_some p.long) (λ t. rw t) (λ f. rw f))

place_option : (ps : List ParameterMeaning) (s : Switch) (k : ℕ) (p : ParameterMeaning) → place_by ps s ≡ Some k → At ps k p → is_option p ≡ true
place_option ps (Switch.Long t) k p f a = has_long_lem t p p.long refl (found_at (has_long_name t) ps k p f a)
place_option ps (Switch.Letter c) k p f a = has_letter_lem c p p.letter refl (found_at (has_letter_code c) ps k p f a)

-- what a switch calls is an option, at its place
pub record IsCalled (ps : List ParameterMeaning) (c : Called) : Type 0 where
  pub there : At ps c.place c.parameter
  pub option : is_option c.parameter ≡ true

called_by : (ps : List ParameterMeaning) (s : Switch) (c : Called) (k : ℕ) (q : Option ParameterMeaning) → place_by ps s ≡ Some k → slice_get ps k ≡ q → option_map (λ p. record { place = k; parameter = p }) q ≡ Some c → IsCalled ps c
called_by ps s c k None f a e = absurd (let z : ◌≡◌ {A = ℕ} 0 1 = cc in omega arith)
called_by ps s c k (Some p) f a e =
    let i : record { place = k; parameter = p } ≡ c = cc in
    subst (IsCalled ps) i (record { there = a; option = place_option ps s k p f a })

called_from : (ps : List ParameterMeaning) (s : Switch) (c : Called) (o : Option ℕ) → place_by ps s ≡ o → called_at ps o ≡ Some c → IsCalled ps c
called_from ps s c None f e = absurd (let z : ◌≡◌ {A = ℕ} 0 1 = cc in omega arith)
called_from ps s c (Some k) f e = called_by ps s c k (slice_get ps k) f refl e

pub is_called : (ps : List ParameterMeaning) (s : Switch) (c : Called) → called ps s ≡ Some c → IsCalled ps c
is_called ps s c e = called_from ps s c (place_by ps s) refl e

-- who waits was called, and takes a text
pub record IsWaiting (ps : List ParameterMeaning) (c : Called) : Type 0 where
  pub is_called : IsCalled ps c
  pub takes_text : takes_true c.parameter ≡ false

waits_called : (ps : List ParameterMeaning) (at j : ℕ) (s : Switch) (o : Option Called) → called ps s ≡ o → (c : Called) (a b : ℕ) → waits_for at j o ≡ For c a b → IsWaiting ps c
waits_called ps at j s None k c a b e = absurd (let z : ◌≡◌ {A = ℕ} 0 1 = cc in omega arith)
waits_called ps at j s (Some d) k c a b e =
    split (takes_true d.parameter)
    (λ t. absurd (let h = rw t at e in let z : ◌≡◌ {A = ℕ} 0 1 = cc in omega arith))
    (λ t. let h = rw t at e in let i : d ≡ c = cc in subst (IsWaiting ps) i (record { is_called = is_called ps s d k; takes_text = t }))

last_called : (ps : List ParameterMeaning) (at j : ℕ) (ss : List Switch) (c : Called) (a b : ℕ) → last_wants ps at j ss ≡ For c a b → IsWaiting ps c
last_called ps at j [] c a b e = absurd (let z : ◌≡◌ {A = ℕ} 0 1 = cc in omega arith)
last_called ps at j (s ∷ []) c a b e = waits_called ps at j s (called ps s) refl c a b e
last_called ps at j (s ∷ r ∷ ss) c a b e = last_called ps at (suc j) (r ∷ ss) c a b e

attached_called : (ps : List ParameterMeaning) (behind : Option Text) (at : ℕ) (ss : List Switch) (c : Called) (a b : ℕ) → unless_attached behind (last_wants ps at 0 ss) ≡ For c a b → IsWaiting ps c
attached_called ps None at ss c a b e = last_called ps at 0 ss c a b e
attached_called ps (Some v) at ss c a b e = absurd (let z : ◌≡◌ {A = ℕ} 0 1 = cc in omega arith)

wanted_called : (ps : List ParameterMeaning) (at : ℕ) (w : Text) (r : Role) (c : Called) (a b : ℕ) → wanted_by ps at w r ≡ For c a b → IsWaiting ps c
wanted_called ps at w PathWord c a b e = absurd (let z : ◌≡◌ {A = ℕ} 0 1 = cc in omega arith)
wanted_called ps at w SwitchWord c a b e = attached_called ps (attached w) at (switches w) c a b e
wanted_called ps at w SwitchValue c a b e = absurd (let z : ◌≡◌ {A = ℕ} 0 1 = cc in omega arith)
wanted_called ps at w EndMark c a b e = absurd (let z : ◌≡◌ {A = ℕ} 0 1 = cc in omega arith)
wanted_called ps at w (PlainWord k) c a b e = absurd (let z : ◌≡◌ {A = ℕ} 0 1 = cc in omega arith)

pub wants_called : (ps : List ParameterMeaning) (n : ℕ) (gs : List Given) (c : Called) (a b : ℕ) → wants ps n gs ≡ For c a b → IsWaiting ps c
wants_called ps n [] c a b e = absurd (let z : ◌≡◌ {A = ℕ} 0 1 = cc in omega arith)
wants_called ps n (g ∷ gs) c a b e = wanted_called ps (reached n gs) g.word g.role c a b e

-- one parameter at a place
pub same_at : (ps : List ParameterMeaning) (k : ℕ) (p q : ParameterMeaning) → At ps k p → At ps k q → p ≡ q
same_at ps k p q a b = cc
