-- How many roles, orders and values a reading has. Assumes nothing.
use Rattle.std.proofs.Common.{◌≡◌, ℕ, zero, suc, ◌+◌, ◌-◌, ◌*◌, ◌<◌, ◌≤◌, max, Bool, true, false, eqb, List, [], ◌∷◌, ◌++◌, map, length, drop, Some, None, Option, refl, ap, subst, arith, length-append}
use Rattle.std.specs.Str.{continuation_len, lead_bits}
use Rattle.std.proofs.lemmas.List.{length-drop, length-map}
use Rattle.std.proofs.lemmas.Bool.{eqb-true, ne_eqb}
use Rattle.text.specs.Identifier.{Text}
use Rattle.text.specs.Line.{closed, Within}
use Rattle.register.specs.Meaning.{NameMeaning, SignatureMeaning, ParameterMeaning}
use Rattle.judge.specs.Meaning.{JudgeMeaning}
use Rattle.path.proofs.Follows.{lawful_takes}
use Rattle.reading.specs.Letters.{letters_from, letters}
use Rattle.reading.specs.Signature.{takes_true}
use Rattle.reading.specs.Switches.{Switch, Called, called, two_dashes, tail, undashed, up_to_equals, name, attached, spelled, switches}
use Rattle.reading.specs.Reading.{Given, Value, Waiting, group, reached, words_of, roles_of, attached_to, switch_gives, run_gives, value_for, role_gives, wants, values}
use Rattle.reading.specs.Reading.Waiting.{Nobody, For}
use Rattle.reading.specs.Line.{Taken, Reading, size, shifted_value, groups_from, order_of, orders_of, repeated, all_roles, Begins, Cut, Lawful}
use Rattle.reading.specs.Stands.{groups_total, values_total, ReadingsFit}
use Rattle.reading.specs.declared.role.Role.{Role}
use Rattle.reading.specs.declared.role.Role.TheVariants.{PathWord, SwitchWord, SwitchValue, EndMark, PlainWord}
use Rattle.reading.proofs.Runs.{split}
use Rattle.reading.proofs.Lines.{shorter}

-- Words.

reached_is : (n : ℕ) (gs : List Given) → reached n gs ≡ n + length gs
reached_is n [] = omega arith
reached_is n (g ∷ gs) = let h = reached_is n gs in omega arith

words_many : (gs : List Given) → length (words_of gs) ≡ length gs
words_many [] = refl
words_many (g ∷ gs) = let h = words_many gs in omega (arith, length-append (words_of gs) (g.word ∷ []))

roles_many : (gs : List Given) → length (roles_of gs) ≡ length gs
roles_many [] = refl
roles_many (g ∷ gs) = let h = roles_many gs in omega (arith, length-append (roles_of gs) (g.role ∷ []))

pub repeated_many : (n : ℕ) (r : Role) → length (repeated n r) ≡ n
repeated_many zero r = refl
repeated_many (suc n) r = let h = repeated_many n r in omega arith

-- Letters and switches of a word.

letters_from_few : (n c : ℕ) (t : Text) → length (letters_from n c t) ≤ suc (length t)
letters_from_few zero c [] = omega arith
letters_from_few (suc n) c [] = omega arith
letters_from_few zero c (b ∷ t) = let h = letters_from_few (continuation_len b) (lead_bits b) t in omega arith
letters_from_few (suc n) c (b ∷ t) = let h = letters_from_few n (c * 64 + (b - 128)) t in omega arith

pub letters_few : (t : Text) → length (letters t) ≤ length t
letters_few [] = omega arith
letters_few (b ∷ t) = letters_from_few (continuation_len b) (lead_bits b) t

tail_few : (t : Text) → length (tail t) ≤ length t
tail_few [] = omega arith
tail_few (b ∷ t) = omega arith

undashed_few : (w : Text) → length (undashed w) ≤ length w
undashed_few w =
    split (two_dashes w)
    (λ e. rw e (let a = tail_few w in let b = tail_few (tail w) in omega arith))
    (λ e. rw e (tail_few w))

up_to_few : (t : Text) → length (up_to_equals t) ≤ length t
up_to_few [] = omega arith
up_to_few (b ∷ t) = split (eqb b 61) (λ e. rw e (omega arith)) (λ e. rw e (let h = up_to_few t in omega arith))

name_few : (w : Text) → length (name w) ≤ length w
name_few w = let a = up_to_few (undashed w) in let b = undashed_few w in omega arith

spelled_few : (two : Bool) (t : Text) → length (spelled two t) ≤ suc (length t)
spelled_few true t = omega arith
spelled_few false t = let h = letters_few t in omega (arith, length-map (letters t) Switch.Letter)

pub switches_few : (w : Text) → length (switches w) ≤ suc (length w)
switches_few w = let h = spelled_few (two_dashes w) (name w) in let k = name_few w in omega arith

-- Values.

attached_few : (at : ℕ) (c : Called) (behind : Option Text) → length (attached_to at c behind) ≤ 1
attached_few at c None = omega arith
attached_few at c (Some v) = omega arith

switch_gives_few : (at : ℕ) (behind : Option Text) (o : Option Called) → length (switch_gives at behind o) ≤ 1
switch_gives_few at behind None = omega arith
switch_gives_few at behind (Some c) = split (takes_true c.parameter) (λ t. rw t (omega arith)) (λ t. rw t (attached_few at c behind))

run_gives_few : (ps : List ParameterMeaning) (at : ℕ) (behind : Option Text) (ss : List Switch) → length (run_gives ps at behind ss) ≤ length ss
run_gives_few ps at behind [] = omega arith
run_gives_few ps at behind (s ∷ ss) =
    let h = run_gives_few ps at behind ss in
    let k = switch_gives_few at behind (called ps s) in
    omega (arith, length-append (switch_gives at behind (called ps s)) (run_gives ps at behind ss))

value_for_few : (at : ℕ) (w : Text) (who : Waiting) → length (value_for at w who) ≤ 1
value_for_few at w Nobody = omega arith
value_for_few at w (For c from j) = omega arith

role_gives_few : (ps : List ParameterMeaning) (at : ℕ) (who : Waiting) (w : Text) (r : Role) → length (role_gives ps at who w r) ≤ suc (length w)
role_gives_few ps at who w PathWord = omega arith
role_gives_few ps at who w SwitchWord = let h = run_gives_few ps at (attached w) (switches w) in let k = switches_few w in omega arith
role_gives_few ps at who w SwitchValue = let h = value_for_few at w who in omega arith
role_gives_few ps at who w EndMark = omega arith
role_gives_few ps at who w (PlainWord k) = omega arith

closed-append : (xs bs : List Text) → length (closed (xs ++ bs)) ≡ length (closed xs) + length (closed bs)
closed-append [] bs = omega arith
closed-append (w ∷ xs) bs =
    let h = closed-append xs bs in
    omega (arith, length-append w (0 ∷ closed (xs ++ bs)), length-append w (0 ∷ closed xs))

closed_one : (w : Text) → length (closed (w ∷ [])) ≡ suc (length w)
closed_one w = omega (arith, length-append w (0 ∷ []))

-- the words of an order give no more values than they have bytes, each with its closing zero
pub values_few : (ps : List ParameterMeaning) (n : ℕ) (gs : List Given) → length (values ps n gs) ≤ length (closed (words_of gs))
values_few ps n [] = omega arith
values_few ps n (g ∷ gs) =
    let h = values_few ps n gs in
    let k = role_gives_few ps (reached n gs) (wants ps n gs) g.word g.role in
    let a = length-append (values ps n gs) (role_gives ps (reached n gs) (wants ps n gs) g.word g.role) in
    let b = closed-append (words_of gs) (g.word ∷ []) in
    let c = closed_one g.word in
    omega arith

closed-drop : (n : ℕ) (ws : List Text) → length (closed (drop n ws)) ≤ length (closed ws)
closed-drop zero ws = omega arith
closed-drop (suc n) [] = omega arith
closed-drop (suc n) (w ∷ ws) = let h = closed-drop n ws in omega (arith, length-append w (0 ∷ closed ws))

-- Groups: each value stands in one group at most.

group_past : (k : ℕ) (ps : List ParameterMeaning) (v : Value) (vs : List Value) → v.parameter < k → groups_total (groups_from k ps (v ∷ vs)) ≡ groups_total (groups_from k ps vs)
group_past k [] v vs h = refl
group_past k (p ∷ ps) v vs h = rw (ne_eqb k v.parameter (λ e. omega arith)) (ap (λ (x : ℕ). length (group k vs) + x) (group_past (suc k) ps v vs (omega arith)))

one_more : (k : ℕ) (ps : List ParameterMeaning) (v : Value) (vs : List Value) → groups_total (groups_from k ps (v ∷ vs)) ≤ suc (groups_total (groups_from k ps vs))
one_more k [] v vs = omega arith
one_more k (p ∷ ps) v vs =
    split (eqb k v.parameter)
    (λ e. let i = eqb-true k v.parameter e in rw e (let h = group_past (suc k) ps v vs (omega arith) in omega arith))
    (λ e. rw e (let h = one_more (suc k) ps v vs in omega arith))

no_values : (k : ℕ) (ps : List ParameterMeaning) → groups_total (groups_from k ps []) ≡ 0
no_values k [] = refl
no_values k (p ∷ ps) = let h = no_values (suc k) ps in omega arith

groups_few : (ps : List ParameterMeaning) (vs : List Value) → groups_total (groups_from 0 ps vs) ≤ length vs
groups_few ps [] = let h = no_values 0 ps in omega arith
groups_few ps (v ∷ vs) = let h = one_more 0 ps v vs in let k = groups_few ps vs in omega arith

order_few : (ps : List ParameterMeaning) (first : ℕ) (t : Taken) → groups_total (order_of ps first t).groups ≤ length (closed (words_of t.given))
order_few ps first t =
    let vs = values ps t.path t.given in
    let h = groups_few ps (map (shifted_value first) vs) in
    let k = values_few ps t.path t.given in
    omega (arith, length-map vs (shifted_value first))

-- Lines.

module _ (names : NameMeaning) (s : SignatureMeaning) (judge : JudgeMeaning) where
  begins_size : (ws rest : List Text) (t : Taken) → Begins names s judge ws t rest → size t + length rest ≡ length ws
  begins_size ws rest t b =
      let few = lawful_takes names ws (record { recipe = t.recipe; words = t.path; default = b.default }) b.path in
      let p = few.most in
      let e = ap length b.lawful.cut in
      let a = length-append (words_of t.given) rest in
      let m = words_many t.given in
      let d = length-drop t.path ws in
      let r = reached_is t.path t.given in
      omega arith

  begins_bytes : (ws rest : List Text) (t : Taken) → Begins names s judge ws t rest → length (closed (words_of t.given)) + length (closed rest) ≤ length (closed ws)
  begins_bytes ws rest t b =
      let e = ap (λ (x : List Text). length (closed x)) b.lawful.cut in
      let a = closed-append (words_of t.given) rest in
      let d = closed-drop t.path ws in
      omega arith

  taken_roles : (t : Taken) → length (repeated t.path PathWord ++ roles_of t.given) ≡ size t
  taken_roles t =
      let r = reached_is t.path t.given in
      let m = roles_many t.given in
      let q = repeated_many t.path PathWord in
      omega (arith, length-append (repeated t.path PathWord) (roles_of t.given))

  cut_roles : {ws : List Text} {ts : List Taken} → Cut names s judge ws ts → length (all_roles ts) ≡ length ws
  cut_roles (Cut.last {ws} {t} b) =
      let h = begins_size ws [] t b in
      let k = taken_roles t in
      omega (arith, length-append (repeated t.path PathWord ++ roles_of t.given) [])
  cut_roles (Cut.then {ws} {rest} {w} {t} {ts} b c) =
      let h = begins_size ws (w ∷ rest) t b in
      let k = taken_roles t in
      let i = cut_roles c in
      omega (arith, length-append (repeated t.path PathWord ++ roles_of t.given) (all_roles ts))

  cut_orders : {ws : List Text} {ts : List Taken} → Cut names s judge ws ts → length ts ≤ max 1 (length ws)
  cut_orders (Cut.last {ws} {t} b) = omega arith
  cut_orders (Cut.then {ws} {rest} {w} {t} {ts} b c) =
      let h = shorter names s judge ws rest w t b in
      let i = cut_orders c in
      omega arith

  cut_values : {ws : List Text} {ts : List Taken} → Cut names s judge ws ts → (first : ℕ) → values_total (orders_of s first ts) ≤ length (closed ws)
  cut_values (Cut.last {ws} {t} b) first =
      let h = begins_bytes ws [] t b in
      let k = order_few (s.parameters t.recipe) first t in
      omega arith
  cut_values (Cut.then {ws} {rest} {w} {t} {ts} b c) first =
      let h = begins_bytes ws (w ∷ rest) t b in
      let k = order_few (s.parameters t.recipe) first t in
      let i = cut_values c (first + size t) in
      omega arith

  orders_many : (first : ℕ) (ts : List Taken) → length (orders_of s first ts) ≡ length ts
  orders_many first [] = refl
  orders_many first (t ∷ ts) = let h = orders_many (first + size t) ts in omega arith

  lawful_roles : (ws : List Text) (r : Reading) → Lawful names s judge ws r → length r.roles ≡ length ws
  lawful_roles ws r l = subst (λ (x : Reading). length x.roles ≡ length ws) l.told (cut_roles l.cut)

  lawful_orders : (ws : List Text) (r : Reading) → Lawful names s judge ws r → length r.orders ≤ max 1 (length ws)
  lawful_orders ws r l = subst (λ (x : Reading). length x.orders ≤ max 1 (length ws)) l.told (let h = cut_orders l.cut in let k = orders_many 0 l.orders in omega arith)

  lawful_values : (ws : List Text) (r : Reading) → Lawful names s judge ws r → values_total r.orders ≤ length (closed ws)
  lawful_values ws r l = subst (λ (x : Reading). values_total x.orders ≤ length (closed ws)) l.told (cut_values l.cut 0)

  lawful_within : (line : List ℕ) (ws : List Text) (r : Reading) → Within line ws → Lawful names s judge ws r → (length r.orders ≤ 128) × (values_total r.orders ≤ 1024)
  lawful_within line ws r i l =
      let a = lawful_orders ws r l in
      let b = lawful_values ws r l in
      let c = i.few in
      let d = i.short in
      let e = ap length i.cut.whole in
      (omega arith, omega arith)

pub readings_fit : ReadingsFit
readings_fit = record { roles = lawful_roles; orders = lawful_orders; values = lawful_values; within_limits = lawful_within }
