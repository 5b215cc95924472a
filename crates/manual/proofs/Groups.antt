-- What a reading tells of an order. Assumes nothing.
use Rattle.std.proofs.Common.{◌≡◌, ℕ, zero, suc, ◌+◌, List, [], ◌∷◌, map, drop, Some, refl, ap, ◌∙◌, subst, arith}
use Rattle.std.specs.Option.{option_map}
use Rattle.std.specs.List.{slice_get}
use Rattle.text.specs.Identifier.{Text}
use Rattle.register.specs.Meaning.{NameMeaning, ParameterMeaning, SignatureMeaning}
use Rattle.judge.specs.Meaning.{JudgeMeaning}
use Rattle.reading.specs.Reading.{Value, group, values}
use Rattle.reading.specs.Line.{Taken, Order, Reading, size, shifted_value, groups_from, order_of, orders_of, Begins, Cut}
use Rattle.manual.specs.Orders.{text_of, At, texts_of}
use Rattle.manual.specs.Groups.{Told, GroupsStand}
use Rattle.manual.proofs.Alike.{Worth, worth, worths, texts_alike}

groups_at : (j : ℕ) (ps : List ParameterMeaning) (vs : List Value) (k : ℕ) (p : ParameterMeaning) → At ps k p → slice_get (groups_from j ps vs) k ≡ Some (group (j + k) vs)
groups_at j [] vs k p a = absurd (let z : ◌≡◌ {A = ℕ} 0 1 = cc in omega arith)
groups_at j (q ∷ ps) vs zero p a = let e : j ≡ j + 0 = omega arith in ap (λ (x : ℕ). Some (group x vs)) e
groups_at j (q ∷ ps) vs (suc k) p a = let e : suc j + k ≡ j + suc k = omega arith in groups_at (suc j) ps vs k p a ∙ ap (λ (x : ℕ). Some (group x vs)) e

shifted_worths : (first : ℕ) (vs : List Value) → worths (map (shifted_value first) vs) ≡ worths vs
shifted_worths first [] = refl
shifted_worths first (v ∷ vs) = ap (λ (x : List Worth). worth v ∷ x) (shifted_worths first vs)

module _ (names : NameMeaning) (s : SignatureMeaning) (judge : JudgeMeaning) where
  order_texts : (first : ℕ) (t : Taken) (k : ℕ) (p : ParameterMeaning) → At (s.parameters t.recipe) k p → option_map (map text_of) (slice_get (order_of (s.parameters t.recipe) first t).groups k) ≡ Some (texts_of (s.parameters t.recipe) t.path t.given k)
  order_texts first t k p a =
      let ps = s.parameters t.recipe in
      let vs = values ps t.path t.given in
      let us = map (shifted_value first) vs in
      let e : 0 + k ≡ k = omega arith in
      ap (option_map (map text_of)) (groups_at 0 ps us k p a ∙ ap (λ (x : ℕ). Some (group x us)) e) ∙ ap (λ (x : List Text). Some x) (texts_alike us vs (shifted_worths first vs) k)

  told_by : (first : ℕ) {ws rest : List Text} {t : Taken} → Begins names s judge ws t rest → Told s judge (order_of (s.parameters t.recipe) first t)
  told_by first {ws} {rest} {t} b = record { taken = t; words = drop t.path ws; rest = rest; recipe = refl; lawful = b.lawful; texts = order_texts first t }

  told_at : {ws : List Text} {ts : List Taken} → Cut names s judge ws ts → (first i : ℕ) (order : Order) → slice_get (orders_of s first ts) i ≡ Some order → Told s judge order
  told_at (Cut.last {t = t} b) first zero order e = let q : order_of (s.parameters t.recipe) first t ≡ order = cc in subst (Told s judge) q (told_by first b)
  told_at (Cut.last b) first (suc i) order e = absurd (let z : ◌≡◌ {A = ℕ} 0 1 = cc in omega arith)
  told_at (Cut.then {t = t} b c) first zero order e = let q : order_of (s.parameters t.recipe) first t ≡ order = cc in subst (Told s judge) q (told_by first b)
  told_at (Cut.then {t = t} b c) first (suc i) order e = told_at c (first + size t) i order e

pub groups_stand : GroupsStand
groups_stand = record { each_order_lawful = λ names s judge words reading l i order e. told_at names s judge l.cut 0 i order (ap (λ (x : Reading). slice_get x.orders i) l.told ∙ e) }
