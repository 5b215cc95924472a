-- The shift of word numbers. Assumes nothing.
use Rattle.std.proofs.Common.{◌≡◌, ℕ, suc, ◌+◌, eqb, List, [], ◌∷◌, map, sym, refl, ap, ◌∙◌, subst, add_assoc}
use Rattle.refusal.specs.declared.Refusal.{Refusal}
use Rattle.refusal.specs.declared.Refusal.TheVariants.{DefaultRecipeRequiresArguments}
use Rattle.refusal.specs.Shift.{shifted_by}
use Rattle.refusal.proofs.Moves.{shift_twice}
use Rattle.text.specs.Identifier.{Text}
use Rattle.register.specs.Meaning.{NameMeaning, SignatureMeaning, ParameterMeaning}
use Rattle.judge.specs.Meaning.{JudgeMeaning}
use Rattle.reading.specs.Signature.{required_count}
use Rattle.reading.specs.Reading.{Value, group, values}
use Rattle.reading.specs.Line.{Taken, Order, size, shifted_value, groups_from, order_of, orders_of, FaultFrom}
use Rattle.reading.specs.Shifts.{shifted_order, ReadingsShift}
use Rattle.reading.proofs.Runs.{split}

value_twice : (a b : ℕ) (v : Value) → shifted_value (a + b) v ≡ shifted_value a (shifted_value b v)
value_twice a b v = ap (λ (x : ℕ). record { parameter = v.parameter; text = v.text; word = x }) (add_assoc a b v.word)

values_twice : (a b : ℕ) (vs : List Value) → map (shifted_value (a + b)) vs ≡ map (shifted_value a) (map (shifted_value b) vs)
values_twice a b [] = refl
values_twice a b (v ∷ vs) = ap (λ (x : Value). x ∷ map (shifted_value (a + b)) vs) (value_twice a b v) ∙ ap (λ (xs : List Value). shifted_value a (shifted_value b v) ∷ xs) (values_twice a b vs)

group_shifted : (a k : ℕ) (vs : List Value) → group k (map (shifted_value a) vs) ≡ map (shifted_value a) (group k vs)
group_shifted a k [] = refl
group_shifted a k (v ∷ vs) =
    split (eqb k v.parameter)
    (λ e. rw e (ap (λ (xs : List Value). shifted_value a v ∷ xs) (group_shifted a k vs)))
    (λ e. rw e (group_shifted a k vs))

groups_shifted : (a k : ℕ) (ps : List ParameterMeaning) (vs : List Value) → groups_from k ps (map (shifted_value a) vs) ≡ map (map (shifted_value a)) (groups_from k ps vs)
groups_shifted a k [] vs = refl
groups_shifted a k (p ∷ ps) vs =
    ap (λ (g : List Value). g ∷ groups_from (suc k) ps (map (shifted_value a) vs)) (group_shifted a k vs) ∙ ap (λ (gs : List (List Value)). map (shifted_value a) (group k vs) ∷ gs) (groups_shifted a (suc k) ps vs)

order_shifted : (ps : List ParameterMeaning) (a first : ℕ) (t : Taken) → order_of ps (a + first) t ≡ shifted_order a (order_of ps first t)
order_shifted ps a first t =
    let vs = values ps t.path t.given in
    ap (λ (gs : List (List Value)). record { recipe = t.recipe; first = a + first; words = size t; groups = gs }) (ap (groups_from 0 ps) (values_twice a first vs) ∙ groups_shifted a 0 ps (map (shifted_value first) vs))

orders_shifted : (s : SignatureMeaning) (a first : ℕ) (ts : List Taken) → orders_of s (a + first) ts ≡ map (shifted_order a) (orders_of s first ts)
orders_shifted s a first [] = refl
orders_shifted s a first (t ∷ ts) =
    ap (λ (o : Order). o ∷ orders_of s ((a + first) + size t) ts) (order_shifted (s.parameters t.recipe) a first t)
    ∙ ap (λ (n : ℕ). shifted_order a (order_of (s.parameters t.recipe) first t) ∷ orders_of s n ts) (add_assoc a first (size t))
    ∙ ap (λ (os : List Order). shifted_order a (order_of (s.parameters t.recipe) first t) ∷ os) (orders_shifted s a (first + size t) ts)

module _ (names : NameMeaning) (s : SignatureMeaning) (judge : JudgeMeaning) (a : ℕ) where
  fault_shifted : {first : ℕ} {ws : List Text} {f : Refusal} → FaultFrom names s judge first ws f → FaultFrom names s judge (a + first) ws (shifted_by a f)
  fault_shifted (FaultFrom.path {first} {ws} {f} p) = subst (FaultFrom names s judge (a + first) ws) (sym (shift_twice a first f)) (FaultFrom.path p)
  fault_shifted (FaultFrom.demanding {first} {ws} {found} p d r) = subst (FaultFrom names s judge (a + first) ws) (sym (shift_twice a first (DefaultRecipeRequiresArguments 0 (required_count (s.parameters found.recipe))))) (FaultFrom.demanding p d r)
  fault_shifted (FaultFrom.order {first} {ws} {f = f} p u b) = subst (FaultFrom names s judge (a + first) ws) (sym (shift_twice a first f)) (FaultFrom.order p u b)
  fault_shifted (FaultFrom.later {first} {ws} {rest} {w} {t} {f} b c) = FaultFrom.later b (subst (λ (n : ℕ). FaultFrom names s judge n (w ∷ rest) (shifted_by a f)) (sym (add_assoc a first (size t))) (fault_shifted c))

pub readings_shift : ReadingsShift
readings_shift = record { orders = orders_shifted; faults = λ names s judge a first ws f h. fault_shifted names s judge a h }
