-- What a taker is told, and the reading that it comes to. Assumes nothing.
use Rattle.std.specs.Prelude.{◌≡◌, ℕ, ◌+◌, ◌≤◌, Bool, true, List, [], ◌∷◌, ◌++◌, map, length, drop, Ok, Err, Result}
use Rattle.refusal.specs.declared.Refusal.{Refusal}
use Rattle.text.specs.Line.{closed}
use Rattle.text.specs.Spans.{texts_at}
use Rattle.text.specs.declared.span.Span.{Span}
use Rattle.register.specs.Meaning.{SignatureMeaning}
use Rattle.reading.specs.Line.{Order, Reading, shifted_value, groups_from, repeated}
use Rattle.reading.specs.declared.role.Role.{Role}
use Rattle.reading.specs.declared.role.Role.TheVariants.{PathWord}
use Rattle.reader.specs.Meaning.{value_of}
use Rattle.reader.specs.declared.source.ValueRow.{ValueRow}
use Rattle.reader.specs.declared.read_order.ReadOrder.{ReadOrder}

pub record ToldOrder : Type 0 where
  pub recipe : ℕ
  pub first : ℕ
  pub path : ℕ
  pub words : ℕ
  pub roles : List Role
  pub values : List ValueRow

-- an order that was read, as it is told
abbrev pub as_told : ReadOrder → ToldOrder
as_told o = record { recipe = o.recipe; first = o.first; path = o.path; words = o.words; roles = o.roles.now; values = o.values.now }

abbrev pub order_told : SignatureMeaning → List ℕ → ToldOrder → Order
order_told s bytes o = record {
  recipe = o.recipe;
  first = o.first;
  words = o.words;
  groups = groups_from 0 (s.parameters o.recipe) (map (shifted_value o.first) (map (value_of bytes) o.values));
}

abbrev pub roles_told : ToldOrder → List Role
roles_told o = repeated o.path PathWord ++ o.roles

abbrev pub all_roles_told : List ToldOrder → List Role
all_roles_told [] = []
all_roles_told (o ∷ os) = roles_told o ++ all_roles_told os

abbrev pub reading_told : SignatureMeaning → List ℕ → List ToldOrder → Reading
reading_told s bytes os = record { orders = map (order_told s bytes) os; roles = all_roles_told os }

-- how many values were told
abbrev pub values_told : List ToldOrder → ℕ
values_told [] = 0
values_told (o ∷ os) = length o.values + values_told os

-- no more than lines within the limits have
pub record Fits (os : List ToldOrder) : Type 0 where
  pub orders : length os ≤ 128
  pub words : length (all_roles_told os) ≤ 128
  pub values : values_told os ≤ 1024

-- with this order, what was told fits
abbrev pub HasRoom : (List ℕ → List ToldOrder → Type 0) → ToldOrder → Type 0
HasRoom told o = (bytes : List ℕ) × ((os : List ToldOrder) × told bytes os × Fits (os ++ o ∷ []))

-- a taker takes an order behind those that it was told, or refuses by itself
abbrev pub Took : {U : Type 0} → (Refusal → Bool) → (List ℕ → List ToldOrder → Type 0) → (List ℕ → List ToldOrder → Type 0) → ToldOrder → Result U Refusal → Type 0
Took refuses before after o (Ok u) = (bytes : List ℕ) (os : List ToldOrder) → before bytes os → after bytes (os ++ o ∷ [])
Took refuses before after o (Err f) = refuses f ≡ true

-- the orders up to word `first` were told: no more orders than words, a role for each word, and no more values than these words have bytes
pub record UpTo (bytes : List ℕ) (words : List Span) (first : ℕ) (os : List ToldOrder) : Type 0 where
  pub orders : length os ≤ first
  pub roles : length (all_roles_told os) ≡ first
  pub values : values_told os + length (closed (texts_at bytes (drop first words))) ≤ 1024

abbrev pub Begun : (List ℕ → List ToldOrder → Type 0) → List ℕ → List Span → ℕ → Type 0
Begun told bytes words first = (os : List ToldOrder) × told bytes os × UpTo bytes words first os

-- a taker was told these orders of a line, and stands so beside how it stood before the line began
abbrev pub ToldSince : {T : Type 0} → (T → List ℕ → List ToldOrder → Type 0) → (T → T → List ToldOrder → Type 0) → T → T → List ℕ → List ToldOrder → Type 0
ToldSince told since before after bytes os = told after bytes os × since before after os

-- an order that was taken counts among those since the line began, and one that was refused does not
abbrev pub Counts : {U : Type 0} → (List ToldOrder → Type 0) → (List ToldOrder → Type 0) → ToldOrder → Result U Refusal → Type 0
Counts before after o (Ok u) = (os : List ToldOrder) → before os → after (os ++ o ∷ [])
Counts before after o (Err f) = (os : List ToldOrder) → before os → after os
