-- What a book keeps of a reading that it was told. Assumes nothing.
use Rattle.std.proofs.Common.{◌≡◌, ℕ, ◌+◌, ◌-◌, ◌≤◌, false, List, [], ◌∷◌, ◌++◌, map, length, take, drop, Ok, Err, Result, sym, refl, ap, ◌∙◌, subst, inl, inr, arith, take-take}
use Rattle.std.specs.List.{AllByRecursion}
use Rattle.std.proofs.lemmas.List.{take_at, drop_at, length-map, drop-drop, drop-take}
use Rattle.refusal.specs.declared.Refusal.{Refusal}
use Rattle.text.specs.Identifier.{Text}
use Rattle.text.specs.Line.{Within}
use Rattle.register.specs.Meaning.{NameMeaning, SignatureMeaning}
use Rattle.judge.specs.Meaning.{JudgeMeaning}
use Rattle.reading.specs.Line.{Taken, size, Order, Reading, Cut, Lawful, OnlyReading, shifted_value, orders_of}
use Rattle.reading.specs.declared.role.Role.{Role}
use Rattle.reading.proofs.Runs.{clash}
use Rattle.reader.specs.Meaning.{value_of}
use Rattle.reader.specs.Told.{ToldOrder, all_roles_told, values_told, order_told, reading_told}
use Rattle.reader.specs.Rest.{LineTold}
use Rattle.reader.specs.declared.source.ValueRow.{ValueRow}
use Rattle.book.specs.Holds.{row_at, rows_from, all_values, Holds}
use Rattle.book.specs.Kept.{row_kept, kept_orders, kept_roles, told_as, Reads, RowWithin, Rows}
use Rattle.book.specs.declared.order_row.OrderRow.{OrderRow}
use Rattle.book.specs.declared.tables.Book.{Book}

-- a lawful reading has an order
cut_some : {names : NameMeaning} {s : SignatureMeaning} {judge : JudgeMeaning} {ws : List Text} {ts : List Taken} → Cut names s judge ws ts → 1 ≤ length ts
cut_some (Cut.last b) = omega arith
cut_some (Cut.then b c) = omega arith

orders_many : (s : SignatureMeaning) (first : ℕ) (ts : List Taken) → length (orders_of s first ts) ≡ length ts
orders_many s first [] = refl
orders_many s first (t ∷ ts) = let h = orders_many s (first + size t) ts in omega arith

orders_some : (names : NameMeaning) (s : SignatureMeaning) (judge : JudgeMeaning) (words : List Text) (line : List ℕ) (os : List ToldOrder) → Lawful names s judge words (reading_told s line os) → 1 ≤ length os
orders_some names s judge words line os l =
    let a = cut_some l.cut in let b = orders_many s 0 l.orders in
    let c = ap (λ (r : Reading). length r.orders) l.told in let d = length-map os (order_told s line) in
    omega arith

-- a front of a list that is two lists end to end
take-front : {X : Type 0} (xs a b : List X) (n : ℕ) → take (length a + n) xs ≡ a ++ b → take (length a) xs ≡ a
take-front xs a b n e =
    sym (take-take (length a) (length a + n) xs (omega arith))
    ∙ ap (take (length a)) e
    ∙ take_at a b (length a) refl

take_back : {X : Type 0} (xs a b : List X) (n : ℕ) → take (length a + n) xs ≡ a ++ b → take n (drop (length a) xs) ≡ b
take_back xs a b n e = sym (drop-take (length a) n xs) ∙ ap (drop (length a)) e ∙ drop_at a b (length a) refl

module _ (s : SignatureMeaning) (bytes : List ℕ) (vs : List ValueRow) where
  kept_row : (from : ℕ) (o : ToldOrder) → take (length o.values) (drop from vs) ≡ o.values → told_as s (row_kept bytes vs (row_at from o)) ≡ order_told s bytes o
  kept_row from o e =
      let n : (from + length o.values) - from ≡ length o.values = omega arith in
      let same : take ((from + length o.values) - from) (drop from vs) ≡ o.values = ap (λ (k : ℕ). take k (drop from vs)) n ∙ e in
      ap (λ (l : List ValueRow). told_as s (record { recipe = o.recipe; first = o.first; words = o.words; values = map (shifted_value o.first) (map (value_of bytes) l) })) same

  kept_rows : (from : ℕ) (os : List ToldOrder) → take (values_told os) (drop from vs) ≡ all_values os → map (told_as s) (map (row_kept bytes vs) (rows_from from os)) ≡ map (order_told s bytes) os
  kept_rows from [] e = refl
  kept_rows from (o ∷ os) e =
      let front = take-front (drop from vs) o.values (all_values os) (values_told os) e in
      let back = take_back (drop from vs) o.values (all_values os) (values_told os) e in
      ap (λ (x : Order). x ∷ map (told_as s) (map (row_kept bytes vs) (rows_from (from + length o.values) os))) (kept_row from o front)
      ∙ ap (λ (l : List Order). order_told s bytes o ∷ l) (kept_rows (from + length o.values) os (ap (take (values_told os)) (sym (drop-drop (length o.values) from vs)) ∙ back))

rows_within : (from : ℕ) (os : List ToldOrder) → from + values_told os ≤ 1024 → AllByRecursion RowWithin (rows_from from os)
rows_within from [] h = tt
rows_within from (o ∷ os) h = ((omega arith, omega arith), rows_within (from + length o.values) os (omega arith))

module _ (names : NameMeaning) (s : SignatureMeaning) (judge : JudgeMeaning) (line : List ℕ) (words : List Text) (book : Book) (within : Within line words) where
  same_orders : (os : List ToldOrder) → Holds book line os → map (told_as s) (kept_orders book) ≡ map (order_told s line) os
  same_orders os h =
      ap (λ (b : List ℕ). map (told_as s) (map (row_kept b book.values) (take book.fill.orders book.orders))) h.line
      ∙ ap (λ (rows : List OrderRow). map (told_as s) (map (row_kept line book.values) rows)) h.orders
      ∙ kept_rows s line book.values 0 os (ap (λ (n : ℕ). take n book.values) (sym h.count) ∙ h.values)

  same_reading : (os : List ToldOrder) → Holds book line os → reading_told s line os ≡ record { orders = map (told_as s) (kept_orders book); roles = kept_roles book }
  same_reading os h =
      ap (λ (o : List Order). record { orders = o; roles = all_roles_told os }) (sym (same_orders os h))
      ∙ ap (λ (r : List Role). record { orders = map (told_as s) (kept_orders book); roles = r }) (sym h.roles)

  pub reads : {U : Type 0} (r : Result U Refusal) → LineTold names s judge (λ _. false) (Holds book) line words r → Reads names s judge line (kept_orders book) (kept_roles book) r
  reads (Ok u) t = (words, within, subst (λ (x : Reading). OnlyReading names s judge words (Ok x)) (same_reading t.0 t.1) t.3)
  reads (Err f) (inl e) = absurd (clash (sym e))
  reads (Err f) (inr o) = inr (words, within, o)

  pub rows : {U : Type 0} (r : Result U Refusal) → LineTold names s judge (λ _. false) (Holds book) line words r → Rows line book r
  rows (Ok u) t =
      let h = t.1 in let f = t.2 in let a = f.orders in let b = f.words in let d = f.values in
      let i = h.many in let j = h.words in let k = h.size in let l = within.short in
      let some : 1 ≤ length t.0 = orders_some names s judge words line t.0 t.3.right in
      (h.line, omega arith, omega arith, omega arith, omega arith, subst (AllByRecursion RowWithin) (sym h.orders) (rows_within 0 t.0 (omega arith)))
  rows (Err f) t = tt
