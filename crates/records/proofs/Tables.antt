-- Tables that were filled with rows, and counted ones.
use Rattle.std.proofs.Common.{◌≡◌, ℕ, zero, suc, ◌≤◌, Bool, true, false, List, length, take, None, Ok, Err, Option, Result, sym, refl, ap, ◌∙◌, subst, inl, add-zero, arith}
use Rattle.std.proofs.lemmas.List.{length-take-le}
use Rattle.std.specs.Result.{result_map_both}
use Rattle.refusal.specs.declared.Refusal.{Refusal}
use Rattle.format.specs.Format.{Format, only_if, rows, both}
use Rattle.format.specs.Fields.{within, counted}
use Rattle.format.specs.Reads.{Reads, itself, optionally}
use Rattle.format.specs.Calls.{Fills}
use Rattle.format.specs.declared.cursor.Cursor.{Cursor}
use Rattle.format.proofs.Filling.{fills_reads, fills_as}
use Rattle.format.proofs.Towards.{begin, through, finished, refuses, lost}
use Rattle.records.specs.TreeRows.{rows_at, some_rows_at}
use Rattle.records.specs.Tables.{RowsBehind, CountsRows, CountsRowsIf}
use Rattle.records.proofs.Parts.{counted_parts, with_count, length_rows}

-- the rows of a table
pub table_reads : {A V : Type 0} (row : Option A → Format A) (told : List ℕ → V → A) {Read : Option V → Cursor → Result V Refusal → Cursor → Type 0} (n : ℕ) (rs : List V) {c d : Cursor} {out : Result (Unit {0}) Refusal} → Fills Read (take n rs) c out d → n ≤ length rs → ((last : Option V) (c : Cursor) (r : Result V Refusal) (d : Cursor) → Read last c r d → Reads (row (optionally told c.image.now last)) told c r d) → Reads (rows row None n) (λ image _. rows_at told rs n image) c out d
table_reads row told n rs {c = c} {d = d} {out = out} s h each = subst (λ k. Reads (rows row None k) (λ image _. rows_at told rs n image) c out d) (length-take-le n rs h) (fills_reads row told each s)

-- a count and its rows
module _ {A V : Type 0} (f : Format A) (told : List ℕ → V → A) (Read : Cursor → Result V Refusal → Cursor → Type 0) (each : (c : Cursor) (r : Result V Refusal) (d : Cursor) → Read c r d → Reads f told c r d) (least most : ℕ) (rs : List V) (c d : Cursor) where
  all_of : (n : ℕ) (m : Cursor) (r : Result (Unit {0}) Refusal) (out : Result ℕ Refusal) → n ≤ length rs → Reads (within least most 1) itself c (Ok n) m → Reads (rows (λ _. f) None n) (λ image _. rows_at told rs n image) m r d → out ≡ result_map_both (λ _. n) (λ e. e) r → Reads (counted least most f) (λ image n. rows_at told rs n image) c out d
  all_of n m (Ok u) out h s t is =
      let w = through _ _ (begin (counted_parts least most f) c) s n refl in
      subst (λ o. Reads (counted least most f) (λ image n. rows_at told rs n image) c o d) (sym is)
      (finished w t with_count (λ image n. rows_at told rs n image) u n refl (ap (λ k. (k, rows_at told rs n c.image.now)) (length_rows told rs n c.image.now h)))
  all_of n m (Err e) out h s t is =
      let w = through _ _ (begin (counted_parts least most f) c) s n refl in
      refuses (counted least most f) (λ image n. rows_at told rs n image) c d out e (t.same ∙ w.same) is (w.leads.off e (lost (rows (λ _. f) None n) (λ image _. rows_at told rs n image) c m d (Err e) w.same t e refl))

  behind : (count : Result ℕ Refusal) (m : Cursor) (out : Result ℕ Refusal) → Reads (within least most 1) itself c count m → RowsBehind Read rs m out d count → Reads (counted least most f) (λ image n. rows_at told rs n image) c out d
  unfolding both
  behind (Ok n) m out s b = all_of n m b.1.0 out b.0 s (table_reads (λ _. f) told n rs b.1.1 b.0 (λ _. each)) b.1.2
  behind (Err e) m out s b = refuses (counted least most f) (λ image n. rows_at told rs n image) c d out e (ap (λ x. x.image.now) b.1 ∙ s.same) b.0 (inl s.says)

  pub counted_reads : (out : Result ℕ Refusal) → CountsRows Read least most rs c out d → Reads (counted least most f) (λ image n. rows_at told rs n image) c out d
  counted_reads out s = behind s.count s.mid out s.counts s.rest

-- what reading a count and then its rows gives
pub counts_rows : {V : Type 0} {Read : Cursor → Result V Refusal → Cursor → Type 0} {Each : Option V → Cursor → Result V Refusal → Cursor → Type 0} {least most : ℕ} {rs : List V} {c mid d : Cursor} {count out : Result ℕ Refusal} {r : Result (Unit {0}) Refusal} (n : ℕ) → Reads (within least most 1) itself c count mid → count ≡ Ok n → n ≤ length rs → Fills Each (take n rs) mid r d → ((last : Option V) (c : Cursor) (r : Result V Refusal) (d : Cursor) → Each last c r d → Read c r d) → out ≡ result_map_both (λ _. n) (λ e. e) r → CountsRows Read least most rs c out d
counts_rows {Read = Read} {rs = rs} {mid = mid} {d = d} {count = count} {out = out} {r = r} n s is h f also e = record {
  count = count;
  mid = mid;
  counts = s;
  rest = subst (RowsBehind Read rs mid out d) (sym is) (h, (r, fills_as f also, e));
}

-- the same behind a bit
module _ {A V : Type 0} (f : Format A) (told : List ℕ → V → A) (most : ℕ) where
  some : (rs : List V) (c d : Cursor) (out : Result ℕ Refusal) → Reads (counted 1 most f) (λ image n. rows_at told rs n image) c out d → Reads (only_if true (counted 1 most f)) (λ image n. some_rows_at told rs n image) c out d
  unfolding both
  some rs c d (Ok zero) s = absurd (let k = s.says.keeps.0.1.0 in omega arith)
  some rs c d (Ok (suc n)) s = record { same = s.same; says = record { keeps = (refl, s.says.keeps); stands = s.says.stands } }
  some rs c d (Err e) s = record { same = s.same; says = (refl, s.says) }

  nothing : (rs : List V) (c : Cursor) → Reads (only_if false (counted 1 most f)) (λ image n. some_rows_at told rs n image) c (Ok 0) c
  nothing rs c = record { same = refl; says = record { keeps = refl; stands = record { is = refl; ends = add-zero c.at } } }

  pub counted_if_reads : {Read : Cursor → Result V Refusal → Cursor → Type 0} {b : Bool} {rs : List V} {c d : Cursor} {out : Result ℕ Refusal} → CountsRowsIf Read 1 most b rs c out d → ((c : Cursor) (r : Result V Refusal) (d : Cursor) → Read c r d → Reads f told c r d) → Reads (only_if b (counted 1 most f)) (λ image n. some_rows_at told rs n image) c out d
  counted_if_reads {Read = Read} {b = true} {rs = rs} {c = c} {d = d} {out = out} s each = some rs c d out (counted_reads f told Read each 1 most rs c d out (s.present refl))
  counted_if_reads {b = false} {rs = rs} {c = c} {d = d} {out = out} s each = let p = s.absent refl in subst (λ x. Reads (only_if false (counted 1 most f)) (λ image n. some_rows_at told rs n image) c out x) (sym p.1) (subst (λ o. Reads (only_if false (counted 1 most f)) (λ image n. some_rows_at told rs n image) c o c) (sym p.0) (nothing rs c))
