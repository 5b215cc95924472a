-- What a reading gives that leaves a step to closures.
use Rattle.std.proofs.Common.{◌≡◌, ℕ, Bool, true, false, List, Some, None, Ok, Err, Option, Result, Decides, sym, refl, ap, ◌∙◌, subst, inl, inr, add-zero}
use Rattle.std.proofs.lemmas.Bool.{false≢true}
use Rattle.refusal.specs.declared.Refusal.{Refusal}
use Rattle.std.specs.Result.{result_map_both}
use Rattle.format.specs.Format.{Format, checked, only_if}
use Rattle.format.specs.Reads.{Reads, itself, optionally}
use Rattle.format.specs.Calls.{ReadsIf, Tested, Checks}
use Rattle.format.specs.declared.cursor.Cursor.{Cursor}

-- a part behind a test that decides a rule
module _ {A V : Type 0} (refusal : ℕ → Refusal) (Rule : A → Type 0) (f : Format A) (told : List ℕ → V → A) {c d : Cursor} where
  by_test : (Test : V → Bool → Type 0) (Tell : ℕ → Refusal → Type 0) (r out : Result V Refusal) → Tested Test Tell c.at out r → Reads f told c r d → ((v : V) (b : Bool) → r ≡ Ok v → Test v b → Decides b (Rule (told c.image.now v))) → ((x : Refusal) → Tell c.at x → x ≡ refusal c.at) → Reads (checked refusal Rule f) told c out d
  by_test Test Tell (Ok v) out (true, test, said) s h k = subst (λ o. Reads (checked refusal Rule f) told c o d) (sym (said.0 refl)) (record { same = s.same; says = record { keeps = (s.says.keeps, (h v true refl test).0 refl); stands = s.says.stands } })
  by_test Test Tell (Ok v) out (false, test, said) s h k =
      let n = said.1 refl in
      subst (λ o. Reads (checked refusal Rule f) told c o d) (sym (n.2 ∙ ap Err (k n.0 n.1))) (record { same = s.same; says = inr (record { value = told c.image.now v; to = d.at; good = s.says; broken = λ p. absurd (false≢true ((h v false refl test).1 p)) }, refl) })
  by_test Test Tell (Err e) out is s h k = subst (λ o. Reads (checked refusal Rule f) told c o d) (sym is) (record { same = s.same; says = inl s.says })

  pub checks_reads : {Test : V → Bool → Type 0} {Tell : ℕ → Refusal → Type 0} {Read : Cursor → Result V Refusal → Cursor → Type 0} (out : Result V Refusal) → Checks Read Test Tell c out d → ((r : Result V Refusal) → Read c r d → Reads f told c r d) → ((v : V) (b : Bool) → Read c (Ok v) d → Test v b → Decides b (Rule (told c.image.now v))) → ((x : Refusal) → Tell c.at x → x ≡ refusal c.at) → Reads (checked refusal Rule f) told c out d
  checks_reads {Test = Test} {Tell = Tell} {Read = Read} out s h t k = by_test Test Tell s.got out s.tested (h s.got s.reads) (λ v b e p. t v b (subst (λ r. Read c r d) e s.reads) p) k

-- a part that stands only if its bit does
module _ {A V : Type 0} (f : Format A) (told : List ℕ → V → A) where
  present : (c d : Cursor) (r : Result V Refusal) → Reads f told c r d → Reads (only_if true f) (optionally told) c (result_map_both Some (λ e. e) r) d
  present c d (Ok v) s = record { same = s.same; says = record { keeps = (refl, s.says.keeps); stands = s.says.stands } }
  present c d (Err e) s = record { same = s.same; says = (refl, s.says) }

  absent : (c : Cursor) → Reads (only_if false f) (optionally told) c (Ok None) c
  absent c = record { same = refl; says = record { keeps = refl; stands = record { is = refl; ends = add-zero c.at } } }

  pub if_reads : {Read : Cursor → Result V Refusal → Cursor → Type 0} {b : Bool} {c d : Cursor} {out : Result (Option V) Refusal} → ReadsIf Read b c out d → ((r : Result V Refusal) → Read c r d → Reads f told c r d) → Reads (only_if b f) (optionally told) c out d
  if_reads {b = true} {c = c} {d = d} s each = let p = s.present refl in subst (λ o. Reads (only_if true f) (optionally told) c o d) (sym p.2) (present c d p.0 (each p.0 p.1))
  if_reads {b = false} {c = c} {d = d} {out = out} s each = let p = s.absent refl in subst (λ x. Reads (only_if false f) (optionally told) c out x) (sym p.1) (subst (λ o. Reads (only_if false f) (optionally told) c o c) (sym p.0) (absent c))

-- the same of a number, which needs no image
pub number_if_reads : (f : Format ℕ) {Read : Cursor → Result ℕ Refusal → Cursor → Type 0} {b : Bool} {c d : Cursor} {out : Result (Option ℕ) Refusal} → ReadsIf Read b c out d → ((r : Result ℕ Refusal) → Read c r d → Reads f itself c r d) → Reads (only_if b f) itself c out d
number_if_reads f {b = b} {c = c} {d = d} {out = out} s each = plain out (if_reads f itself s each) where
  plain : (o : Result (Option ℕ) Refusal) → Reads (only_if b f) (optionally itself) c o d → Reads (only_if b f) itself c o d
  plain (Ok None) t = record { same = t.same; says = t.says }
  plain (Ok (Some v)) t = record { same = t.same; says = t.says }
  plain (Err e) t = record { same = t.same; says = t.says }
