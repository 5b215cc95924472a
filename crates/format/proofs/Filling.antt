-- Rows that are read one after another.
use Rattle.std.proofs.Common.{◌≡◌, ℕ, suc, ◌+◌, ◌<◌, ◌≤◌, List, [], ◌∷◌, ◌++◌, map, length, get_or, take, set, Some, None, Ok, Err, Option, Result, sym, refl, ap, ◌∙◌, subst, inl, inr, add-zero}
use Rattle.std.proofs.lemmas.Bool.{false≢true}
use Rattle.std.proofs.lemmas.List.{append-nil, append_assoc, take_more_set, take_all, drop_more, take-append-drop, set-get_or}
use Rattle.std.specs.List.{AllByRecursion}
use Rattle.std.specs.Result.{is_ok, OnOk}
use Rattle.refusal.specs.declared.Refusal.{Refusal}
use Rattle.format.specs.Format.{Format, Good, none, rows}
use Rattle.format.specs.Reads.{Reads, optionally}
use Rattle.format.specs.Calls.{FillsFrom, Fills}
use Rattle.format.specs.declared.cursor.Cursor.{Cursor}
use Rattle.format.proofs.Stands.{joins}

-- i rows are read, and the cursor stands before the next one: what fills the others fills the whole
pub record SoFar {V : Type 0} (Read : Option V → Cursor → Result V Refusal → Cursor → Type 0) (rs : List V) (i : ℕ) (last : Option V) (c d : Cursor) : Type 0 where
  pub on : (vs : List V) (out : Result (Unit {0}) Refusal) (e : Cursor) → FillsFrom Read last vs d out e → FillsFrom Read None (take i rs ++ vs) c out e

pub none_yet : {V : Type 0} (Read : Option V → Cursor → Result V Refusal → Cursor → Type 0) (rs : List V) (c : Cursor) → SoFar Read rs 0 None c c
none_yet Read rs c = record { on = λ vs out e f. f }

module _ {V : Type 0} {Read : Option V → Cursor → Result V Refusal → Cursor → Type 0} {rs : List V} {i : ℕ} {last : Option V} {c d : Cursor} (s : SoFar Read rs i last c d) where
  pub one_more : (v : V) (m : Cursor) → i < length rs → Read last d (Ok v) m → SoFar Read (set rs i v) (i + 1) (Some v) c m
  one_more v m h r =
      let p : (vs : List V) → take i rs ++ (v ∷ vs) ≡ take (i + 1) (set rs i v) ++ vs = λ vs. sym (ap (λ l. l ++ vs) (take_more_set rs i v h) ∙ append_assoc (take i rs) (v ∷ []) vs) in
      record { on = λ vs out e f. subst (λ l. FillsFrom Read None l c out e) (p vs) (s.on (v ∷ vs) out e (inl (m, r, f))) }

  pub all_read : length rs ≤ i → Fills Read rs c (Ok tt) d
  all_read h = record { run = subst (λ l. FillsFrom Read None l c (Ok tt) d) (append-nil (take i rs) ∙ take_all i rs h) (s.on [] (Ok tt) d (refl, refl)) }

  pub one_refused : (any : V) (x : Refusal) (e : Cursor) (out : Result (Unit {0}) Refusal) → i < length rs → Read last d (Err x) e → out ≡ Err x → Fills Read (set rs i (get_or rs i any)) c out e
  one_refused any x e out h r is =
      let p = ap (λ l. take i rs ++ l) (sym (drop_more rs i any h)) ∙ take-append-drop i rs ∙ sym (set-get_or rs i any) in
      record { run = subst (λ l. FillsFrom Read None l c out e) p (s.on _ out e (inr (x, r, is))) }

module _ {A V : Type 0} (row : Option A → Format A) (told : List ℕ → V → A) {Read : Option V → Cursor → Result V Refusal → Cursor → Type 0} (each : (last : Option V) (c : Cursor) (r : Result V Refusal) (d : Cursor) → Read last c r d → Reads (row (optionally told c.image.now last)) told c r d) where
  Whole : Option A → List V → Cursor → Result (Unit {0}) Refusal → Cursor → Type 0
  Whole last vs c out d = Reads (rows row last (length vs)) (λ image _. map (told image) vs) c out d

  more : (last : Option A) (v : V) (vs : List V) (c m d : Cursor) (out : Result (Unit {0}) Refusal) → Reads (row last) told c (Ok v) m → Whole (Some (told m.image.now v)) vs m out d → Whole last (v ∷ vs) c out d
  unfolding Whole
  more last v vs c m d (Ok u) s t =
      let a = told c.image.now v in
      let b = map (told c.image.now) vs in
      let g : Good (rows row (Some a) (length vs)) c.image.now m.at b d.at = subst (λ i. Good (rows row (Some (told i v)) (length vs)) i m.at (map (told i) vs) d.at) s.same t.says in
      record {
        same = t.same ∙ s.same;
        says = record { keeps = (s.says.keeps, g.keeps); stands = joins ((row last).bytes a) ((rows row (Some a) (length vs)).bytes b) c.image.now c.at m.at d.at s.says.stands g.stands };
      }
  more last v vs c m d (Err e) s t = record {
    same = t.same ∙ s.same;
    says = inr (record { first = told c.image.now v; to = m.at; good = s.says; fault = subst (λ i. (rows row (Some (told i v)) (length vs)).Faulty i m.at e) s.same t.says });
  }

  whole : (last : Option V) (vs : List V) (c : Cursor) (out : Result (Unit {0}) Refusal) (d : Cursor) → FillsFrom Read last vs c out d → Whole (optionally told c.image.now last) vs c out d
  unfolding Whole
  whole last [] c out d f =
      subst (λ o. Reads (none {A = A}) (λ image _. []) c o d) (sym f.0) (subst (λ e. Reads (none {A = A}) (λ image _. []) c (Ok tt) e) (sym f.1) (record { same = refl; says = record { keeps = refl; stands = record { is = refl; ends = add-zero c.at } } }))
  whole last (v ∷ vs) c out d f = elim f [
    | inl w ↦
        let s = each last c (Ok v) w.0 w.1 in
        more (optionally told c.image.now last) v vs c w.0 d out s (whole (Some v) vs w.0 out d w.2)
    | inr w ↦
        let s = each last c (Err w.0) d w.1 in
        subst (λ o. Reads (rows row (optionally told c.image.now last) (suc (length vs))) (λ image _. map (told image) (v ∷ vs)) c o d) (sym w.2) (record { same = s.same; says = inl s.says })
  ]

  pub fills_reads : {vs : List V} {c : Cursor} {out : Result (Unit {0}) Refusal} {d : Cursor} → Fills Read vs c out d → Reads (rows row None (length vs)) (λ image _. map (told image) vs) c out d
  unfolding Whole
  fills_reads {vs = vs} {c = c} {out = out} {d = d} f = whole None vs c out d f.run

-- what each row that may be read keeps, all rows keep
module _ {V : Type 0} (P : V → Type 0) where
  all_kept : (Read : Option V → Cursor → Result V Refusal → Cursor → Type 0) → ((last : Option V) (c : Cursor) (v : V) (d : Cursor) → Read last c (Ok v) d → P v) → (last : Option V) (vs : List V) (c d : Cursor) → FillsFrom Read last vs c (Ok tt) d → AllByRecursion P vs
  all_kept Read each last [] c d f = tt
  all_kept Read each last (v ∷ vs) c d f = elim f [
    | inl w ↦ (each last c v w.0 w.1, all_kept Read each (Some v) vs w.0 d w.2)
    | inr w ↦ absurd (false≢true (sym (ap is_ok w.2)))
  ]

  pub fills_all : {Read : Option V → Cursor → Result V Refusal → Cursor → Type 0} {vs : List V} {c d : Cursor} {out : Result (Unit {0}) Refusal} → Fills Read vs c out d → ((last : Option V) (c : Cursor) (v : V) (d : Cursor) → Read last c (Ok v) d → P v) → OnOk out (AllByRecursion P vs)
  fills_all {Read = Read} {vs = vs} {c = c} {d = d} {out = Ok u} f each = all_kept Read each None vs c d f.run
  fills_all {out = Err e} f each = tt

-- rows of one reading are rows of another that it stands for
module _ {V : Type 0} (Read Other : Option V → Cursor → Result V Refusal → Cursor → Type 0) (also : (last : Option V) (c : Cursor) (r : Result V Refusal) (d : Cursor) → Read last c r d → Other last c r d) where
  from_as : (last : Option V) (vs : List V) (c : Cursor) (out : Result (Unit {0}) Refusal) (d : Cursor) → FillsFrom Read last vs c out d → FillsFrom Other last vs c out d
  from_as last [] c out d f = f
  from_as last (v ∷ vs) c out d f = elim f [
    | inl w ↦ inl (w.0, also last c (Ok v) w.0 w.1, from_as (Some v) vs w.0 out d w.2)
    | inr w ↦ inr (w.0, also last c (Err w.0) d w.1, w.2)
  ]

pub fills_as : {V : Type 0} {Read Other : Option V → Cursor → Result V Refusal → Cursor → Type 0} {vs : List V} {c d : Cursor} {out : Result (Unit {0}) Refusal} → Fills Read vs c out d → ((last : Option V) (c : Cursor) (r : Result V Refusal) (d : Cursor) → Read last c r d → Other last c r d) → Fills Other vs c out d
fills_as {Read = Read} {Other = Other} {vs = vs} {c = c} {d = d} {out = out} f also = record { run = from_as Read Other also None vs c out d f.run }
