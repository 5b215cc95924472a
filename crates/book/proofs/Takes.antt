-- A book with one order more. Assumes nothing.
use Rattle.std.proofs.Common.{◌≡◌, ℕ, ◌+◌, ◌<◌, ◌≤◌, List, [], ◌∷◌, ◌++◌, length, take, sym, ap, ◌∙◌, append_assoc, append-nil, arith, length-append}
use Rattle.reading.specs.Line.{repeated}
use Rattle.reading.specs.declared.role.Role.{Role}
use Rattle.reading.specs.declared.role.Role.TheVariants.{PathWord}
use Rattle.reading.proofs.Bounds.{repeated_many}
use Rattle.reader.specs.Told.{ToldOrder, roles_told, all_roles_told, values_told, Fits}
use Rattle.reader.specs.declared.source.ValueRow.{ValueRow}
use Rattle.reader.proofs.LineSteps.{all_roles_lem}
use Rattle.reader.proofs.Telling.{all_values_lem}
use Rattle.book.specs.Holds.{row_at, rows_from, all_values, Holds}
use Rattle.book.specs.declared.fill.Fill.{Fill}
use Rattle.book.specs.declared.order_row.OrderRow.{OrderRow}
use Rattle.book.specs.declared.tables.Book.{Book}

rows_more : (from : ℕ) (os : List ToldOrder) (o : ToldOrder) → rows_from from (os ++ o ∷ []) ≡ rows_from from os ++ row_at (from + values_told os) o ∷ []
rows_more from [] o = let e : from ≡ from + 0 = omega arith in ap (λ (n : ℕ). row_at n o ∷ []) e
rows_more from (x ∷ os) o =
    let e : (from + length x.values) + values_told os ≡ from + (length x.values + values_told os) = omega arith in
    ap (λ (l : List OrderRow). row_at from x ∷ l) (rows_more (from + length x.values) os o ∙ ap (λ (n : ℕ). rows_from (from + length x.values) os ++ row_at n o ∷ []) e)

values_more : (os : List ToldOrder) (o : ToldOrder) → all_values (os ++ o ∷ []) ≡ all_values os ++ o.values
values_more [] o = append-nil o.values
values_more (x ∷ os) o = ap (λ (l : List ValueRow). x.values ++ l) (values_more os o) ∙ sym (append_assoc x.values (all_values os) o.values)

module _ (book : Book) (bytes : List ℕ) (os : List ToldOrder) (o : ToldOrder) (holds : Holds book bytes os) where
  pub record Room : Type 0 where
    pub words : book.fill.words + o.path + length o.roles ≤ 128
    pub values : book.fill.values + length o.values ≤ 1024
    pub orders : book.fill.orders < 128

  pub room : Fits (os ++ o ∷ []) → Room
  room fits =
      let a = ap length (all_roles_lem os o) in let b = length-append (all_roles_told os) (roles_told o) in
      let d = length-append (repeated o.path PathWord) o.roles in let e = repeated_many o.path PathWord in
      let f = all_values_lem os o in let h = length-append os (o ∷ []) in
      let i = holds.words in let j = holds.count in let k = holds.many in
      let x = fits.words in let y = fits.values in let z = fits.orders in
      record { words = omega arith; values = omega arith; orders = omega arith }

  pub took : (fill : Fill) (paths roles : List Role) (values : List ValueRow) (orders : List OrderRow)
      → fill ≡ record { bytes = book.fill.bytes; words = book.fill.words + o.path + length o.roles; orders = book.fill.orders + 1; values = book.fill.values + length o.values }
      → take (book.fill.words + o.path) paths ≡ take book.fill.words book.roles ++ repeated o.path PathWord
      → take ((book.fill.words + o.path) + length o.roles) roles ≡ take (book.fill.words + o.path) paths ++ o.roles
      → take (book.fill.values + length o.values) values ≡ take book.fill.values book.values ++ o.values
      → take (book.fill.orders + 1) orders ≡ take book.fill.orders book.orders ++ record { recipe = o.recipe; first = o.first; words = o.words; from = book.fill.values; to = book.fill.values + length o.values } ∷ []
      → Holds (record { fill = fill; bytes = book.bytes; roles = roles; orders = orders; values = values }) bytes (os ++ o ∷ [])
  took fill paths roles values orders f p r v w =
      let same = all_roles_lem os o in
      let a = ap length same in let b = length-append (all_roles_told os) (roles_told o) in
      let d = length-append (repeated o.path PathWord) o.roles in let e = repeated_many o.path PathWord in
      let g = all_values_lem os o in let h = length-append os (o ∷ []) in
      let i = holds.words in let j = holds.count in let k = holds.many in
      record {
        line = ap (λ (x : Fill). take x.bytes book.bytes) f ∙ holds.line;
        size = ap (λ (x : Fill). x.bytes) f ∙ holds.size;
        roles = ap (λ (x : Fill). take x.words roles) f ∙ r
            ∙ ap (λ (l : List Role). l ++ o.roles) (p ∙ ap (λ (l : List Role). l ++ repeated o.path PathWord) holds.roles)
            ∙ append_assoc (all_roles_told os) (repeated o.path PathWord) o.roles
            ∙ sym same;
        words = ap (λ (x : Fill). x.words) f ∙ (omega arith);
        values = ap (λ (x : Fill). take x.values values) f ∙ v ∙ ap (λ (l : List ValueRow). l ++ o.values) holds.values ∙ sym (values_more os o);
        count = ap (λ (x : Fill). x.values) f ∙ (omega arith);
        orders = ap (λ (x : Fill). take x.orders orders) f ∙ w
            ∙ ap (λ (l : List OrderRow). l ++ row_at book.fill.values o ∷ []) holds.orders
            ∙ ap (λ (n : ℕ). rows_from 0 os ++ row_at n o ∷ []) (j ∙ (omega arith))
            ∙ sym (rows_more 0 os o);
        many = ap (λ (x : Fill). x.orders) f ∙ (omega arith);
      }
