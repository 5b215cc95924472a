-- What an admit does to the tie between history and state.
use Rattle.std.proofs.Common.{◌≡◌, ℕ, ◌+◌, ◌^◌, ◌<◌, ◌≤◌, List, [], ◌++◌, map, length, get_or, take, Ok, Err, sym, ap, ◌∙◌, subst, inl, inr, arith, le-ltb, lt-ltb}
use Rattle.std.specs.List.{range_with_len}
use Rattle.std.proofs.lemmas.List.{length-append, length-map, length-take-le, get_or-append-add, get_or-map, get_or-take, ext_get_or}
use Rattle.std.proofs.lemmas.List.FromFn.{length-map-range_with_len, get_or-map-range_with_len}
use Rattle.refusal.specs.declared.Refusal.{Refusal}
use Rattle.refusal.specs.declared.Refusal.TheVariants.{SerialsEnd}
use Rattle.reader.specs.declared.source.ValueRow.{ValueRow}
use Rattle.reading.specs.Line.{Order}
use Rattle.reading.specs.declared.role.Role.{Role}
use Rattle.register.specs.Meaning.{SignatureMeaning}
use Rattle.book.specs.Kept.{KeptOrder, row_kept, kept_orders, kept_roles, told_as, Reads}
use Rattle.book.specs.declared.fill.Fill.{Fill}
use Rattle.book.specs.declared.order_row.OrderRow.{OrderRow}
use Rattle.console.specs.Keeps.{Kept, View, view, kept, kept_in, kept_at, order_at, no_row}
use Rattle.console.specs.History.{Asked, Accepted, History, ◌▹◌, admitted, unadmitted, accepted_by, no_accepted, orders}
use Rattle.console.specs.Right.{Takes, TurnsDown, no_kept}
use Rattle.console.specs.State.{Coupled, Led, Unchanged}
use Rattle.console.specs.declared.admitted.Admitted.{Admitted}
use Rattle.console.specs.declared.console.Console.{Console}
use Rattle.console.proofs.Waiting.{Sane, idle}

-- a view with other rows
abbrev pub with_rows : View → List OrderRow → List ℕ → List ValueRow → List ℕ → View
with_rows v rows bytes values shown' = record v { rows = rows; bytes = bytes; values = values; shown = shown' }

-- a view that keeps a new line
abbrev pub with_line : View → ℕ → ℕ → List OrderRow → List ℕ → List ValueRow → List ℕ → View
with_line v n all rows bytes values shown' = record v { base = v.total; total = all; at = 0; count = n; rows = rows; bytes = bytes; values = values; shown = shown' }

-- nothing is kept where none is out and none waits
pub kept_none : (v : View) → v.count ≤ v.at → kept_in v ≡ []
kept_none v le = rw (le-ltb v.at v.count le)

-- the rows of a line are kept in sequence
kept_some : (v : View) → v.at < v.count → kept_in v ≡ map (kept_at v) (range_with_len 0 v.count)
kept_some v lt = rw (lt-ltb v.at v.count lt)

kept-length : (v : View) → v.at < v.count → length (kept_in v) ≡ v.count
kept-length v lt = ap length (kept_some v lt) ∙ length-map-range_with_len (kept_at v) 0 v.count

kept_nth : (v : View) → v.at < v.count → (i : ℕ) → i < v.count → get_or (kept_in v) i no_kept ≡ kept_at v i
kept_nth v lt i ic = ap (λ ks. get_or ks i no_kept) (kept_some v lt) ∙ get_or-map-range_with_len (kept_at v) 0 v.count i i no_kept ic (omega arith)

-- the orders as they are told are the told rows
kept_told : (v : View) (s : SignatureMeaning) → v.at < v.count → v.count ≤ length v.rows → map (λ k. told_as s k.order) (kept_in v) ≡ map (told_as s) (map (row_kept v.bytes v.values) (take v.count v.rows))
kept_told v s lt few =
    let told : Kept → Order = λ k. told_as s k.order in
    let row : OrderRow → KeptOrder = row_kept v.bytes v.values in
    let short : length (take v.count v.rows) ≡ v.count = length-take-le v.count v.rows few in
    let mid : length (map row (take v.count v.rows)) ≡ v.count = length-map (take v.count v.rows) row ∙ short in
    let long : length (map told (kept_in v)) ≡ v.count = length-map (kept_in v) told ∙ kept-length v lt in
    let other : length (map (told_as s) (map row (take v.count v.rows))) ≡ v.count = length-map (map row (take v.count v.rows)) (told_as s) ∙ mid in
    ext_get_or (told_as s no_kept.order) (map told (kept_in v)) (map (told_as s) (map row (take v.count v.rows))) (long ∙ sym other)
    (λ i h.
    let ic : i < v.count = omega arith in
    get_or-map told (kept_in v) i no_kept (told_as s no_kept.order) (omega (arith, kept-length v lt)) ∙ ap told (kept_nth v lt i ic)
    ∙ sym (get_or-map (told_as s) (map row (take v.count v.rows)) i (row no_row) (told_as s no_kept.order) (omega arith) ∙ ap (told_as s) (get_or-map row (take v.count v.rows) i no_row (row no_row) (omega arith) ∙ ap row (get_or-take v.count v.rows i no_row ic))))

module _ (h : History) (v : View) (k : Coupled h v) (z : Sane v) (end : v.count ≤ v.at) where
  -- a refused line leaves the tie as it was, whatever the rows hold
  pub unadmit_couples : (a : Asked) (r : Refusal) (rows : List OrderRow) (bytes : List ℕ) (values : List ValueRow) (shown' : List ℕ) → Coupled (h ▹ unadmitted a r) (with_rows v rows bytes values shown')
  unadmit_couples a r rows bytes values shown' = record {
    number_is = k.number_is;
    first_is = k.first_is;
    total_is = k.total_is;
    latest_is = k.latest_is;
    out_in = k.out_in;
    in_out = k.in_out;
    ack_in = k.ack_in;
    drop_in = k.drop_in;
    in_drop = k.in_drop;
    done = λ n lt w. k.done n lt (record { within = w.within; not_out = w.not_out; not_acknowledged = w.not_acknowledged; not_withdrawn = w.not_withdrawn });
    fresh = k.fresh;
    shown_is = λ i lt ic. absurd (omega arith);
    order_is = λ i lt ic. absurd (omega arith);
    balance = k.balance;
  }

  -- the reader's refusal
  pub turned_down : (a : Asked) (kept' : List KeptOrder) (roles : List Role) (r : Refusal) → Reads {U = Unit {0}} a.names a.signatures a.judge a.line kept' roles (Err r) → TurnsDown h a r
  turned_down a kept' roles r (inl over) = TurnsDown.limit (idle h v k z end) over
  turned_down a kept' roles r (inr f) = TurnsDown.fault (idle h v k z end) f.0 f.1 f.2

  module _ (a : Asked) (n all : ℕ) (rows : List OrderRow) (bytes : List ℕ) (values : List ValueRow) (shown' : List ℕ) (roles : List Role) (some : 1 ≤ n) (few : n ≤ length rows)
      (reads : Reads {U = Unit {0}} a.names a.signatures a.judge a.line (map (row_kept bytes values) (take n rows)) roles (Ok tt)) where
    length_told : length (map (told_as a.signatures) (map (row_kept bytes values) (take n rows))) ≡ n
    length_told = length-map (map (row_kept bytes values) (take n rows)) (told_as a.signatures) ∙ length-map (take n rows) (row_kept bytes values) ∙ length-take-le n rows few

    -- a serial would pass the top
    pub no_serials : 2 ^ 32 < v.first + v.total + n → TurnsDown h a SerialsEnd
    no_serials over = TurnsDown.serials (idle h v k z end) _ (record { words = reads.0; within = reads.1; only = reads.2 }) (omega (arith, length_told, k.first_is, k.total_is))

    module _ (zeros : (i : ℕ) → i < n → get_or shown' i 0 ≡ 0) (sum : all ≡ v.total + n) (r : Admitted) where
      -- what the accepted line adds to the orders
      length_orders : length (orders h ++ map (accepted_by a.signatures) (kept_in (with_line v n all rows bytes values shown'))) ≡ v.total + n
      length_orders =
          let w : View = with_line v n all rows bytes values shown' in
          length-append (orders h) (map (accepted_by a.signatures) (kept_in w)) ∙ omega (arith, k.total_is, length-map (kept_in w) (accepted_by a.signatures), kept-length w some)

      order_kept : (i : ℕ) → i < n → order_at (with_line v n all rows bytes values shown') i ≡ (get_or (orders h ++ map (accepted_by a.signatures) (kept_in (with_line v n all rows bytes values shown'))) (v.total + i) no_accepted).order
      order_kept i ic =
          let w : View = with_line v n all rows bytes values shown' in
          let news : List Accepted = map (accepted_by a.signatures) (kept_in w) in
          let there : get_or (orders h ++ news) (length (orders h) + i) no_accepted ≡ accepted_by a.signatures (kept_at w i) =
          get_or-append-add (orders h) news i no_accepted ∙ get_or-map (accepted_by a.signatures) (kept_in w) i no_kept no_accepted (omega (arith, kept-length w some)) ∙ ap (accepted_by a.signatures) (kept_nth w some i ic) in
          let moved : get_or (orders h ++ news) (length (orders h) + i) no_accepted ≡ get_or (orders h ++ news) (v.total + i) no_accepted = ap (λ (t : ℕ). get_or (orders h ++ news) (t + i) no_accepted) k.total_is in
          ap (λ (x : Accepted). x.order) (sym there ∙ moved)

      pub admit_couples : Coupled (h ▹ admitted a (kept_in (with_line v n all rows bytes values shown')) r) (with_line v n all rows bytes values shown')
      admit_couples = record {
        number_is = k.number_is;
        first_is = k.first_is;
        total_is = length_orders ∙ sym sum;
        latest_is = k.total_is;
        out_in = λ i o. absurd ((idle h v k z end i).0 o);
        in_out = λ t. absurd ((idle h v k z end (v.base + v.at)).0 (k.in_out t));
        ack_in = λ i x. let lt = k.ack_in i x in omega (arith, z.reached, z.counted);
        drop_in = λ i x. let lt = (k.drop_in i x).0 in (omega arith, inl lt);
        in_drop = λ i ge lt. absurd (omega arith);
        done = λ i lt x. (idle h v k z end i).1 (record { within = omega (arith, k.total_is); not_out = x.not_out; not_acknowledged = x.not_acknowledged; not_withdrawn = x.not_withdrawn });
        fresh = λ i ge. k.fresh i (omega arith);
        shown_is = λ i lt ic. let none = k.fresh (v.total + i) (omega arith) in rw none (zeros i ic);
        order_is = λ i lt ic. order_kept i ic;
        balance = omega (arith, k.balance, z.reached);
      }

      pub admit_takes : v.first + v.total + n ≤ 2 ^ 32 → r.serial ≡ v.first + v.total → r.orders ≡ n → Takes h a (kept_in (with_line v n all rows bytes values shown')) r
      admit_takes fit serial count =
          let w : View = with_line v n all rows bytes values shown' in
          let long : length (kept_in w) ≡ n = kept-length w some in record {
            idle = idle h v k z end;
            reading = _;
            reads = record { words = reads.0; within = reads.1; only = reads.2 };
            told = kept_told w a.signatures some few;
            serials = λ i lt. ap (λ (x : Kept). x.serial) (kept_nth w some i (omega arith)) ∙ omega (arith, k.first_is, k.total_is);
            unshown = λ i lt. ap (λ (x : Kept). x.earlier) (kept_nth w some i (omega arith)) ∙ zeros i (omega arith);
            fit = omega (arith, k.first_is, k.total_is);
            serial = serial ∙ omega (arith, k.first_is, k.total_is);
            count = count ∙ sym long;
          }

-- The same of consoles.

pub sane : (s : Console) → Sane (view s)
sane s = record { reached = s.reached; counted = s.counted; shows = s.shows }

-- with no line kept, the fill is all that counts
pub unchanged : (s t : Console) → s.book.fill.orders ≤ s.at → t.number ≡ s.number → t.first ≡ s.first → t.base ≡ s.base → t.total ≡ s.total → t.at ≡ s.at → t.out ≡ s.out → t.book.fill ≡ s.book.fill → Unchanged s t
unchanged s t end number first base total at out fill = record {
  number = number;
  first = first;
  base = base;
  total = total;
  at = at;
  out = out;
  fill = fill;
  keeps = kept_none (view t) (omega (arith, ap (λ (f : Fill). f.orders) fill)) ∙ sym (kept_none (view s) end);
}

pub unadmit_led : (h : History) (s t : Console) (a : Asked) (r : Refusal) → Led h s → s.book.fill.orders ≤ s.at → Unchanged s t → TurnsDown h a r → Led (h ▹ unadmitted a r) t
unadmit_led h s t a r l end u d =
    let path : with_rows (view s) t.book.orders (take t.book.fill.bytes t.book.bytes) t.book.values t.shown ≡ view t = λ j. record {
      number = sym u.number j;
      first = sym u.first j;
      base = sym u.base j;
      total = sym u.total j;
      at = sym u.at j;
      out = sym u.out j;
      count = sym (ap (λ (f : Fill). f.orders) u.fill) j;
      rows = t.book.orders;
      bytes = take t.book.fill.bytes t.book.bytes;
      values = t.book.values;
      shown = t.shown;
    } in record {
      lawful = (l.lawful, d);
      coupled = subst (Coupled (h ▹ unadmitted a r)) path (unadmit_couples h (view s) l.coupled (sane s) end a r t.book.orders (take t.book.fill.bytes t.book.bytes) t.book.values t.shown);
    }

pub admit_led : (h : History) (s t : Console) (a : Asked) (r : Admitted) → Led h s → s.book.fill.orders ≤ s.at →
    t.number ≡ s.number → t.first ≡ s.first → t.base ≡ s.total → t.total ≡ s.total + t.book.fill.orders → t.at ≡ 0 → t.out ≡ s.out →
    1 ≤ t.book.fill.orders → t.book.fill.orders ≤ length t.book.orders → Reads {U = Unit {0}} a.names a.signatures a.judge a.line (kept_orders t.book) (kept_roles t.book) (Ok tt) →
    ((i : ℕ) → i < t.book.fill.orders → get_or t.shown i 0 ≡ 0) → s.first + s.total + t.book.fill.orders ≤ 2 ^ 32 → r.serial ≡ s.first + s.total → r.orders ≡ t.book.fill.orders → Led (h ▹ admitted a (kept t) r) t
admit_led h s t a r l end number first base total at out some few reads zeros fit serial count =
    let n = t.book.fill.orders in
    let bytes = take t.book.fill.bytes t.book.bytes in
    let path : with_line (view s) n t.total t.book.orders bytes t.book.values t.shown ≡ view t = λ j. record {
      number = sym number j;
      first = sym first j;
      base = sym base j;
      total = t.total;
      at = sym at j;
      out = sym out j;
      count = t.book.fill.orders;
      rows = t.book.orders;
      bytes = take t.book.fill.bytes t.book.bytes;
      values = t.book.values;
      shown = t.shown;
    } in
    let both : Takes h a (kept t) r × Coupled (h ▹ admitted a (kept t) r) (view t) =
    subst (λ (v : View). Takes h a (kept_in v) r × Coupled (h ▹ admitted a (kept_in v) r) v) path (
      admit_takes h (view s) l.coupled (sane s) end a n t.total t.book.orders bytes t.book.values t.shown (kept_roles t.book) some few reads zeros total r fit serial count,
      admit_couples h (view s) l.coupled (sane s) end a n t.total t.book.orders bytes t.book.values t.shown (kept_roles t.book) some few reads zeros total r,
    ) in
    record { lawful = (l.lawful, both.0); coupled = both.1 }
