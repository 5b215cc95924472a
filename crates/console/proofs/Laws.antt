-- The law read as the promises are worded.
use Rattle.std.proofs.Common.{◌≡◌, ℕ, ◌+◌, ◌-◌, ◌<◌, ◌≤◌, min, true, ◌⊎◌, ◌↔◌, List, [], ◌∷◌, ◌++◌, map, length, get_or, is_ok, Some, Ok, Err, Result, sym, refl, ap, ◌∙◌, subst, inl, inr, arith}
use native.Mathlib.Decide.{dec_lt}
use Rattle.std.proofs.lemmas.List.{length-append, length-map, get_or_append_left, get_or-append_right, get_or-map}
use Rattle.refusal.specs.declared.Refusal.{Refusal}
use Rattle.refusal.specs.declared.Refusal.TheVariants.{LineKept, SerialsEnd}
use Rattle.text.specs.Identifier.{Text}
use Rattle.text.specs.Line.{Within}
use Rattle.text.proofs.Lines.{line_stands}
use Rattle.reading.specs.Line as line
use Rattle.reading.specs.Line.{Order, Reading}
use Rattle.book.specs.Kept.{told_as}
use Rattle.console.specs.Keeps.{Kept, view, kept, kept_at, order_at, at_serial}
use Rattle.console.specs.History.{Asked, Event, History, made, ◌▹◌, admitted, unadmitted, issue, acknowledge, lost, withdraw, status, readback, Accepted, accepted_by, Deed, takes, shows, finishes, returns, drops, nothing, deed, orders_by, out_by, ack_by, drop_by, first_of, serial_of, orders, order_of, no_accepted, Out, Acknowledged, Withdrawn, Waits, shown, Free, Idle, Busy}
use Rattle.console.specs.Right.{Right, Lawful, ReadsAs, Takes, TurnsDown, Shows, ShowsNot, Fits, KeptUnder, no_kept}
use Rattle.console.specs.State.{Led, Coupled}
use Rattle.console.specs.Law.{later, AsRead, PassesTop, LawStands}
use Rattle.console.specs.declared.console.Console.{Console}
use Rattle.console.specs.declared.console.slip.Slip.{Slip}
use Rattle.console.specs.declared.admitted.Admitted.{Admitted}
use Rattle.console.specs.declared.issued.Issued.{Issued}
use Rattle.console.proofs.Waiting.{row_is_kept}
use Rattle.console.proofs.Serials.{kept_under, under_row}
use Rattle.console.proofs.Sources.{under}
use Rattle.console.proofs.Admission.{sane}
use Rattle.console.proofs.Layers.{plain_limit, plain_fault, not_state}

-- Histories with more calls behind them.

lawful_before : (h : History) (es : List Event) → Lawful (later h es) → Lawful h
lawful_before h [] l = l
lawful_before h (e ∷ es) l = (lawful_before (h ▹ e) es l).0

first_later : (h : History) (es : List Event) → first_of (later h es) ≡ first_of h
first_later h [] = refl
first_later h (e ∷ es) = first_later (h ▹ e) es

acknowledged_on : (h : History) (n : ℕ) (d : Deed) → Acknowledged h n → ack_by d (Out h n) (Acknowledged h n)
acknowledged_on h n (takes os) x = x
acknowledged_on h n (shows s) x = x
acknowledged_on h n finishes x = inr x
acknowledged_on h n returns x = x
acknowledged_on h n (drops k) x = x
acknowledged_on h n nothing x = x

acknowledged_later : (h : History) (n : ℕ) (es : List Event) → Acknowledged h n → Acknowledged (later h es) n
acknowledged_later h n [] x = x
acknowledged_later h n (e ∷ es) x = acknowledged_later (h ▹ e) n es (acknowledged_on h n (deed e) x)

withdrawn_on : (h : History) (n : ℕ) (d : Deed) (w : Type 0) → Withdrawn h n → drop_by d w (Withdrawn h n)
withdrawn_on h n (takes os) w x = x
withdrawn_on h n (shows s) w x = x
withdrawn_on h n finishes w x = x
withdrawn_on h n returns w x = x
withdrawn_on h n (drops k) w x = inr x
withdrawn_on h n nothing w x = x

withdrawn_later : (h : History) (n : ℕ) (es : List Event) → Withdrawn h n → Withdrawn (later h es) n
withdrawn_later h n [] x = x
withdrawn_later h n (e ∷ es) x = withdrawn_later (h ▹ e) n es (withdrawn_on h n (deed e) _ x)

order_on : (h : History) (n : ℕ) (d : Deed) → n < length (orders h) → (get_or (orders_by d (orders h)) n no_accepted).order ≡ order_of h n
order_on h n (takes os) lt = ap (λ (x : Accepted). x.order) (get_or_append_left (orders h) os no_accepted n lt)
order_on h n (shows s) lt = refl
order_on h n finishes lt = refl
order_on h n returns lt = refl
order_on h n (drops k) lt = refl
order_on h n nothing lt = refl

more_orders : (h : History) (n : ℕ) (d : Deed) → n < length (orders h) → n < length (orders_by d (orders h))
more_orders h n (takes os) lt = omega (arith, length-append (orders h) os)
more_orders h n (shows s) lt = lt
more_orders h n finishes lt = lt
more_orders h n returns lt = lt
more_orders h n (drops k) lt = lt
more_orders h n nothing lt = lt

order_later : (h : History) (n : ℕ) (es : List Event) → n < length (orders h) → order_of (later h es) n ≡ order_of h n
order_later h n [] lt = refl
order_later h n (e ∷ es) lt = order_later (h ▹ e) n es (more_orders h n (deed e) lt) ∙ order_on h n (deed e) lt

-- Admit.

busy_or : {h : History} {a : Asked} {r : Refusal} → TurnsDown h a r → r ≡ LineKept → Busy h
busy_or (TurnsDown.kept b) e = b
busy_or (TurnsDown.limit i over) e = absurd (not_state _ _ (plain_limit over) refl e)
busy_or (TurnsDown.fault i words w f) e = absurd (not_state _ _ (plain_fault f.right) refl e)
busy_or (TurnsDown.serials i reading rs over) e = cc

passes_or : {h : History} {a : Asked} {r : Refusal} → TurnsDown h a r → r ≡ SerialsEnd → Idle h × ((reading : Reading) × ReadsAs a reading × PassesTop h reading)
passes_or (TurnsDown.kept b) e = cc
passes_or (TurnsDown.limit i over) e = absurd (not_state _ _ (plain_limit over) refl e)
passes_or (TurnsDown.fault i words w f) e = absurd (not_state _ _ (plain_fault f.right) refl e)
passes_or (TurnsDown.serials i reading rs over) e = (i, (reading, rs, over))

not_both : {h : History} → Idle h → Busy h → ⊥
not_both {h} i (n, x) = go x
  where
    go : Out h n ⊎ Waits h n → ⊥
    go (inl o) = (i n).0 o
    go (inr w) = (i n).1 w

module _ (a : Asked) (words : List Text) (reading : Reading) (within : Within a.line words) (lawful : line.Lawful a.names a.signatures a.judge words reading) where
  moved : (others : List Text) → Within a.line others → line.Lawful a.names a.signatures a.judge others reading
  moved others w = subst (λ (ws : List Text). line.Lawful a.names a.signatures a.judge ws reading) (line_stands.only a.line words others within.cut w.cut) lawful

  same_reading : (other : Reading) → ReadsAs a other → reading ≡ other
  same_reading other rs =
      let e : ◌≡◌ {A = Result Reading Refusal} (Ok reading) (Ok other) = rs.only.only (Ok reading) (moved rs.words rs.within) in
      cc

  enters : {h : History} {r : Refusal} → TurnsDown h a r → Idle h → (r ≡ SerialsEnd) × PassesTop h reading
  enters (TurnsDown.kept b) idle = absurd (not_both idle b)
  enters (TurnsDown.limit i over) idle = absurd (line_stands.apart a.line words _ within over)
  enters (TurnsDown.fault {r} i ws w f) idle =
      let e : ◌≡◌ {A = Result Reading Refusal} (Ok reading) (Err r) = f.only (Ok reading) (moved ws w) in
      cc
  enters {h} (TurnsDown.serials i other rs over) idle = (refl, subst (PassesTop h) (sym (same_reading other rs)) over)

-- a fault read with other words is a fault of these
moved_fault : (a : Asked) (words others : List Text) (r : Refusal) → Within a.line words → Within a.line others → line.FirstFault a.names a.signatures a.judge words r → line.FirstFault a.names a.signatures a.judge others r
moved_fault a words others r v w f = subst (λ (ws : List Text). line.FirstFault a.names a.signatures a.judge ws r) (line_stands.only a.line words others v.cut w.cut) f

-- a line that reads has no fault
read_no_fault : (a : Asked) (reading : Reading) (words : List Text) (r : Refusal) → ReadsAs a reading → Within a.line words → line.FirstFault a.names a.signatures a.judge words r → ⊥
read_no_fault a reading words r rs w f =
    let e : ◌≡◌ {A = Result Reading Refusal} (Err r) (Ok reading) = rs.only.only (Err r) (moved_fault a words rs.words r w rs.within f) in
    cc

same_fault : (a : Asked) (words others : List Text) (r s : Refusal) → Within a.line words → Within a.line others → line.OnlyReading a.names a.signatures a.judge words (Err r) → line.OnlyReading a.names a.signatures a.judge others (Err s) → r ≡ s
same_fault a words others r s v w f g =
    let e : ◌≡◌ {A = Result Reading Refusal} (Err s) (Err r) = f.only (Err s) (moved_fault a others words s w v g.right) in
    cc

one_refusal : (h : History) (a : Asked) {r s : Refusal} → TurnsDown h a r → TurnsDown h a s → r ≡ s
one_refusal h a (TurnsDown.kept b) (TurnsDown.kept c) = refl
one_refusal h a (TurnsDown.kept b) (TurnsDown.limit i over) = absurd (not_both i b)
one_refusal h a (TurnsDown.kept b) (TurnsDown.fault i ws w f) = absurd (not_both i b)
one_refusal h a (TurnsDown.kept b) (TurnsDown.serials i reading rs over) = absurd (not_both i b)
one_refusal h a (TurnsDown.limit i over) (TurnsDown.kept b) = absurd (not_both i b)
one_refusal h a (TurnsDown.limit i over) (TurnsDown.limit j under) = line_stands.first a.line _ _ over under
one_refusal h a (TurnsDown.limit i over) (TurnsDown.fault j ws w f) = absurd (line_stands.apart a.line ws _ w over)
one_refusal h a (TurnsDown.limit i over) (TurnsDown.serials j reading rs past) = absurd (line_stands.apart a.line rs.words _ rs.within over)
one_refusal h a (TurnsDown.fault i ws w f) (TurnsDown.kept b) = absurd (not_both i b)
one_refusal h a (TurnsDown.fault i ws w f) (TurnsDown.limit j over) = absurd (line_stands.apart a.line ws _ w over)
one_refusal h a (TurnsDown.fault i ws w f) (TurnsDown.fault j vs v g) = same_fault a ws vs _ _ w v f g
one_refusal h a (TurnsDown.fault i ws w f) (TurnsDown.serials j reading rs past) = absurd (read_no_fault a reading ws _ rs w f.right)
one_refusal h a (TurnsDown.serials i reading rs past) (TurnsDown.kept b) = absurd (not_both i b)
one_refusal h a (TurnsDown.serials i reading rs past) (TurnsDown.limit j over) = absurd (line_stands.apart a.line rs.words _ rs.within over)
one_refusal h a (TurnsDown.serials i reading rs past) (TurnsDown.fault j ws w f) = absurd (read_no_fault a reading ws _ rs w f.right)
one_refusal h a (TurnsDown.serials i reading rs past) (TurnsDown.serials j other qs gone) = refl

never_both : (h : History) (a : Asked) (keeps : List Kept) (r : Admitted) {refusal : Refusal} → Takes h a keeps r → TurnsDown h a refusal → ⊥
never_both h a keeps r t (TurnsDown.kept b) = not_both t.idle b
never_both h a keeps r t (TurnsDown.limit i over) = line_stands.apart a.line t.reads.words _ t.reads.within over
never_both h a keeps r t (TurnsDown.fault i ws w f) = read_no_fault a t.reading ws _ t.reads w f.right
never_both h a keeps r t (TurnsDown.serials i other rs past) =
    let told : Kept → Order = λ k. told_as a.signatures k.order in
    let same : t.reading ≡ other = same_reading a t.reads.words t.reading t.reads.within t.reads.only.right other rs in
    let long : length t.reading.orders ≡ length other.orders = ap (λ (x : Reading). length x.orders) same in
    omega (arith, t.fit, past, long, ap length t.told, length-map keeps told)

-- Issue.

issue_exactly : (h : History) (keeps : List Kept) (r : Result (Slip × Issued) Refusal) → Right h (issue keeps r) → (is_ok r ≡ true) ↔ (Free h × ((n : ℕ) × Waits h n))
issue_exactly h keeps (Ok p) t = (λ _. (t.free, (t.n, t.next.waits)), λ _. refl)
issue_exactly h keeps (Err r) t = (λ e. cc, λ w. absurd (no_way t w))
  where
    no_way : ShowsNot h r → Free h × ((n : ℕ) × Waits h n) → ⊥
    no_way (inl x) w = w.0 x.1.0 x.1.1
    no_way (inr x) w = (x.1 w.1.0).1 w.1.1

one_out_on : (h : History) (m n : ℕ) (d : Deed) → (Out h m → Out h n → m ≡ n) → out_by d (serial_of h m) (Out h m) → out_by d (serial_of h n) (Out h n) → m ≡ n
one_out_on h m n (takes os) ih x y = ih x y
one_out_on h m n (shows s) ih x y = omega arith
one_out_on h m n finishes ih x y = absurd x
one_out_on h m n returns ih x y = absurd x
one_out_on h m n (drops k) ih x y = ih x y
one_out_on h m n nothing ih x y = ih x y

one_out : (h : History) (m n : ℕ) → Out h m → Out h n → m ≡ n
one_out (made k f) m n x y = absurd x
one_out (h ▹ e) m n x y = one_out_on h m n (deed e) (one_out h m n) x y

shown_number : (h : History) (n : ℕ) (es : List Event) (keeps : List Kept) (p : Slip × Issued) → (t : Shows (later h es) keeps p.0 p.1) → p.1.serial ≡ serial_of h n → t.n ≡ n
shown_number h n es keeps p t e = omega (arith, t.serial, e, first_later h es)

never_again : (h : History) (n : ℕ) → Acknowledged h n → (es : List Event) (keeps : List Kept) (p : Slip × Issued) → Right (later h es) (issue keeps (Ok p)) → p.1.serial ≡ serial_of h n → ⊥
never_again h n x es keeps p t e = t.next.waits.not_acknowledged (subst (Acknowledged (later h es)) (sym (shown_number h n es keeps p t e)) (acknowledged_later h n es x))

never_withdrawn : (h : History) (n : ℕ) → Withdrawn h n → (es : List Event) (keeps : List Kept) (p : Slip × Issued) → Right (later h es) (issue keeps (Ok p)) → p.1.serial ≡ serial_of h n → ⊥
never_withdrawn h n x es keeps p t e = t.next.waits.not_withdrawn (subst (Withdrawn (later h es)) (sym (shown_number h n es keeps p t e)) (withdrawn_later h n es x))

-- What was read.

read_on : {h g : History} {n : ℕ} → order_of g n ≡ order_of h n → AsRead h n → AsRead g n
read_on {h} {g} {n} e r = record { asked = r.asked; reading = r.reading; reads = r.reads; place = r.place; within = r.within; whole = λ d. ap (told_as r.asked.signatures) e ∙ r.whole d }

read_new : (h : History) (a : Asked) (keeps : List Kept) (r : Admitted) → Takes h a keeps r → (n : ℕ) → length (orders h) ≤ n → n < length (orders h ++ map (accepted_by a.signatures) keeps) → AsRead (h ▹ admitted a keeps r) n
read_new h a keeps r t n ge lt =
    let accept : Kept → Accepted = accepted_by a.signatures in
    let told : Kept → Order = λ k. told_as a.signatures k.order in
    let i : ℕ = n - length (orders h) in
    let short : i < length keeps = omega (arith, length-append (orders h) (map accept keeps), length-map keeps accept) in
    let there : get_or (orders h ++ map accept keeps) n no_accepted ≡ accept (get_or keeps i no_kept) = get_or-append_right (orders h) (map accept keeps) (length (orders h)) n no_accepted refl ge ∙ get_or-map accept keeps i no_kept no_accepted short in record {
      asked = a;
      reading = t.reading;
      reads = t.reads;
      place = i;
      within = omega (arith, ap length t.told, length-map keeps told);
      whole = λ d. ap (λ (x : Accepted). told_as a.signatures x.order) there ∙ sym (get_or-map told keeps i no_kept d short) ∙ ap (λ os. get_or os i d) t.told;
    }

read_step : (h : History) (e : Event) → ((n : ℕ) → n < length (orders h) → AsRead h n) → Right h e → (n : ℕ) → n < length (orders (h ▹ e)) → AsRead (h ▹ e) n
read_step h (admitted a keeps r) ih t n lt = go (dec_lt n (length (orders h)))
  where
    go : Dec (n < length (orders h)) → AsRead (h ▹ admitted a keeps r) n
    go (yes b) = read_on (order_on h n (deed (admitted a keeps r)) b) (ih n b)
    go (no b) = read_new h a keeps r t n (omega arith) lt
read_step h (unadmitted a r) ih t n lt = read_on refl (ih n lt)
read_step h (issue keeps (Ok p)) ih t n lt = read_on refl (ih n lt)
read_step h (issue keeps (Err r)) ih t n lt = read_on refl (ih n lt)
read_step h (acknowledge s (Ok u)) ih t n lt = read_on refl (ih n lt)
read_step h (acknowledge s (Err r)) ih t n lt = read_on refl (ih n lt)
read_step h (lost s (Ok u)) ih t n lt = read_on refl (ih n lt)
read_step h (lost s (Err r)) ih t n lt = read_on refl (ih n lt)
read_step h (withdraw k) ih t n lt = read_on refl (ih n lt)
read_step h (status s) ih t n lt = read_on refl (ih n lt)
read_step h (readback s serial parameter r) ih t n lt = read_on refl (ih n lt)

as_read : (h : History) → Lawful h → (n : ℕ) → n < length (orders h) → AsRead h n
as_read (made k f) l n lt = absurd (omega arith)
as_read (h ▹ e) l n lt = read_step h e (as_read h l.0) l.1 n lt

-- Slips.

acknowledge_exactly : (h : History) (s : Slip) (r : Result (Unit {0}) (Slip × Refusal)) → Right h (acknowledge s r) → (is_ok r ≡ true) ↔ Fits h s
acknowledge_exactly h s (Ok u) t = (λ _. t, λ _. refl)
acknowledge_exactly h s (Err p) t = (λ e. cc, λ f. absurd (t.unfit f))

lost_exactly : (h : History) (s : Slip) (r : Result (Unit {0}) (Slip × Refusal)) → Right h (lost s r) → (is_ok r ≡ true) ↔ Fits h s
lost_exactly h s (Ok u) t = (λ _. t, λ _. refl)
lost_exactly h s (Err p) t = (λ e. cc, λ f. absurd (t.unfit f))

-- What is kept.

keeps_exactly : (h : History) (c : Console) → Led h c → (serial : ℕ) (k : Kept) → (at_serial serial (kept c) ≡ Some k) ↔ ((n : ℕ) × KeptUnder h serial n × (k.serial ≡ serial) × (k.order ≡ order_of h n) × (k.earlier ≡ min 255 (shown h n)))
keeps_exactly h c l serial k = (there, back)
  where
    t : Coupled h (view c)
    t = l.coupled

    there : at_serial serial (kept c) ≡ Some k → (n : ℕ) × KeptUnder h serial n × (k.serial ≡ serial) × (k.order ≡ order_of h n) × (k.earlier ≡ min 255 (shown h n))
    there e =
        let r = under_row (view c) serial k e in (
          (view c).base + r.0,
          under h (view c) t (sane c) serial r.0 r.1 r.2 r.3,
          ap (λ (x : Kept). x.serial) r.4 ∙ sym r.3,
          ap (λ (x : Kept). x.order) r.4 ∙ t.order_is r.0 r.1 r.2,
          ap (λ (x : Kept). x.earlier) r.4 ∙ t.shown_is r.0 r.1 r.2,
        )

    back : (n : ℕ) × KeptUnder h serial n × (k.serial ≡ serial) × (k.order ≡ order_of h n) × (k.earlier ≡ min 255 (shown h n)) → at_serial serial (kept c) ≡ Some k
    back x =
        let n : ℕ = x.0 in
        let r = row_is_kept h (view c) t (sane c) n x.1.kept in
        let i : ℕ = n - c.base in
        let ic : i < c.book.fill.orders = omega (arith, r.1, r.2) in
        let s : serial ≡ c.first + c.base + i = omega (arith, r.1, x.1.serial, t.first_is) in
        let same : c.base + i ≡ n = omega (arith, r.1) in
        let o : order_at (view c) i ≡ k.order = t.order_is i r.0 ic ∙ ap (order_of h) same ∙ sym x.3 in
        let e : get_or c.shown i 0 ≡ k.earlier = t.shown_is i r.0 ic ∙ ap (λ (m : ℕ). min 255 (shown h m)) same ∙ sym x.4 in
        let q : c.first + c.base + i ≡ k.serial = sym s ∙ sym x.2 in
        let whole : kept_at (view c) i ≡ k = λ j. record { serial = q j; order = o j; earlier = e j } in
        ap (λ (y : ℕ). at_serial y (kept c)) s ∙ kept_under (view c) i r.0 ic ∙ ap Some whole

pub law_stands : LawStands
law_stands = record {
  every = λ h e es c led. (lawful_before (h ▹ e) es led.lawful).1;
  keeps_exactly = keeps_exactly;
  line_kept = λ h a. (λ t. busy_or t refl, TurnsDown.kept);
  serials_end = λ h a. (λ t. passes_or t refl, λ x. TurnsDown.serials x.0 x.1.0 x.1.1 x.1.2);
  reads_enter = λ h a r t idle words reading within lawful. enters a words reading within lawful t idle;
  never_both = λ h a keeps r refusal t d. never_both h a keeps r t d;
  one_refusal = λ h a r s d e. one_refusal h a d e;
  only_reading = λ h a keeps r t words other within lawful. same_reading a words other within lawful t.reading t.reads;
  issue_exactly = issue_exactly;
  one_out = one_out;
  never_again = never_again;
  never_withdrawn = never_withdrawn;
  one_serial = λ h n es. ap (λ (f : ℕ). f + n) (first_later h es);
  one_order = λ h n es lt. order_later h n es lt;
  as_read = as_read;
  acknowledge_exactly = acknowledge_exactly;
  lost_exactly = lost_exactly;
  status_balance = λ h t r. r.balance;
  withdraw_balance = λ h waiting out r x. r.balance out x;
}
