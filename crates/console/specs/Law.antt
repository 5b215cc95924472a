-- The law of the console over every history, and what follows from it in the words of its users. Assumes nothing.
use Rattle.std.specs.Prelude.{◌≡◌, ℕ, ◌+◌, ◌^◌, ◌<◌, min, true, cond, ◌↔◌, List, [], ◌∷◌, length, is_ok, is_some, Some, Ok, Result, ◌≢◌, slice_index_or}
use Rattle.refusal.specs.declared.Refusal.{Refusal}
use Rattle.refusal.specs.declared.Refusal.TheVariants.{LineKept, SerialsEnd}
use Rattle.text.specs.Identifier.{Text}
use Rattle.text.specs.Line.{Within}
use Rattle.reading.specs.Line as line
use Rattle.reading.specs.Line.{Order, Reading}
use Rattle.book.specs.Kept.{told_as}
use Rattle.console.specs.Keeps.{Kept, kept, at_serial}
use Rattle.console.specs.History.{Asked, Event, History, ◌▹◌, admitted, unadmitted, issue, acknowledge, lost, withdraw, status, first_of, serial_of, orders, order_of, Out, Acknowledged, Withdrawn, Waits, shown, Free, Idle, Busy}
use Rattle.console.specs.Right.{Right, Lawful, ReadsAs, Fits, Outs, Balanced, KeptUnder}
use Rattle.console.specs.State.{Led}
use Rattle.console.specs.declared.console.Console.{Console}
use Rattle.console.specs.declared.console.slip.Slip.{Slip}
use Rattle.console.specs.declared.admitted.Admitted.{Admitted}
use Rattle.console.specs.declared.issued.Issued.{Issued}
use Rattle.console.specs.declared.status.Status.{Status}

-- a history with more calls behind it
abbrev pub later : History → List Event → History
later h [] = h
later h (e ∷ es) = later (h ▹ e) es

-- the n-th order is an order of the only lawful reading of an admit's line, group by group
pub record AsRead (h : History) (n : ℕ) : Type 0 where
  pub asked : Asked
  pub reading : Reading
  pub reads : ReadsAs asked reading
  pub place : ℕ
  pub within : place < length reading.orders
  pub whole : (d : Order) → told_as asked.signatures (order_of h n) ≡ slice_index_or reading.orders place d

-- a serial would pass the top
abbrev pub PassesTop : History → Reading → Type 0
PassesTop h reading = 2 ^ 32 < first_of h + length (orders h) + length reading.orders

pub record LawStands : Type 0 where
  -- every answer in every history that led to a console was right at its turn
  pub every : (h : History) (e : Event) (es : List Event) (c : Console) → Led (later (h ▹ e) es) c → Right h e
  -- after every history a console keeps exactly the kept orders, every value as it was read, each with how often it was issued, counted to 255
  pub keeps_exactly : (h : History) (c : Console) → Led h c → (serial : ℕ) (k : Kept) → (at_serial serial (kept c) ≡ Some k) ↔ ((n : ℕ) × KeptUnder h serial n × (k.serial ≡ serial) × (k.order ≡ order_of h n) × (k.earlier ≡ min 255 (shown h n)))
  -- Admit.

  -- it is refused for a kept line exactly when one is kept
  pub line_kept : (h : History) (a : Asked) → Right h (unadmitted a LineKept) ↔ Busy h
  -- it is refused for its serials exactly when no line is kept, the line reads, and a serial would pass the top
  pub serials_end : (h : History) (a : Asked) → Right h (unadmitted a SerialsEnd) ↔ (Idle h × ((reading : Reading) × ReadsAs a reading × PassesTop h reading))
  -- a line within the limits that has a lawful reading is refused for nothing else
  pub reads_enter : (h : History) (a : Asked) (r : Refusal) → Right h (unadmitted a r) → Idle h → (words : List Text) (reading : Reading) → Within a.line words → line.Lawful a.names a.signatures a.judge words reading → (r ≡ SerialsEnd) × PassesTop h reading
  -- an admit is never both accepted and refused, and one refusal is due
  pub never_both : (h : History) (a : Asked) (keeps : List Kept) (r : Admitted) (refusal : Refusal) → Right h (admitted a keeps r) → Right h (unadmitted a refusal) → ⊥
  pub one_refusal : (h : History) (a : Asked) (r s : Refusal) → Right h (unadmitted a r) → Right h (unadmitted a s) → r ≡ s
  -- every other lawful reading equals the one that is kept
  pub only_reading : (h : History) (a : Asked) (keeps : List Kept) (r : Admitted) (t : Right h (admitted a keeps r)) (words : List Text) (other : Reading) → Within a.line words → line.Lawful a.names a.signatures a.judge words other → other ≡ t.reading
  -- Issue.

  -- it is accepted exactly when none is out and some order waits
  pub issue_exactly : (h : History) (keeps : List Kept) (r : Result (Slip × Issued) Refusal) → Right h (issue keeps r) → (is_ok r ≡ true) ↔ (Free h × ((n : ℕ) × Waits h n))
  -- one order is out at a time
  pub one_out : (h : History) (m n : ℕ) → Out h m → Out h n → m ≡ n
  -- a finished order stays finished, and is never issued again, whatever calls follow
  pub never_again : (h : History) (n : ℕ) → Acknowledged h n → (es : List Event) (keeps : List Kept) (p : Slip × Issued) → Right (later h es) (issue keeps (Ok p)) → p.1.serial ≢ serial_of h n
  pub never_withdrawn : (h : History) (n : ℕ) → Withdrawn h n → (es : List Event) (keeps : List Kept) (p : Slip × Issued) → Right (later h es) (issue keeps (Ok p)) → p.1.serial ≢ serial_of h n
  -- an order keeps its serial, and a serial its order, whatever calls follow
  pub one_serial : (h : History) (n : ℕ) (es : List Event) → serial_of (later h es) n ≡ serial_of h n
  pub one_order : (h : History) (n : ℕ) (es : List Event) → n < length (orders h) → order_of (later h es) n ≡ order_of h n
  -- what is issued was read: every text of every group
  pub as_read : (h : History) → Lawful h → (n : ℕ) → n < length (orders h) → AsRead h n
  -- Slips.

  -- acknowledge and lost are accepted exactly when an order is out and the slip has its parts
  pub acknowledge_exactly : (h : History) (s : Slip) (r : Result (Unit {0}) (Slip × Refusal)) → Right h (acknowledge s r) → (is_ok r ≡ true) ↔ Fits h s
  pub lost_exactly : (h : History) (s : Slip) (r : Result (Unit {0}) (Slip × Refusal)) → Right h (lost s r) → (is_ok r ≡ true) ↔ Fits h s
  -- Balance: accepted orders are acknowledged, withdrawn, waiting or out.

  pub status_balance : (h : History) (t : Status) → Right h (status t) → Balanced h t.waiting (cond (is_some t.out) 1 0)
  pub withdraw_balance : (h : History) (waiting out : ℕ) → Right h (withdraw waiting) → Outs h out → Balanced h waiting out
