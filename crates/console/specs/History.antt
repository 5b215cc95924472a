-- Histories of a console: its making and then its calls with their answers, and what is read off them. Assumes nothing.
use Rattle.std.specs.Prelude.{◌≡◌, ℕ, suc, ◌+◌, ◌<◌, ◌≤◌, max, cond, ◌⊎◌, List, [], ◌++◌, map, length, Ok, Err, Option, Result, ◌==◌, slice_index_or}
use Rattle.refusal.specs.declared.Refusal.{Refusal}
use Rattle.text.specs.Identifier.{Text}
use Rattle.register.specs.Meaning.{NameMeaning, SignatureMeaning}
use Rattle.judge.specs.Meaning.{JudgeMeaning}
use Rattle.book.specs.Kept.{KeptOrder}
use Rattle.console.specs.Keeps.{Kept}
use Rattle.console.specs.declared.console.slip.Slip.{Slip}
use Rattle.console.specs.declared.admitted.Admitted.{Admitted}
use Rattle.console.specs.declared.issued.Issued.{Issued}
use Rattle.console.specs.declared.status.Status.{Status}

infixl 4 ◌▹◌
-- what an admit is asked: the meanings of its register and judge, and the line
pub record Asked : Type 0 where
  pub names : NameMeaning
  pub signatures : SignatureMeaning
  pub judge : JudgeMeaning
  pub line : List ℕ

-- a call with what it was given and its answer; an accepted admit and an issue also tell what the console then keeps
pub data Event : Type 0 where
  admitted : Asked → List Kept → Admitted → Event
  unadmitted : Asked → Refusal → Event
  issue : List Kept → Result (Slip × Issued) Refusal → Event
  acknowledge : Slip → Result (Unit {0}) (Slip × Refusal) → Event
  lost : Slip → Result (Unit {0}) (Slip × Refusal) → Event
  withdraw : ℕ → Event
  status : Status → Event
  readback : SignatureMeaning → (serial parameter : ℕ) → Result (Option Text) Refusal → Event

-- a history: a console's making, with its number and first serial, and then its calls, the latest last
pub data History : Type 0 where
  made : (number first : ℕ) → History
  ◌▹◌ : History → Event → History

-- an accepted order, with what the recipes of its register take
pub record Accepted : Type 0 where
  pub order : KeptOrder
  pub signatures : SignatureMeaning

abbrev pub accepted_by : SignatureMeaning → Kept → Accepted
accepted_by s k = record { order = k.order; signatures = s }

-- what a call did: a refused one counts for nothing
pub data Deed : Type 0 where
  takes : List Accepted → Deed
  shows : (serial : ℕ) → Deed
  finishes : Deed
  returns : Deed
  drops : ℕ → Deed
  nothing : Deed

abbrev pub deed : Event → Deed
deed (admitted a keeps r) = takes (map (accepted_by a.signatures) keeps)
deed (unadmitted a r) = nothing
deed (issue keeps (Ok p)) = shows p.1.serial
deed (issue keeps (Err r)) = nothing
deed (acknowledge s (Ok u)) = finishes
deed (acknowledge s (Err r)) = nothing
deed (lost s (Ok u)) = returns
deed (lost s (Err r)) = nothing
deed (withdraw k) = drops k
deed (status t) = nothing
deed (readback s serial parameter r) = nothing

abbrev pub number_of : History → ℕ
number_of (made k f) = k
number_of (h ▹ e) = number_of h

-- the first serial; 0 means 1
abbrev pub first_of : History → ℕ
first_of (made k f) = max f 1
first_of (h ▹ e) = first_of h

-- the serial of the n-th order
abbrev pub serial_of : History → ℕ → ℕ
serial_of h n = first_of h + n

-- the orders of the accepted lines, end to end
abbrev pub orders_by : Deed → List Accepted → List Accepted
orders_by (takes os) before = before ++ os
orders_by (shows s) before = before
orders_by finishes before = before
orders_by returns before = before
orders_by (drops k) before = before
orders_by nothing before = before

abbrev pub orders : History → List Accepted
orders (made k f) = []
orders (h ▹ e) = orders_by (deed e) (orders h)

abbrev pub no_accepted : Accepted
no_accepted = record { order = record { recipe = 0; first = 0; words = 0; values = [] }; signatures = record { parameters = λ _. [] } }

-- the n-th order
abbrev pub order_of : History → ℕ → KeptOrder
order_of h n = (slice_index_or (orders h) n no_accepted).order

-- the recipe with which the n-th order is shown
abbrev pub recipe_of : History → ℕ → ℕ
recipe_of h n = (order_of h n).recipe

-- how many orders were accepted before the latest accepted line
abbrev pub latest_by : Deed → ℕ → ℕ → ℕ
latest_by (takes os) all before = all
latest_by (shows s) all before = before
latest_by finishes all before = before
latest_by returns all before = before
latest_by (drops k) all before = before
latest_by nothing all before = before

abbrev pub latest : History → ℕ
latest (made k f) = 0
latest (h ▹ e) = latest_by (deed e) (length (orders h)) (latest h)

-- the order whose serial an accepted issue tells is out until the next accepted acknowledge or lost
abbrev pub out_by : Deed → ℕ → Type 0 → Type 0
out_by (takes os) serial before = before
out_by (shows s) serial before = s ≡ serial
out_by finishes serial before = ⊥
out_by returns serial before = ⊥
out_by (drops k) serial before = before
out_by nothing serial before = before

abbrev pub Out : History → ℕ → Type 0
Out (made k f) n = ⊥
Out (h ▹ e) n = out_by (deed e) (serial_of h n) (Out h n)

-- an accepted acknowledge acknowledges the order that is out
abbrev pub ack_by : Deed → Type 0 → Type 0 → Type 0
ack_by (takes os) out before = before
ack_by (shows s) out before = before
ack_by finishes out before = out ⊎ before
ack_by returns out before = before
ack_by (drops k) out before = before
ack_by nothing out before = before

abbrev pub Acknowledged : History → ℕ → Type 0
Acknowledged (made k f) n = ⊥
Acknowledged (h ▹ e) n = ack_by (deed e) (Out h n) (Acknowledged h n)

-- withdraw makes all that waits withdrawn
abbrev pub drop_by : Deed → Type 0 → Type 0 → Type 0
drop_by (takes os) waits before = before
drop_by (shows s) waits before = before
drop_by finishes waits before = before
drop_by returns waits before = before
drop_by (drops k) waits before = waits ⊎ before
drop_by nothing waits before = before

abbrev pub Withdrawn : History → ℕ → Type 0
Withdrawn (made k f) n = ⊥
Withdrawn (h ▹ e) n = drop_by (deed e) ((n < length (orders h)) × (¬ Out h n) × (¬ Acknowledged h n) × (¬ Withdrawn h n)) (Withdrawn h n)

-- an order that is neither out, acknowledged nor withdrawn waits
pub record Waits (h : History) (n : ℕ) : Type 0 where
  pub within : n < length (orders h)
  pub not_out : ¬ Out h n
  pub not_acknowledged : ¬ Acknowledged h n
  pub not_withdrawn : ¬ Withdrawn h n

-- how many accepted issues showed the n-th order
abbrev pub shown_by : Deed → ℕ → ℕ → ℕ
shown_by (takes os) serial before = before
shown_by (shows s) serial before = cond (s == serial) (before + 1) before
shown_by finishes serial before = before
shown_by returns serial before = before
shown_by (drops k) serial before = before
shown_by nothing serial before = before

abbrev pub shown : History → ℕ → ℕ
shown (made k f) n = 0
shown (h ▹ e) n = shown_by (deed e) (serial_of h n) (shown h n)

-- how many acknowledges were accepted
abbrev pub acks_by : Deed → ℕ → ℕ
acks_by (takes os) before = before
acks_by (shows s) before = before
acks_by finishes before = before + 1
acks_by returns before = before
acks_by (drops k) before = before
acks_by nothing before = before

abbrev pub acks : History → ℕ
acks (made k f) = 0
acks (h ▹ e) = acks_by (deed e) (acks h)

-- how many orders the withdraws withdrew, by their answers
abbrev pub dropped_by : Deed → ℕ → ℕ
dropped_by (takes os) before = before
dropped_by (shows s) before = before
dropped_by finishes before = before
dropped_by returns before = before
dropped_by (drops k) before = before + k
dropped_by nothing before = before

abbrev pub dropped : History → ℕ
dropped (made k f) = 0
dropped (h ▹ e) = dropped_by (deed e) (dropped h)

-- `k` of the numbers below `n` have `P`
pub data Counted (P : ℕ → Type 0) : ℕ → ℕ → Type 0 where
  none : Counted P 0 0
  one : {n k : ℕ} → P n → Counted P n k → Counted P (suc n) (suc k)
  skip : {n k : ℕ} → ¬ P n → Counted P n k → Counted P (suc n) k

-- no order is out
abbrev pub Free : History → Type 0
Free h = (n : ℕ) → ¬ Out h n

-- no line is kept: nothing is out, and nothing waits
abbrev pub Idle : History → Type 0
Idle h = (n : ℕ) → (¬ Out h n) × (¬ Waits h n)

-- a line is kept: an order is out or waits
abbrev pub Busy : History → Type 0
Busy h = (n : ℕ) × (Out h n ⊎ Waits h n)

-- the n-th order is kept: a line is, the order is of the latest one, and it was not withdrawn
pub record IsKept (h : History) (n : ℕ) : Type 0 where
  pub busy : Busy h
  pub from : latest h ≤ n
  pub within : n < length (orders h)
  pub not_withdrawn : ¬ Withdrawn h n

-- the n-th order is the first that waits
pub record First (h : History) (n : ℕ) : Type 0 where
  pub waits : Waits h n
  pub least : (m : ℕ) → m < n → ¬ Waits h m
