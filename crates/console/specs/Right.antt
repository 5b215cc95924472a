-- The right answer to each call of a console, after the calls before it. Assumes nothing.
use Rattle.std.specs.Prelude.{◌≡◌, ℕ, ◌+◌, ◌^◌, ◌<◌, ◌≤◌, min, cond, is_some, ◌⊎◌, List, [], ◌∷◌, map, length, Some, None, Ok, Err, Option, Result, slice_index_or}
use Rattle.std.specs.Option.{option_map}
use Rattle.refusal.specs.declared.Refusal.{Refusal}
use Rattle.refusal.specs.declared.Refusal.TheVariants.{NoSuchParameter, LineKept, SerialsEnd, OrderOut, NoneWaiting, WrongSlip, NotKept}
use Rattle.text.specs.Identifier.{Text}
use Rattle.text.specs.Line.{Within, Oversteps}
use Rattle.register.specs.Meaning.{SignatureMeaning, ParameterMeaning}
use Rattle.register.specs.Parameters.{default_at}
use Rattle.reading.specs.Reading.{Value, group}
use Rattle.reading.specs.Line.{Reading, OnlyReading}
use Rattle.book.specs.Kept.{KeptOrder, told_as}
use Rattle.console.specs.Keeps.{Kept, at_serial}
use Rattle.console.specs.History.{Asked, Event, History, made, ◌▹◌, admitted, unadmitted, issue, acknowledge, lost, withdraw, status, readback, number_of, first_of, serial_of, orders, order_of, recipe_of, Out, Waits, shown, acks, dropped, Counted, Free, Idle, Busy, IsKept, First}
use Rattle.console.specs.declared.console.slip.Slip.{Slip}
use Rattle.console.specs.declared.admitted.Admitted.{Admitted}
use Rattle.console.specs.declared.issued.Issued.{Issued}
use Rattle.console.specs.declared.status.Status.{Status}

-- the line keeps the limits, and this is its only lawful reading
pub record ReadsAs (a : Asked) (reading : Reading) : Type 0 where
  pub words : List Text
  pub within : Within a.line words
  pub only : OnlyReading a.names a.signatures a.judge words (Ok reading)

abbrev pub no_kept : Kept
no_kept = record { serial = 0; order = record { recipe = 0; first = 0; words = 0; values = [] }; earlier = 0 }

-- an accepted admit: no line was kept, and what is kept now is the only lawful reading, under the next serials and never issued
pub record Takes (h : History) (a : Asked) (keeps : List Kept) (r : Admitted) : Type 0 where
  pub idle : Idle h
  pub reading : Reading
  pub reads : ReadsAs a reading
  pub told : map (λ k. told_as a.signatures k.order) keeps ≡ reading.orders
  pub serials : (i : ℕ) → i < length keeps → (slice_index_or keeps i no_kept).serial ≡ serial_of h (length (orders h) + i)
  pub unshown : (i : ℕ) → i < length keeps → (slice_index_or keeps i no_kept).earlier ≡ 0
  pub fit : first_of h + length (orders h) + length keeps ≤ 2 ^ 32
  pub serial : r.serial ≡ serial_of h (length (orders h))
  pub count : r.orders ≡ length keeps

-- a refused admit: a line is kept; or none is, and the reader refuses the line; or it reads, and a serial would pass the top
pub data TurnsDown (h : History) (a : Asked) : Refusal → Type 0 where
  kept : Busy h → TurnsDown h a LineKept
  limit : {r : Refusal} → Idle h → Oversteps a.line r → TurnsDown h a r
  fault : {r : Refusal} → Idle h → (words : List Text) → Within a.line words → OnlyReading a.names a.signatures a.judge words (Err r) → TurnsDown h a r
  serials : Idle h → (reading : Reading) → ReadsAs a reading → 2 ^ 32 < first_of h + length (orders h) + length reading.orders → TurnsDown h a SerialsEnd

-- a slip bears the parts of the n-th order: the console's number and the order's serial
pub record Bears (h : History) (s : Slip) (n : ℕ) : Type 0 where
  pub number : s.number ≡ number_of h
  pub serial : s.serial ≡ serial_of h n

-- an accepted issue: none is out, and the first order that waits is shown; what is kept of it is every value as read
pub record Shows (h : History) (keeps : List Kept) (s : Slip) (i : Issued) : Type 0 where
  pub free : Free h
  pub n : ℕ
  pub next : First h n
  pub serial : i.serial ≡ serial_of h n
  pub recipe : i.recipe ≡ recipe_of h n
  pub first : i.first ≡ (order_of h n).first
  pub words : i.words ≡ (order_of h n).words
  pub earlier : i.earlier ≡ min 255 (shown h n)
  pub whole : option_map (λ k. k.order) (at_serial (serial_of h n) keeps) ≡ Some (order_of h n)
  pub slip : Bears h s n

-- a refused issue: an order is out; or none is, and none waits
abbrev pub ShowsNot : History → Refusal → Type 0
ShowsNot h r = ((r ≡ OrderOut) × ((n : ℕ) × Out h n)) ⊎ ((r ≡ NoneWaiting) × Idle h)

-- the n-th order is out, and the slip has its parts
pub record Fits (h : History) (s : Slip) : Type 0 where
  pub n : ℕ
  pub out : Out h n
  pub parts : Bears h s n

-- a refused slip comes back
pub record Returned (h : History) (s : Slip) (p : Slip × Refusal) : Type 0 where
  pub same : p.0 ≡ s
  pub refusal : p.1 ≡ WrongSlip
  pub unfit : ¬ Fits h s

-- how many orders are out
pub data Outs (h : History) : ℕ → Type 0 where
  one : (n : ℕ) → Out h n → Outs h 1
  none : Free h → Outs h 0

-- the balance: every accepted order was acknowledged or withdrawn, or waits, or is out
abbrev pub Balanced : History → ℕ → ℕ → Type 0
Balanced h waiting out = length (orders h) ≡ acks h + dropped h + waiting + out

-- withdraw answers how many waited
pub record Withdraws (h : History) (waiting : ℕ) : Type 0 where
  pub waited : Counted (Waits h) (length (orders h)) waiting
  pub balance : (out : ℕ) → Outs h out → Balanced h waiting out

-- what status tells: how many wait, and the serial of the order that is out, if one is
pub record Told (h : History) (t : Status) : Type 0 where
  pub waiting : Counted (Waits h) (length (orders h)) t.waiting
  pub out : (serial : ℕ) → t.out ≡ Some serial → (n : ℕ) × Out h n × (serial ≡ serial_of h n)
  pub none : t.out ≡ None → Free h
  pub balance : Balanced h t.waiting (cond (is_some t.out) 1 0)

-- the first text of a group, or else what stands in for it
abbrev pub first_text : List Value → Option Text → Option Text
first_text [] instead = instead
first_text (v ∷ vs) instead = Some v.text

-- the first text that an order's parameter has, or its default's
abbrev pub text_of : List ParameterMeaning → KeptOrder → ℕ → Option Text
text_of ps o parameter = first_text (group parameter o.values) (default_at ps parameter)

-- the n-th order is kept, and this is its serial
pub record KeptUnder (h : History) (told n : ℕ) : Type 0 where
  pub kept : IsKept h n
  pub serial : told ≡ serial_of h n

-- readback: the first text of a kept order's parameter, where the recipe has that parameter in the register given
abbrev pub ReadsBack : History → SignatureMeaning → ℕ → ℕ → Result (Option Text) Refusal → Type 0
ReadsBack h s serial parameter (Ok t) = (n : ℕ) × KeptUnder h serial n × (parameter < length (s.parameters (recipe_of h n))) × (t ≡ text_of (s.parameters (recipe_of h n)) (order_of h n) parameter)
ReadsBack h s serial parameter (Err r) = ((r ≡ NotKept) × ((n : ℕ) → ¬ KeptUnder h serial n)) ⊎ ((r ≡ NoSuchParameter) × ((n : ℕ) × KeptUnder h serial n × (length (s.parameters (recipe_of h n)) ≤ parameter)))

-- the right answer to each call
abbrev pub Right : History → Event → Type 0
Right h (admitted a keeps r) = Takes h a keeps r
Right h (unadmitted a r) = TurnsDown h a r
Right h (issue keeps (Ok p)) = Shows h keeps p.0 p.1
Right h (issue keeps (Err r)) = ShowsNot h r
Right h (acknowledge s (Ok u)) = Fits h s
Right h (acknowledge s (Err p)) = Returned h s p
Right h (lost s (Ok u)) = Fits h s
Right h (lost s (Err p)) = Returned h s p
Right h (withdraw k) = Withdraws h k
Right h (status t) = Told h t
Right h (readback s serial parameter r) = ReadsBack h s serial parameter r

-- every answer of the history was right at its turn
abbrev pub Lawful : History → Type 0
Lawful (made k f) = Unit {0}
Lawful (h ▹ e) = Lawful h × Right h e
