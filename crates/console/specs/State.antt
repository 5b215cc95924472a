-- How a console's state keeps what matters of its history. Assumes nothing.
use Rattle.std.specs.Prelude.{◌≡◌, ℕ, ◌+◌, ◌-◌, ◌<◌, ◌≤◌, min, true, false, ◌⊎◌, length, Some, None, Ok, Err, Option, Result, slice_index, slice_index_or}
use Rattle.std.specs.Option.{option_map}
use Rattle.refusal.specs.declared.Refusal.{Refusal}
use Rattle.refusal.specs.declared.Refusal.TheVariants.{WrongSlip}
use Rattle.text.specs.Identifier.{Text}
use Rattle.book.specs.declared.order_row.OrderRow.{OrderRow}
use Rattle.console.specs.Keeps.{View, view, kept, no_row, order_at}
use Rattle.console.specs.History.{Asked, Event, History, ◌▹◌, admitted, unadmitted, status, number_of, first_of, orders, order_of, latest, Out, Acknowledged, Withdrawn, Waits, shown, acks, dropped}
use Rattle.console.specs.Right.{Lawful, Right}
use Rattle.console.specs.declared.admitted.Admitted.{Admitted}
use Rattle.console.specs.declared.issued.Issued.{Issued}
use Rattle.console.specs.declared.status.Status.{Status}
use Rattle.console.specs.declared.console.slip.Slip.{Slip}
use Rattle.console.specs.declared.console.Console.{Console}

-- The line's order in row i is the order base + i since the making. Those below `at` are done, the one at `at` is out or waits, those behind it wait; those from `count` on were withdrawn.
pub record Coupled (h : History) (v : View) : Type 0 where
  pub number_is : number_of h ≡ v.number
  pub first_is : first_of h ≡ v.first
  pub total_is : length (orders h) ≡ v.total
  pub latest_is : latest h ≡ v.base
  pub out_in : (n : ℕ) → Out h n → (v.out ≡ true) × (n ≡ v.base + v.at)
  pub in_out : v.out ≡ true → Out h (v.base + v.at)
  pub ack_in : (n : ℕ) → Acknowledged h n → n < v.base + v.at
  pub drop_in : (n : ℕ) → Withdrawn h n → (n < v.total) × ((n < v.base) ⊎ (v.base + v.count ≤ n))
  pub in_drop : (n : ℕ) → v.base + v.count ≤ n → n < v.total → Withdrawn h n
  pub done : (n : ℕ) → n < v.base + v.at → ¬ Waits h n
  pub fresh : (n : ℕ) → v.total ≤ n → shown h n ≡ 0
  pub shown_is : (i : ℕ) → v.at < v.count → i < v.count → slice_index v.shown i ≡ min 255 (shown h (v.base + i))
  pub order_is : (i : ℕ) → v.at < v.count → i < v.count → order_at v i ≡ order_of h (v.base + i)
  pub balance : acks h + dropped h + (v.count - v.at) ≡ v.total

-- the calls of `h`, and no others, led a console from its making to `c`, and every answer was right
pub record Led (h : History) (c : Console) : Type 0 where
  pub lawful : Lawful h
  pub coupled : Coupled h (view c)

-- a call's contract: whatever calls led to the console, with this one added they lead to it as it is now
abbrev pub Adds : Console → Event → Console → Type 0
Adds before e after = (h : History) → Led h before → Led (h ▹ e) after

-- the contract of admit: an accepted one keeps what the history then says
abbrev pub Admits : Console → Asked → Result Admitted Refusal → Console → Type 0
Admits before a (Ok r) after = Adds before (admitted a (kept after) r) after
Admits before a (Err r) after = Adds before (unadmitted a r) after

-- the contract of ending: the status is right, whatever calls led here
abbrev pub Ends : Console → Status → Type 0
Ends c t = (h : History) → Led h c → Right h (status t)

-- nothing that is kept, waits or is out differs; rows behind the fill may
pub record Unchanged (before after : Console) : Type 0 where
  pub number : after.number ≡ before.number
  pub first : after.first ≡ before.first
  pub base : after.base ≡ before.base
  pub total : after.total ≡ before.total
  pub at : after.at ≡ before.at
  pub out : after.out ≡ before.out
  pub fill : after.book.fill ≡ before.book.fill
  pub keeps : kept after ≡ kept before

-- a refused call changes nothing
abbrev pub Leaves : {X E : Type 0} → Result X E → Console → Console → Type 0
Leaves (Ok x) before after = Unit {0}
Leaves (Err e) before after = Unchanged before after

-- the slip of the order that is out
abbrev pub Owed : Console → Slip → Type 0
Owed c slip = (c.out ≡ true) × (slip.number ≡ c.number) × (slip.serial ≡ c.first + c.base + c.at)

-- the slip of the order that is out is spent, and the order waits again; any other slip comes back, and nothing differs
abbrev pub TakesBack : Slip → Console → Result (Unit {0}) (Slip × Refusal) → Console → Type 0
TakesBack slip before (Ok u) after = Owed before slip × (view after ≡ record (view before) { out = false })
TakesBack slip before (Err e) after = (¬ Owed before slip) × (e ≡ (slip, WrongSlip)) × (after ≡ before)

-- an answer with the texts that its references point to
abbrev pub texts : {X : Type 0} → (X → Text) → Result (Option X) Refusal → Result (Option Text) Refusal
texts read (Ok t) = Ok (option_map read t)
texts read (Err r) = Err r

-- the row of the kept order with this serial, if there is one
abbrev pub FoundRow : View → ℕ → Option OrderRow → Type 0
FoundRow v serial (Some row) = (i : ℕ) × (v.at < v.count) × (i < v.count) × (serial ≡ v.first + v.base + i) × (row ≡ slice_index_or v.rows i no_row)
FoundRow v serial None = (i : ℕ) → v.at < v.count → i < v.count → ¬ (serial ≡ v.first + v.base + i)

-- what an issue tells of the order at `at`
abbrev pub issued_at : View → Issued
issued_at v = record {
  serial = v.first + v.base + v.at;
  recipe = (order_at v v.at).recipe;
  first = (order_at v v.at).first;
  words = (order_at v v.at).words;
  earlier = slice_index v.shown v.at;
}
