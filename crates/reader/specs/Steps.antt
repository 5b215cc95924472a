-- What the words of an order come to, in the model of the reading. Assumes nothing.
use Rattle.std.specs.Prelude.{◌≡◌, ℕ, ◌+◌, ◌<◌, ◌≤◌, List, [], ◌∷◌, ◌++◌, length, Some, None, Ok, Err, Option, Result}
use Rattle.refusal.specs.declared.Refusal.{Refusal}
use Rattle.register.specs.Meaning.{ParameterMeaning}
use Rattle.reading.specs.Switches.{Called}
use Rattle.reading.specs.Reading.{Waiting}
use Rattle.reading.specs.Reading.Waiting.{Nobody, For}
use Rattle.reading.specs.Model.{State, Next}
use Rattle.reading.specs.Model.Next.{Go, Stop, Fail}
use Rattle.reading.specs.declared.role.Role.{Role}
use Rattle.reader.specs.Meaning.{values_of}
use Rattle.reader.specs.Answers.{Shows, waiting_of}
use Rattle.reader.specs.declared.awaited.Awaited.{Awaited}
use Rattle.reader.specs.declared.invocation.Invocation.{Invocation}

-- an order so far, with the roles of its words behind the path
abbrev pub state_of : List ParameterMeaning → List ℕ → Invocation → List Role → State
state_of ps bytes order roles = record {
  words = order.words;
  ended = order.ended;
  plains = order.plains;
  values = values_of bytes order.values;
  waiting = waiting_of ps order.waiting;
  roles = roles;
}

-- the role that a word has, and the order with it
abbrev pub next_of : List ParameterMeaning → List ℕ → List Role → Result (Option Role) Refusal → Invocation → Next
next_of ps bytes roles (Ok (Some role)) order = Go role (state_of ps bytes order (roles ++ role ∷ []))
next_of ps bytes roles (Ok None) order = Stop
next_of ps bytes roles (Err refusal) order = Fail refusal

-- who waits, shown without texts
abbrev pub Awaits : List ParameterMeaning → Waiting → Option Awaited → Type 0
Awaits ps who None = who ≡ Nobody
Awaits ps who (Some awaited) = (c : Called) × (who ≡ For c awaited.word awaited.letter) × Shows ps c awaited.called

-- an order may grow by one word and so many values
pub record MayGrow (most : ℕ) (order : Invocation) : Type 0 where
  pub words : order.words < 1024
  pub values : length order.values.rows.items + most ≤ 1024

-- how far an order grows by a word that has a role: by one word and so many values at most; without a role it stays
abbrev pub GrowsBy : ℕ → Invocation → Invocation → Result (Option Role) Refusal → Type 0
GrowsBy most before after (Ok (Some role)) = (after.words ≡ before.words + 1) × (length after.values.rows.items ≤ length before.values.rows.items + most)
GrowsBy most before after (Ok None) = after ≡ before
GrowsBy most before after (Err refusal) = Unit {0}

pub record Grows (most : ℕ) (before after : Invocation) (r : Result (Option Role) Refusal) : Type 0 where
  pub by : GrowsBy most before after r
