-- What all words of an order come to, in the model of the reading. Assumes nothing.
use Rattle.std.specs.Prelude.{ℕ, List, drop, Ok, Err, Result}
use Rattle.refusal.specs.declared.Refusal.{Refusal}
use Rattle.text.specs.Spans.{texts_at}
use Rattle.text.specs.declared.span.Span.{Span}
use Rattle.register.specs.Meaning.{ParameterMeaning}
use Rattle.reading.specs.Model.{Scanned}
use Rattle.reading.specs.Model.Scanned.{Stopped, Broken}
use Rattle.reading.specs.declared.role.Role.{Role}
use Rattle.reader.specs.Steps.{state_of}
use Rattle.reader.specs.declared.invocation.Invocation.{Invocation}
use Rattle.arrayvec.specs.ArrayVec.{ArrayVec}

-- so many words were taken, and those behind them are left
abbrev pub scanned_of : List ParameterMeaning → List ℕ → List Span → Result ℕ Refusal → Invocation → ArrayVec Role → Scanned
scanned_of ps bytes words (Ok taken) order roles = Stopped (state_of ps bytes order roles.items) (texts_at bytes (drop taken words))
scanned_of ps bytes words (Err refusal) order roles = Broken refusal
