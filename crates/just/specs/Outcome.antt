-- What is compared of just's answer and of the answer of the rules. Assumes nothing.
use Rattle.std.specs.Prelude.{ℕ, ◌+◌, List, map, Some, Ok, Err, Option, Result}
use Rattle.refusal.specs.declared.Refusal.{Refusal}
use Rattle.text.specs.Identifier.{Text}
use Rattle.reading.specs.Reading as reading
use Rattle.reading.specs.Line.{Order, Reading}
use Rattle.just.specs.Error.{Error}
use Rattle.just.specs.Value.{Element}
use Rattle.just.specs.InvocationParser.{Invocation}
use Rattle.just.specs.Numbers.{refusal_of}

-- What is compared of an order: its recipe, its first word, the first word behind it, and the texts of each group.
pub record Telling : Type 0 where
  pub recipe : ℕ
  pub first : ℕ
  pub next : ℕ
  pub groups : List (List Text)

abbrev pub of_invocation : Invocation → Telling
of_invocation v = record { recipe = v.recipe.number; first = v.first; next = v.next; groups = map (map (λ (e : Element). e.text)) v.arguments }

abbrev pub of_order : Order → Telling
of_order o = record { recipe = o.recipe; first = o.first; next = o.first + o.words; groups = map (map (λ (v : reading.Value). v.text)) o.groups }

-- just's answer, and the answer of the rules
abbrev pub of_just : Result (List Invocation) Error → Result (List Telling) (Option Refusal)
of_just (Ok invocations) = Ok (map of_invocation invocations)
of_just (Err e) = Err (refusal_of e)

abbrev pub of_reading : Result Reading Refusal → Result (List Telling) (Option Refusal)
of_reading (Ok r) = Ok (map of_order r.orders)
of_reading (Err f) = Err (Some f)
