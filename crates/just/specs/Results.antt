-- `?` and `if let`, on values. Assumes nothing.
use Rattle.std.specs.Prelude.{Some, None, Ok, Err, Option, Result}

-- `let a = result?; ..`
abbrev pub and_then : {A B E : Type 0} → Result A E → (A → Result B E) → Result B E
and_then (Ok a) go = go a
and_then (Err e) go = Err e

-- `if let Some(a) = option { .. } else { .. }`
abbrev pub if_let : {A X : Type 0} → Option A → (A → X) → X → X
if_let (Some a) go other = go a
if_let None go other = other
