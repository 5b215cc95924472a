-- Which name rows lead to a module: definitions for the contracts of inner functions alone. Assumes nothing.
use Rattle.std.specs.Prelude.{ℕ, Bool, false, ◌&&◌, Some, None, Option, ◌==◌}
use Rattle.register.specs.Kinds.{kind_number}
use Rattle.tree.specs.declared.rows.NameRow.{NameRow}

abbrev pub is_number : ℕ → Option ℕ → Bool
is_number m None = false
is_number m (Some n) = n == m

-- whether a row of kind 0 has the module as its number
abbrev pub leads_to : ℕ → NameRow → Bool
leads_to m row = kind_number row.kind == 0 && is_number m row.number
