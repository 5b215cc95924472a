-- What a judge means: for each pattern number a set of texts, as a test. Assumes nothing.
use Rattle.std.specs.Prelude.{ℕ, Bool, ◌||◌}
use Rattle.text.specs.Identifier.{Text}

abbrev pub JudgeMeaning : Type 0
JudgeMeaning = ℕ → Text → Bool

-- what either of two judges accepts
abbrev pub either_of : JudgeMeaning → JudgeMeaning → JudgeMeaning
either_of first second pattern text = first pattern text || second pattern text
