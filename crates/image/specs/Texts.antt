-- The text of how an image was checked.
use Rattle.std.specs.Prelude.{ℕ, List, ◌++◌, codes, decimal, Result, Ok, Err}
use Rattle.refusal.specs.Told.{refusal_text}
use Rattle.refusal.specs.declared.Refusal.{Refusal}
use Rattle.image.specs.declared.tables.Sizes.{Sizes}

-- how many modules, names, recipes and patterns the tree has, or the refusal
abbrev pub answer_text : Result Sizes Refusal → List ℕ
answer_text (Ok sizes) = codes "image ok " ++ (decimal sizes.modules ++ (codes " " ++ (decimal sizes.names ++ (codes " " ++ (decimal sizes.recipes ++ (codes " " ++ decimal sizes.patterns))))))
answer_text (Err refusal) = refusal_text refusal
