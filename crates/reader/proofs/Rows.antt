-- Steps of the loops over rows and bytes. Assumes nothing.
use Rattle.std.proofs.Common.{◌≡◌, ℕ, suc, ◌+◌, Bool, true, false, cond, not, ◌&&◌, ◌||◌, eqb, List, [], ◌∷◌, Some, Option, sym, refl, ap, ◌∙◌, arith}
use Rattle.std.proofs.lemmas.Bool.Decides.{nat_tests}
use Rattle.std.specs.Prelude.{count_by}
use Rattle.std.specs.List.{list_any, find}
use Rattle.std.specs.Option.{option_map}
use Rattle.text.specs.Identifier.{Text}
use Rattle.std.proofs.lemmas.List.Recursion.{is_count_by}
use Rattle.reader.specs.Meaning.{source_text, any_to}
use Rattle.reader.specs.Counts.{count_to, first_rejected}
use Rattle.reader.specs.declared.source.ValueRow.{ValueRow}

-- the library's words, and the word-by-word definitions

eqb-swap : (a b : ℕ) → eqb a b ≡ eqb b a
eqb-swap a b = grind (arith, nat_tests)

pub any_to_is : (k : ℕ) (rows : List ValueRow) → list_any (λ (row : ValueRow). eqb row.parameter k) rows ≡ any_to k rows
any_to_is k [] = refl
any_to_is k (row ∷ rows) = ap (λ (b : Bool). b || list_any (λ (row : ValueRow). eqb row.parameter k) rows) (eqb-swap row.parameter k) ∙ by (eqb k row.parameter) ∙ ap (cond (eqb k row.parameter) true) (any_to_is k rows)
  where
    by : (b : Bool) → (b || list_any (λ (row : ValueRow). eqb row.parameter k) rows) ≡ cond b true (list_any (λ (row : ValueRow). eqb row.parameter k) rows)
    by true = refl
    by false = refl

pub count_to_is : (k : ℕ) (rows : List ValueRow) → count_by (λ (row : ValueRow). eqb row.parameter k) rows ≡ count_to k rows
count_to_is k rows = sym (is_count_by (count_to k) (λ (row : ValueRow). eqb row.parameter k) refl (λ row rows. ap (λ (b : Bool). cond b (suc (count_to k rows)) (count_to k rows)) (eqb-swap k row.parameter) ∙ by (eqb row.parameter k) (count_to k rows)) rows)
  where
    by : (b : Bool) (n : ℕ) → cond b (suc n) n ≡ cond b (1 + n) n
    by true n = omega arith
    by false n = refl

pub first_rejected_is : (accepts : Text → Bool) (bytes : List ℕ) (k : ℕ) (rows : List ValueRow) → option_map (λ (row : ValueRow). row.word) (find (λ (row : ValueRow). eqb row.parameter k && not (accepts (source_text bytes row.source))) rows) ≡ first_rejected accepts bytes k rows
first_rejected_is accepts bytes k [] = refl
first_rejected_is accepts bytes k (row ∷ rows) =
    let left = find (λ (row : ValueRow). eqb row.parameter k && not (accepts (source_text bytes row.source))) rows in
    ap (λ (b : Bool). option_map (λ (row : ValueRow). row.word) (cond (b && not (accepts (source_text bytes row.source))) (Some row) left)) (eqb-swap row.parameter k)
    ∙ by (eqb k row.parameter && not (accepts (source_text bytes row.source))) left (first_rejected accepts bytes k rows) (first_rejected_is accepts bytes k rows)
  where
    by : (b : Bool) (o : Option ValueRow) (n : Option ℕ) → option_map (λ (row : ValueRow). row.word) o ≡ n → option_map (λ (row : ValueRow). row.word) (cond b (Some row) o) ≡ cond b (Some row.word) n
    by true o n e = refl
    by false o n e = e
