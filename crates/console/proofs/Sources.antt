-- Where the first text of a parameter stands, and what a readback tells of it.
use Rattle.std.proofs.Common.{◌≡◌, ◌≢◌, ◌⊎◌, ℕ, ◌+◌, ◌-◌, ◌<◌, ◌≤◌, true, false, eqb, List, [], ◌∷◌, map, length, Some, None, Ok, Err, Option, sym, refl, ap, ◌∙◌, inl, inr, arith}
use Rattle.std.specs.List.{find}
use Rattle.std.specs.Option.{option_map, option_or}
use Rattle.refusal.specs.declared.Refusal.TheVariants.{NoSuchParameter, NotKept}
use Rattle.register.specs.Meaning.{SignatureMeaning}
use Rattle.std.proofs.lemmas.Bool.{eq-eqb, ne_eqb}
use Rattle.std.proofs.lemmas.Bool.Decides.{eqb_tells}
use Rattle.text.specs.Identifier.{Text}
use Rattle.reader.specs.Meaning.{value_of, source_text}
use Rattle.reader.specs.declared.source.ValueRow.{ValueRow}
use Rattle.reading.specs.Reading.{Value, group}
use Rattle.reading.specs.Line.{shifted_value}
use Rattle.book.specs.Kept.{row_kept}
use Rattle.book.specs.declared.order_row.OrderRow.{OrderRow}
use Rattle.console.specs.Keeps.{View}
use Rattle.console.specs.History.{History, order_of, recipe_of}
use Rattle.console.specs.Right.{first_text, text_of, KeptUnder, ReadsBack}
use Rattle.console.specs.State.{Coupled, FoundRow}
use Rattle.console.proofs.Waiting.{Sane, kept_row, row_is_kept}

-- the first text of a group stands where the first row of its parameter says
pub first_text_lem : (bytes : List ℕ) (first k : ℕ) (rows : List ValueRow) → first_text (group k (map (shifted_value first) (map (value_of bytes) rows))) None ≡ option_map (source_text bytes) (option_map (λ row. row.source) (find (λ row. eqb row.parameter k) rows))
first_text_lem bytes first k [] = refl
first_text_lem bytes first k (row ∷ rows) = go (eqb_tells row.parameter k) (first_text_lem bytes first k rows)
  where
    go : ((eqb row.parameter k ≡ true) × (row.parameter ≡ k)) ⊎ ((eqb row.parameter k ≡ false) × (row.parameter ≢ k)) → first_text (group k (map (shifted_value first) (map (value_of bytes) rows))) None ≡ option_map (source_text bytes) (option_map (λ row. row.source) (find (λ row. eqb row.parameter k) rows))
        → first_text (group k (map (shifted_value first) (map (value_of bytes) (row ∷ rows)))) None ≡ option_map (source_text bytes) (option_map (λ row. row.source) (find (λ row. eqb row.parameter k) (row ∷ rows)))
    go (inl x) ih = rw (x.0, eq-eqb k row.parameter (sym x.1)) refl
    go (inr x) ih = rw (x.0, ne_eqb k row.parameter (λ e. x.1 (sym e))) ih

-- what stands in for the first text counts only where there is none
instead_of : (vs : List Value) (instead : Option Text) → first_text vs instead ≡ option_or (first_text vs None) instead
instead_of [] instead = refl
instead_of (v ∷ vs) instead = refl

pub text_or : (vs : List Value) (instead found t : Option Text) → found ≡ first_text vs None → t ≡ option_or found instead → t ≡ first_text vs instead
text_or vs instead found t e is = is ∙ ap (λ o. option_or o instead) e ∙ sym (instead_of vs instead)

module _ (h : History) (v : View) (k : Coupled h v) (z : Sane v) (serial : ℕ) where
  -- a row's serial is that of a kept order
  pub under : (i : ℕ) → v.at < v.count → i < v.count → serial ≡ v.first + v.base + i → KeptUnder h serial (v.base + i)
  under i lt ic e = record { kept = kept_row h v k z i lt ic; serial = omega (arith, k.first_is) }

  -- no kept order has another serial
  pub not_under : ((i : ℕ) → v.at < v.count → i < v.count → ¬ (serial ≡ v.first + v.base + i)) → (n : ℕ) → ¬ KeptUnder h serial n
  not_under none n q =
      let r = row_is_kept h v k z n q.kept in
      none (n - v.base) r.0 (omega (arith, r.1, r.2)) (omega (arith, r.1, q.serial, k.first_is))

module _ (h : History) (v : View) (k : Coupled h v) (z : Sane v) (sig : SignatureMeaning) (serial parameter : ℕ) where
  -- nothing is kept under the serial
  pub reads_unkept : FoundRow v serial None → ReadsBack h sig serial parameter (Err NotKept)
  reads_unkept none = inl (refl, not_under h v k z serial none)

  module _ (row : OrderRow) (found : FoundRow v serial (Some row)) where
    same : order_of h (v.base + found.0) ≡ row_kept v.bytes v.values row
    same = sym (k.order_is found.0 found.1 found.2) ∙ ap (row_kept v.bytes v.values) (sym found.4)

    is_under : KeptUnder h serial (v.base + found.0)
    is_under = under h v k z serial found.0 found.1 found.2 found.3

    -- the recipe has no such parameter
    pub reads_unknown : (count : ℕ) → count ≡ length (sig.parameters row.recipe) → count ≤ parameter → ReadsBack h sig serial parameter (Err NoSuchParameter)
    reads_unknown count e le =
        let q : length (sig.parameters (recipe_of h (v.base + found.0))) ≡ count = ap (λ o. length (sig.parameters o.recipe)) same ∙ sym e in
        inr (refl, (v.base + found.0, is_under, omega arith))

    -- the parameter's first text, or its default's
    pub reads_text : (count : ℕ) → count ≡ length (sig.parameters row.recipe) → parameter < count → (t : Option Text) → t ≡ text_of (sig.parameters row.recipe) (row_kept v.bytes v.values row) parameter → ReadsBack h sig serial parameter (Ok t)
    reads_text count e lt t is =
        let q : length (sig.parameters (recipe_of h (v.base + found.0))) ≡ count = ap (λ o. length (sig.parameters o.recipe)) same ∙ sym e in
        (v.base + found.0, is_under, omega arith, is ∙ ap (λ o. text_of (sig.parameters o.recipe) o parameter) (sym same))
