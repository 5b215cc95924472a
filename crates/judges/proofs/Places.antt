-- Patterns by their number, over rows.
use Rattle.std.proofs.Common.{◌≡◌, ℕ, zero, suc, List, [], ◌∷◌, map, take, Some, None, Option, sym, refl, ap, ◌∙◌}
use Rattle.std.specs.List.{slice_get}
use Rattle.std.specs.Option.{option_map, unwrap_or}
use Rattle.std.proofs.lemmas.List.{take-map}
use Rattle.std.proofs.lemmas.Option.{slice_get-map}
use Rattle.text.specs.Identifier.{Text}
use Rattle.text.specs.Spans.{text_at, texts_at}
use Rattle.text.specs.declared.span.Span.{Span}
use Rattle.tree.specs.Rows.{pattern_at, listed_at}
use Rattle.tree.specs.declared.rows.PatternRow.{PatternRow}
use Rattle.judge.specs.Listed.{listed}
use Rattle.judges.specs.Patterns.{by_texts, texts_of, pattern_texts, pattern_gauges, texts_over, gauges_over, JudgesOfTree}

-- the listed texts of a row
listed_at_lem : (image : List ℕ) (count : ℕ) (spans : List Span) (text : Text) → by_texts (listed_at image count (texts_at image spans)) text ≡ listed (texts_at image (take count spans)) text
listed_at_lem image zero spans text = refl
listed_at_lem image (suc n) spans text = ap (λ texts. listed texts text) (take-map (text_at image) (suc n) spans)

-- the listed texts of the row of a number, as it was found
pub texts_at_row : {X : Type 0} (row : X → PatternRow) (image : List ℕ) (rows : List PatternRow) (number : ℕ) (text : Text) (found : Option X) → option_map row found ≡ slice_get rows number →
    listed (texts_at image (unwrap_or (option_map (λ x. take (row x).count (row x).texts) found) [])) text ≡ texts_over image rows number text
texts_at_row {X} row image rows number text found e =
    at found ∙ ap (λ pattern. by_texts (texts_of pattern) text) (ap (option_map (pattern_at image)) e ∙ sym (slice_get-map (pattern_at image) rows number))
  where
    at : (o : Option X) → listed (texts_at image (unwrap_or (option_map (λ x. take (row x).count (row x).texts) o) [])) text ≡ by_texts (texts_of (option_map (pattern_at image) (option_map row o))) text
    at None = refl
    at (Some x) = sym (listed_at_lem image (row x).count (row x).texts text)

any_bytes : (image : List ℕ) (rows : List PatternRow) (number : ℕ) (text : Text) → gauges_over rows number text ≡ pattern_gauges (map (pattern_at image) rows) number text
any_bytes image [] number text = refl
any_bytes image (row ∷ rows) zero text = refl
any_bytes image (row ∷ rows) (suc number) text = any_bytes image rows number text

pub judges_of_tree : JudgesOfTree
judges_of_tree image rows tree e =
    record {
      texts = λ number text. ap (λ ps. pattern_texts ps number text) (sym e);
      gauges = λ number text. any_bytes image rows number text ∙ ap (λ ps. pattern_gauges ps number text) (sym e);
    }
