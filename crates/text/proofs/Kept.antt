-- What the type of a line carries.
use Rattle.std.proofs.Common.{◌≡◌, ℕ, suc, ◌+◌, ◌-◌, ◌<◌, ◌≤◌, MatchOption, None, Option, [], drop, true, false, eqb, List, ◌∷◌, ◌++◌, length, get_or, take, Some, sym, ap, ◌∙◌, subst, arith}
use Rattle.std.specs.List.{AllByRecursion, AllWithin, HoldsAt}
use Rattle.std.proofs.lemmas.List.{length-map, length-take, length-take-le, take-append-drop, drop_more, map-append, get_or-take}
use Rattle.std.proofs.lemmas.Bool.{eqb-false, true≢false}
use Rattle.refusal.specs.declared.Refusal.TheVariants.{LineNotClosed, WordNotUtf8}
use Rattle.text.specs.Spans.{text_at, texts_at}
use Rattle.text.specs.Utf8.{Utf8}
use Rattle.text.specs.Lead.{all_valid}
use Rattle.text.specs.Line.{closed, all_bare, Cut, Within, Oversteps}
use Rattle.text.specs.Lines.{bytes_of, words_of, ends, FirstGarbled}
use Rattle.text.specs.declared.span.Span.{Span}
use Rattle.text.specs.declared.line.Line.{Line}
use Rattle.text.proofs.Cuts.{either_way}
use Rattle.text.proofs.Valid.{all_valid_from, all_utf8_from}

-- a line that was cut is within the limits
pub within : (line : Line) → Within (bytes_of line) (words_of line)
within line =
    let s = line.short in
    let f = line.few in
    record {
      short = omega (arith, length-take line.size line.bytes);
      cut = record { whole = line.whole; zeroless = line.zeroless };
      few = omega (arith, length-map (take line.count line.words) (text_at (bytes_of line)), length-take line.count line.words);
      valid = all_utf8_from (words_of line) line.valid;
    }

-- the refusals of a cut

all_from : (bytes : List ℕ) (words : List Span) → ((k : ℕ) (d : Span) → k < length words → Utf8 (text_at bytes (get_or words k d))) → AllByRecursion Utf8 (texts_at bytes words)
all_from bytes [] all = tt
all_from bytes (word ∷ words) all = (all 0 word (omega arith), all_from bytes words (λ k d l. all (suc k) d (omega arith)))

pub not_closed : (bytes : List ℕ) → length bytes ≤ 1024 → ends bytes ≡ false → Oversteps bytes LineNotClosed
not_closed bytes short e =
    either_way (eqb (length bytes) 0) (λ h. absurd (true≢false (rw h at e)))
    (λ h. let n = eqb-false (length bytes) 0 h in Oversteps.unclosed short (omega arith) (eqb-false (get_or bytes (length bytes - 1) 0) 0 (rw h at e)))

pub garbled_at : (bytes : List ℕ) (words : List Span) (count i : ℕ) → length bytes ≤ 1024 → count ≤ 128 → Cut bytes (texts_at bytes (take count words)) → FirstGarbled (texts_at bytes (take (count - 0) words)) (Some i) → Oversteps bytes (WordNotUtf8 i)
garbled_at bytes words count i short few cut (before, word, after, is, at, all, bad) =
    let k : count - 0 ≡ count = omega arith in
    let whole : texts_at bytes (take count words) ≡ before ++ word ∷ after = ap (λ n. texts_at bytes (take n words)) (sym k) ∙ is in
    let long : length (before ++ word ∷ after) ≤ 128 = omega (arith, ap length whole, length-map (take count words) (text_at bytes), length-take count words) in
    subst (λ n. Oversteps bytes (WordNotUtf8 n)) at (Oversteps.garbled before word after short (subst (Cut bytes) whole cut) long all bad)

-- the words up to the first that is not UTF-8
pub first_garbled_at : (bytes : List ℕ) (words : List Span) (r : Option ℕ) →
    MatchOption r (AllWithin (λ word. Utf8 (text_at bytes word)) words 0 (length words))
    (λ i. (i < length words) × HoldsAt (λ word. Utf8 (text_at bytes word) → ⊥) words i × AllWithin (λ word. Utf8 (text_at bytes word)) words 0 i) →
    FirstGarbled (texts_at bytes words) r
first_garbled_at bytes words None all = all_from bytes words (λ k d l. all k d (omega arith) l)
first_garbled_at bytes words (Some i) (inside, bad, all) =
    let none : Span = record { start = 0; len = 0 } in
    let word = get_or words i none in
    let cut = sym (take-append-drop i words) ∙ ap (λ ws. take i words ++ ws) (drop_more words i none inside) in (
      texts_at bytes (take i words),
      text_at bytes word,
      texts_at bytes (drop (i + 1) words),
      ap (texts_at bytes) cut ∙ map-append (text_at bytes) (take i words) (word ∷ drop (i + 1) words),
      length-map (take i words) (text_at bytes) ∙ length-take-le i words (omega arith),
      all_from bytes (take i words) (λ k d l.
          let m : k < i = omega (arith, length-take i words) in
          subst (λ (w : Span). Utf8 (text_at bytes w)) (sym (get_or-take i words k d m)) (all k d (omega arith) m)),
      bad none,
    )

-- a line made over a copy of its bytes
module _ (bytes own : List ℕ) (words : List Span) (count : ℕ) (copy : take (length bytes) own ≡ bytes) (short : length bytes ≤ 1024) (few : count ≤ 128) (cut : Cut bytes (texts_at bytes (take count words))) (valid : AllByRecursion Utf8 (texts_at bytes (take (count - 0) words))) where
  all_utf8 : AllByRecursion Utf8 (texts_at bytes (take count words))
  all_utf8 = let k : count - 0 ≡ count = omega arith in subst (λ n. AllByRecursion Utf8 (texts_at bytes (take n words))) k valid

  pub whole_made : closed (texts_at (take (length bytes) own) (take count words)) ≡ take (length bytes) own
  whole_made = subst (λ bs. closed (texts_at bs (take count words)) ≡ bs) (sym copy) cut.whole

  pub zeroless_made : all_bare (texts_at (take (length bytes) own) (take count words)) ≡ true
  zeroless_made = ap (λ bs. all_bare (texts_at bs (take count words))) copy ∙ cut.zeroless

  pub valid_made : all_valid (texts_at (take (length bytes) own) (take count words)) ≡ true
  valid_made = ap (λ bs. all_valid (texts_at bs (take count words))) copy ∙ all_valid_from (texts_at bytes (take count words)) all_utf8

  pub within_made : Within bytes (texts_at (take (length bytes) own) (take count words))
  within_made = subst (λ bs. Within bytes (texts_at bs (take count words))) (sym copy) (record {
    short = short;
    cut = cut;
    few = omega (arith, length-map (take count words) (text_at bytes), length-take count words);
    valid = all_utf8;
  })
