-- Orders told one after the other, to the line's end. Assumes nothing.
use Rattle.std.proofs.Common.{◌≡◌, ℕ, ◌<◌, ◌≤◌, Bool, false, List, [], ◌∷◌, ◌++◌, length, Ok, Err, Result, sym, refl, ap, ◌∙◌, subst, inl, inr, arith}
use Rattle.std.proofs.lemmas.List.{at_drop_all}
use Rattle.std.proofs.lemmas.Bool.{true≢false}
use Rattle.refusal.specs.declared.Refusal.{Refusal}
use Rattle.text.specs.Identifier.{Text}
use Rattle.text.specs.Line.{closed}
use Rattle.text.specs.Spans.{texts_at}
use Rattle.text.specs.declared.span.Span.{Span}
use Rattle.register.specs.Meaning.{NameMeaning, SignatureMeaning}
use Rattle.judge.specs.Meaning.{JudgeMeaning}
use Rattle.path.specs.declared.path.Path.{Path}
use Rattle.path.proofs.Model.{path_of}
use Rattle.path.proofs.Theorem.{answer_does}
use Rattle.reading.specs.Line.{Reading, OnlyReading}
use Rattle.reading.specs.Model.{read_line, behind}
use Rattle.reading.proofs.Lines.{model_only}
use Rattle.reading.proofs.Unroll.{behind_nothing}
use Rattle.reader.specs.Told.{ToldOrder, reading_told, UpTo}
use Rattle.reader.specs.Rest.{left_from, Walks, NextTold, SoFar, AllTold, LineTold, EachTold}
use Rattle.reader.proofs.LineSteps.{left_more}

module _ (names : NameMeaning) (s : SignatureMeaning) (judge : JudgeMeaning) (refuses : Refusal → Bool) (before after : List ℕ → List ToldOrder → Type 0) (bytes : List ℕ) (words : List Span) where
  pub from_start : length (closed (texts_at bytes words)) ≤ 1024 → UpTo bytes words 0 []
  from_start room = record { orders = omega arith; roles = refl; values = omega arith }

  pub first_told : length (closed (texts_at bytes words)) ≤ 1024 → before bytes [] → (next : ℕ) → NextTold names s judge refuses before after bytes words 0 (Ok next) → SoFar names s judge after bytes words next
  first_told room start next t =
      let c = t.2 [] in record {
        within = c.within;
        orders = [] ++ t.0 ∷ [];
        were = t.1 [] start;
        fits = c.fits (from_start room);
        up_to = λ h. c.up_to (from_start room) (omega arith);
        left = λ walk walks. c.left walk walks ∙ behind_nothing (read_line walk s judge (texts_at bytes words));
      }

  pub next_told : (first next : ℕ) → first < length words → SoFar names s judge before bytes words first → NextTold names s judge refuses before after bytes words first (Ok next) → SoFar names s judge after bytes words next
  next_told first next h f t =
      let c = t.2 f.orders in record {
        within = c.within;
        orders = f.orders ++ t.0 ∷ [];
        were = t.1 f.orders f.were;
        fits = c.fits (f.up_to h);
        up_to = λ _. c.up_to (f.up_to h) h;
        left = λ walk walks. c.left walk walks ∙ sym (left_more walk s judge bytes words (reading_told s bytes f.orders) first h) ∙ f.left walk walks;
      }

  pub next_fails : (U : Type 0) (told : List ℕ → List ToldOrder → Type 0) (first : ℕ) (f : Refusal) → first < length words → SoFar names s judge before bytes words first → NextTold names s judge refuses before after bytes words first (Err f) → AllTold {U = U} names s judge refuses told bytes (texts_at bytes words) (Err f)
  next_fails U told first f h so (inl r) = inl r
  next_fails U told first f h so (inr e) = inr (λ walk walks.
      ap (behind (reading_told s bytes so.orders)) (e walk walks)
      ∙ sym (left_more walk s judge bytes words (reading_told s bytes so.orders) first h)
      ∙ so.left walk walks)

  pub all_told : {U : Type 0} (u : U) (next : ℕ) → (next < length words → ⊥) → SoFar names s judge after bytes words next → AllTold names s judge refuses after bytes (texts_at bytes words) (Ok u)
  all_told u next end so = (
    so.orders,
    so.were,
    so.fits,
    λ walk walks.
        sym (at_drop_all (λ (x : List Span). left_from walk s judge (reading_told s bytes so.orders) next (texts_at bytes x)) words next (omega arith))
        ∙ so.left walk walks,
  )

-- the model's answer is the only one
only_reading : (names : NameMeaning) (s : SignatureMeaning) (judge : JudgeMeaning) (words : List Text) (answer : Result Reading Refusal) → ((walk : List Text → Result Path Refusal) → Walks names walk → answer ≡ read_line walk s judge words) → OnlyReading names s judge words answer
only_reading names s judge words answer h = subst (OnlyReading names s judge words) (sym (h (path_of names) (answer_does names))) (model_only names s judge (path_of names) (answer_does names) words)

-- what was told, without what the taker keeps besides
pub told_alone : {U : Type 0} (names : NameMeaning) (s : SignatureMeaning) (judge : JudgeMeaning) (refuses : Refusal → Bool) (told : List ℕ → List ToldOrder → Type 0) (since : List ToldOrder → Type 0) (bytes : List ℕ) (words : List Text) (r : Result U Refusal) → AllTold names s judge refuses (λ b os. told b os × since os) bytes words r → AllTold names s judge refuses told bytes words r
told_alone names s judge refuses told since bytes words (Ok u) t = (t.0, t.1.0, t.2, t.3)
told_alone names s judge refuses told since bytes words (Err f) t = t

pub line_told : {U : Type 0} (names : NameMeaning) (s : SignatureMeaning) (judge : JudgeMeaning) (refuses : Refusal → Bool) (told : List ℕ → List ToldOrder → Type 0) (bytes : List ℕ) (words : List Text) (r : Result U Refusal) → AllTold names s judge refuses told bytes words r → LineTold names s judge refuses told bytes words r
line_told names s judge refuses told bytes words (Ok u) t = (t.0, t.1, t.2, only_reading names s judge words (Ok (reading_told s bytes t.0)) t.3)
line_told names s judge refuses told bytes words (Err f) (inl r) = inl r
line_told names s judge refuses told bytes words (Err f) (inr e) = inr (only_reading names s judge words (Err f) e)

-- a taker that never refuses was told each order, or the line's first fault is answered
pub each_told : {U : Type 0} (names : NameMeaning) (s : SignatureMeaning) (judge : JudgeMeaning) (refuses : Refusal → Bool) (told : List ℕ → List ToldOrder → Type 0) (bytes : List ℕ) (words : List Text) (r : Result U Refusal) → ((f : Refusal) → refuses f ≡ false) → AllTold names s judge refuses told bytes words r → EachTold names s judge told bytes words r
each_told names s judge refuses told bytes words (Ok u) never t = (t.0, t.1, t.2, record { only = only_reading names s judge words (Ok (reading_told s bytes t.0)) t.3; model = t.3 })
each_told names s judge refuses told bytes words (Err f) never (inl r) = absurd (true≢false (sym r ∙ never f))
each_told names s judge refuses told bytes words (Err f) never (inr e) = record { only = only_reading names s judge words (Err f) e; model = e }
