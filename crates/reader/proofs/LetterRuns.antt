-- Steps of the loop over the letters of a switch word. Assumes nothing.
use Rattle.std.proofs.Common.{◌≡◌, ℕ, zero, suc, ◌+◌, ◌<◌, ◌≤◌, Bool, true, false, cond, eqb, List, [], ◌∷◌, map, length, take, drop, Some, None, Option, sym, refl, ap, ◌∙◌, add-one, arith, length-take}
use Rattle.std.specs.Str.{continuation_len, lead_bits}
use Rattle.refusal.specs.declared.Refusal.{Refusal}
use Rattle.text.specs.Identifier.{Text}
use Rattle.register.specs.Meaning.{ParameterMeaning}
use Rattle.reading.specs.Signature.{takes_true}
use Rattle.reading.specs.Letters.{letters}
use Rattle.register.specs.Parameters.{letter_place}
use Rattle.reading.specs.Switches.{Called, called, called_at}
use Rattle.reading.specs.Switches.Switch.{Letter}
use Rattle.reading.specs.Reading.{Value, Waiting, is_full}
use Rattle.reading.specs.Reading.Waiting.{Nobody}
use Rattle.reading.specs.Model.{Did, last_step, then_step, run}
use Rattle.reading.specs.Model.Did.{Gave, Wrong}
use Rattle.std.proofs.lemmas.Bool.{ne_eqb}
use Rattle.reading.proofs.Bounds.{letters_few}
use Rattle.reader.specs.Letters.{marked}
use Rattle.reader.specs.declared.letters.SwitchLetter.{SwitchLetter}
use Rattle.reader.specs.Meaning.{letter_code, letter_length}
use Rattle.reader.specs.Answers.{applied}
use Rattle.reader.proofs.FirstLetter.{from_letter}

take_long : (n : ℕ) (t : Text) → take (length (take n t)) t ≡ take n t
take_long zero t = refl
take_long (suc n) [] = refl
take_long (suc n) (b ∷ t) = ap (λ (x : Text). b ∷ x) (take_long n t)

drop_long : (n : ℕ) (t : Text) → drop (length (take n t)) t ≡ drop n t
drop_long zero t = refl
drop_long (suc n) [] = refl
drop_long (suc n) (b ∷ t) = drop_long n t

long_is : (b : ℕ) (t : Text) → letter_length (b ∷ t) ≡ suc (length (take (continuation_len b) t))
long_is b t = let e = length-take (continuation_len b) t in omega (arith, e)

-- the first letter of a text
pub first_letter : (t : Text) → 0 < length t → letters t ≡ letter_code (take (letter_length t) t) ∷ letters (drop (letter_length t) t)
first_letter [] h = absurd (omega arith)
first_letter (b ∷ t) h =
    let n = continuation_len b in
    from_letter n (lead_bits b) t
    ∙ ap (λ (x : Text). letter_code (b ∷ x) ∷ letters (drop n t)) (sym (take_long n t))
    ∙ ap (λ (x : Text). letter_code (b ∷ take (length (take n t)) t) ∷ letters x) (sym (drop_long n t))
    ∙ ap (λ (k : ℕ). letter_code (take k (b ∷ t)) ∷ letters (drop k (b ∷ t))) (sym (long_is b t))

abbrev pub on_did : Did → (List Value → Waiting → Did) → Did
on_did (Gave vs who) go = go vs who
on_did (Wrong f) go = Wrong f

on_gave : (d : Did) → d ≡ on_did d Gave
on_gave (Gave vs who) = refl
on_gave (Wrong f) = refl

on_cond : (t f : Bool) (hs : List Value) (twice wrong : Refusal) (go : List Value → Did) → cond t (cond f (Wrong twice) (go hs)) (Wrong wrong) ≡ on_did (cond t (cond f (Wrong twice) (Gave hs Nobody)) (Wrong wrong)) (λ hs who. go hs)
on_cond true true hs twice wrong go = refl
on_cond true false hs twice wrong go = refl
on_cond false f hs twice wrong go = refl

then_on : (at j : ℕ) (o : Option Called) (vs : List Value) (go : List Value → Did) → then_step at j o vs go ≡ on_did (then_step at j o vs (λ hs. Gave hs Nobody)) (λ hs who. go hs)
then_on at j None vs go = refl
then_on at j (Some c) vs go = on_cond (takes_true c.parameter) (is_full c vs) _ _ _ go

on_same : (d : Did) (f h : List Value → Waiting → Did) → ((hs : List Value) (who : Waiting) → f hs who ≡ h hs who) → on_did d f ≡ on_did d h
on_same (Gave vs who) f h e = e vs who
on_same (Wrong r) f h e = refl

-- the letters that are left, and who waits where none is
abbrev pub run_on : List ParameterMeaning → ℕ → Option Text → List Value → Waiting → ℕ → List SwitchLetter → Did
run_on ps at value vs who j [] = Gave vs who
run_on ps at value vs who j (l ∷ ls) = on_did (applied l.last at j (called_at ps (letter_place ps l.code)) value vs) (λ hs w. run_on ps at value hs w (j + 1) ls)

module _ (ps : List ParameterMeaning) (at : ℕ) (value : Option Text) where
  run_marked : (vs : List Value) (who : Waiting) (j c : ℕ) (cs : List ℕ) → run_on ps at value vs who j (marked (c ∷ cs)) ≡ run ps at value vs j (map Letter (c ∷ cs))
  run_marked vs who j c [] = sym (on_gave (last_step at j (called ps (Letter c)) value vs))
  run_marked vs who j c (d ∷ cs) =
      on_same (then_step at j (called ps (Letter c)) vs (λ hs. Gave hs Nobody)) _ _ (λ hs w. run_marked hs w (j + 1) d cs)
      ∙ sym (then_on at j (called ps (Letter c)) vs (λ hs. run ps at value hs (j + 1) (map Letter (d ∷ cs))))
      ∙ ap (λ (k : ℕ). then_step at j (called ps (Letter c)) vs (λ hs. run ps at value hs k (map Letter (d ∷ cs)))) (add-one j)

  pub run_start : (vs : List Value) (cs : List ℕ) → run_on ps at value vs Nobody 0 (marked cs) ≡ run ps at value vs 0 (map Letter cs)
  run_start vs [] = refl
  run_start vs (c ∷ cs) = run_marked vs Nobody 0 c cs

-- What is left.

marked_long : (cs : List ℕ) → length (marked cs) ≡ length cs
marked_long [] = refl
marked_long (c ∷ []) = refl
marked_long (c ∷ d ∷ cs) = ap suc (marked_long (d ∷ cs))

pub marked_few : (t : Text) → length (marked (letters t)) ≤ length t
marked_few t = omega (arith, marked_long (letters t), letters_few t)

marked_more : (c : ℕ) (cs : List ℕ) (d : ℕ) (ds : List ℕ) → cs ≡ d ∷ ds → marked (c ∷ cs) ≡ record { code = c; last = false } ∷ marked cs
marked_more c cs d ds e = ap (λ (x : List ℕ). marked (c ∷ x)) e ∙ ap (λ (x : List ℕ). record { code = c; last = false } ∷ marked x) (sym e)

marked_here : (c : ℕ) (t : Text) → marked (c ∷ letters t) ≡ record { code = c; last = eqb (length t) 0 } ∷ marked (letters t)
marked_here c [] = refl
marked_here c (b ∷ t) = marked_more c (letters (b ∷ t)) _ _ (first_letter (b ∷ t) (omega arith)) ∙ ap (λ (x : Bool). record { code = c; last = x } ∷ marked (letters (b ∷ t))) (sym (ne_eqb (suc (length t)) 0 (λ e. omega arith)))

pub one_left : (t letter rest : Text) (len code : ℕ) → 0 < length t → len ≡ letter_length t → letter ≡ take len t → rest ≡ drop len t → code ≡ letter_code letter → marked (letters t) ≡ record { code = code; last = eqb (length rest) 0 } ∷ marked (letters rest)
one_left t letter rest len code h l k r e =
    ap marked (first_letter t h)
    ∙ ap (λ (n : ℕ). marked (letter_code (take n t) ∷ letters (drop n t))) (sym l)
    ∙ ap (λ (x : Text). marked (letter_code x ∷ letters (drop len t))) (sym k)
    ∙ ap (λ (x : Text). marked (letter_code letter ∷ letters x)) (sym r)
    ∙ ap (λ (c : ℕ). marked (c ∷ letters rest)) (sym e)
    ∙ marked_here code rest
