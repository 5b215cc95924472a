-- The gauge's test decides its relation.
use Rattle.std.proofs.Common.{◌≡◌, ℕ, ◌+◌, ◌*◌, ◌≤◌, Bool, true, false, cond, not, ◌&&◌, eqb, leb, [], ◌∷◌, ◌++◌, length, get_or, take, drop, Some, None, Decides, Option, sym, refl, ap, ◌∙◌, subst, ⊎_elim, arith}
use Rattle.std.proofs.lemmas.List.{append-nil, take_at, drop_at, take-append-drop}
use Rattle.std.proofs.lemmas.Bool.{and_parts, and_from, leb-true, le-leb, eqb-true, ne_eqb, eqb-false, not-true, not_from_false, false≢true, cond-true, cond-false, cases_Bool}
use Rattle.std.specs.Bool.{then_some}
use Rattle.std.specs.Str.{all_ascii_digits}
use Rattle.text.specs.Identifier.{Text}
use Rattle.judge.specs.Metres.{Metres, Whole, Fraction, decimal, thousandths, value_of}
use Rattle.judge.specs.Rounding.{Rounded, rounded}
use Rattle.judge.specs.Gauge.{OnGauge, is_whole, is_fraction, following, leading_digits, reading_of, from_to, on_gauge}
use Rattle.judge.proofs.Digits.{leading_written, leading_append}

-- rounding

pub rounded_is : (millimetres centimetres : ℕ) → Rounded millimetres centimetres → centimetres ≡ rounded millimetres
rounded_is millimetres centimetres r = omega arith

pub rounded_does : (millimetres : ℕ) → Rounded millimetres (rounded millimetres)
rounded_does millimetres = record { up = omega arith; down = omega arith }

-- digits before and behind the point

pub whole_few : (digits : Text) → is_whole digits ≡ true → length digits ≤ 4
whole_few [] e = omega arith
whole_few (d ∷ []) e = omega arith
whole_few (d ∷ n ∷ more) e = leb-true _ _ (and_parts (not (eqb d 48)) (leb (length (d ∷ n ∷ more)) 4) e).1

whole_needed : (digits : Text) → is_whole digits ≡ true → get_or digits 0 0 ≡ 48 → length digits ≡ 1
whole_needed [] e h = absurd (false≢true e)
whole_needed (d ∷ []) e h = refl
whole_needed (d ∷ n ∷ more) e h =
    let p = and_parts (not (eqb d 48)) (leb (length (d ∷ n ∷ more)) 4) e in absurd (eqb-false d 48 (not-true (eqb d 48) p.0) h)

whole_some : (digits : Text) → is_whole digits ≡ true → 1 ≤ length digits
whole_some [] e = absurd (false≢true e)
whole_some (d ∷ more) e = omega arith

whole_does : (digits : Text) → all_ascii_digits digits ≡ true → is_whole digits ≡ true → Whole digits
whole_does digits w e = record { written = w; some = whole_some digits e; few = whole_few digits e; needed = whole_needed digits e }

whole_is : (digits : Text) → Whole digits → is_whole digits ≡ true
whole_is [] w = absurd (let h = w.some in omega arith)
whole_is (d ∷ []) w = refl
whole_is (d ∷ n ∷ more) w =
    and_from (not (eqb d 48)) _ (not_from_false (eqb d 48) (ne_eqb d 48 (λ h. let one = w.needed h in omega arith))) (le-leb _ _ w.few)

pub fraction_does : (digits : Text) → is_fraction digits ≡ true → Fraction digits
fraction_does digits e =
    let p = and_parts (leb 1 (length digits) && leb (length digits) 3) (all_ascii_digits digits) e in
    let q = and_parts (leb 1 (length digits)) (leb (length digits) 3) p.0 in
    record { written = p.1; some = leb-true _ _ q.0; few = leb-true _ _ q.1 }

fraction_is : (digits : Text) → Fraction digits → is_fraction digits ≡ true
fraction_is digits f = and_from _ _ (and_from _ _ (le-leb _ _ f.some) (le-leb _ _ f.few)) f.written

-- readings

when_some : (b : Bool) (x y : ℕ) → then_some b x ≡ Some y → (b ≡ true) × (y ≡ x)
when_some true x y e = (refl, cc)
when_some false x y e = absurd (let z : ◌≡◌ {A = ℕ} 0 1 = cc in omega arith)

none-some : (m : ℕ) → None ≡ Some m → ⊥
none-some m e = let z : ◌≡◌ {A = ℕ} 0 1 = cc in omega arith

-- the text reads so many millimetres
record Reads (text : Text) (millimetres : ℕ) : Type 0 where
  whole : Text
  fraction : Text
  metres : Metres text whole fraction
  value : millimetres ≡ value_of whole fraction

following_does : (whole rest : Text) (m : ℕ) → Whole whole → following (decimal whole) rest ≡ Some m → Reads (whole ++ rest) m
following_does whole [] m w e =
    let v : decimal whole * 1000 ≡ m = cc in
    record { whole = whole; fraction = []; metres = subst (λ t. Metres t whole []) (sym (append-nil whole)) (Metres.round w); value = omega arith }
following_does whole (c ∷ more) m w e =
    let s = when_some (eqb c 46 && is_fraction more) (decimal whole * 1000 + thousandths more) m e in
    let p = and_parts (eqb c 46) (is_fraction more) s.0 in
    record {
      whole = whole;
      fraction = more;
      metres = subst (λ b. Metres (whole ++ (b ∷ more)) whole more) (sym (eqb-true c 46 p.0)) (Metres.pointed w (fraction_does more p.1));
      value = s.1;
    }

reading_does : (text : Text) (m : ℕ) → reading_of text ≡ Some m → Reads text m
reading_does text m e =
    let n = leading_digits text in
    let F : Text → Text → Option ℕ = λ digits rest. following (decimal digits) rest in
    ⊎_elim
    (λ w. subst (λ t. Reads t m) (take-append-drop n text)
    (following_does (take n text) (drop n text) m (whole_does (take n text) (leading_written text) w)
    (sym (cond-true (is_whole (take n text)) (F (take n text) (drop n text)) None w) ∙ e)))
    (λ w. absurd (none-some m (sym (cond-false (is_whole (take n text)) (F (take n text) (drop n text)) None w) ∙ e)))
    (cases_Bool (is_whole (take n text)))

reading_at : (whole rest : Text) → Whole whole → leading_digits rest ≡ 0 → reading_of (whole ++ rest) ≡ following (decimal whole) rest
reading_at whole rest w none =
    let n : length whole ≡ leading_digits (whole ++ rest) = let l = leading_append whole rest w.written in omega arith in
    let F : Text → Text → Option ℕ = λ digits more. cond (is_whole digits) (following (decimal digits) more) None in
    ap (λ digits. F digits (drop (leading_digits (whole ++ rest)) (whole ++ rest))) (take_at whole rest (leading_digits (whole ++ rest)) n)
    ∙ ap (F whole) (drop_at whole rest (leading_digits (whole ++ rest)) n)
    ∙ cond-true (is_whole whole) (following (decimal whole) rest) None (whole_is whole w)

reading_is : {text whole fraction : Text} → Metres text whole fraction → reading_of text ≡ Some (value_of whole fraction)
reading_is {text} (Metres.round {whole} w) =
    let v : decimal whole * 1000 ≡ value_of whole [] = omega arith in
    ap reading_of (sym (append-nil whole)) ∙ reading_at whole [] w refl ∙ ap (λ m. Some m) v
reading_is (Metres.pointed {whole} {fraction} w f) = reading_at whole (46 ∷ fraction) w refl ∙ rw (fraction_is fraction f)

-- the gauge

within : (low high : ℕ) (o : Option ℕ) → from_to low high o ≡ true → (m : ℕ) × (o ≡ Some m) × (low ≤ rounded m) × (rounded m ≤ high)
within low high None e = absurd (false≢true e)
within low high (Some m) e =
    let p = and_parts (leb low (rounded m)) (leb (rounded m) high) e in (m, refl, leb-true _ _ p.0, leb-true _ _ p.1)

gauge_does : (low high : ℕ) (text : Text) → on_gauge low high text ≡ true → OnGauge low high text
gauge_does low high text e =
    let p = within low high (reading_of text) e in
    let r = reading_does text p.0 p.1 in
    record {
      whole = r.whole;
      fraction = r.fraction;
      centimetres = rounded p.0;
      reading = r.metres;
      rounding = subst (λ m. Rounded m (rounded p.0)) r.value (rounded_does p.0);
      above = p.2;
      below = p.3;
    }

gauge_is : (low high : ℕ) (text : Text) → OnGauge low high text → on_gauge low high text ≡ true
gauge_is low high text g =
    let m = value_of g.whole g.fraction in
    let c = rounded_is m g.centimetres g.rounding in
    ap (from_to low high) (reading_is g.reading)
    ∙ and_from _ _ (le-leb low (rounded m) (subst (λ n. low ≤ n) c g.above)) (le-leb (rounded m) high (subst (λ n. n ≤ high) c g.below))

pub gauge_decides : (low high : ℕ) (text : Text) → Decides (on_gauge low high text) (OnGauge low high text)
gauge_decides low high text = (gauge_does low high text, gauge_is low high text)
