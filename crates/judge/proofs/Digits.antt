-- Digits, and the numbers that they write.
use Rattle.std.proofs.Common.{◌≡◌, ℕ, zero, suc, ◌+◌, ◌-◌, ◌*◌, ◌^◌, ◌<◌, ◌≤◌, true, [], ◌∷◌, ◌++◌, length, get_or, take, fold, refl, inl, inr, one-add, arith, rules}
use Rattle.std.proofs.lemmas.List.{length-take-le}
use Rattle.std.proofs.lemmas.Str.Parse.{IsNumeralModel, numerals_by_fold, tells_all_ascii_digits, digits_value_short, digit_at}
use Rattle.std.proofs.lemmas.Bool.{and_parts, and_from, cases_Bool}
use Rattle.std.specs.Char.{is_ascii_digit}
use Rattle.std.specs.Int.{IsInRange}
use Rattle.std.specs.Str.{all_ascii_digits}
use Rattle.text.specs.Identifier.{Text}
use Rattle.judge.specs.Metres.{decimal}
use Rattle.judge.specs.Gauge.{leading_digits}

pub own : IsNumeralModel (λ digits. all_ascii_digits digits ≡ true) decimal
own = numerals_by_fold _ tells_all_ascii_digits (fold (λ number digit. number * 10 + (digit - 48))) (search rules)

pub digits_take : (n : ℕ) (digits : Text) → all_ascii_digits digits ≡ true → all_ascii_digits (take n digits) ≡ true
digits_take zero digits e = refl
digits_take (suc n) [] e = refl
digits_take (suc n) (d ∷ more) e =
    let p = and_parts (is_ascii_digit d) (all_ascii_digits more) e in and_from (is_ascii_digit d) (all_ascii_digits (take n more)) p.0 (digits_take n more p.1)

-- at most four digits write less than 10 ^ 4
pub small : (digits : Text) → all_ascii_digits digits ≡ true → length digits ≤ 4 → decimal digits < 10 ^ 4
small digits e h = digits_value_short own digits 4 e h

module _ (digits : Text) (i : ℕ) (written : all_ascii_digits digits ≡ true) (few : length digits ≤ 4) (here : i < length digits) where
  pub small_so_far : decimal (take i digits) < 10 ^ 4
  small_so_far =
      let l : i ≤ length digits = omega arith in
      small (take i digits) (digits_take i digits written) (omega (arith, length-take-le i digits l))

  pub digit_here : IsInRange 48 57 (get_or digits i 0)
  digit_here = digit_at digits i (own.to digits written) here

-- the digits that a text starts with
pub leading_written : (text : Text) → all_ascii_digits (take (leading_digits text) text) ≡ true
leading_written [] = refl
leading_written (b ∷ t) =
    elim (cases_Bool (is_ascii_digit b)) [ inl e ↦ rw (e, one-add) (and_from (is_ascii_digit b) _ e (leading_written t)) | inr e ↦ rw e ]

pub leading_append : (digits rest : Text) → all_ascii_digits digits ≡ true → leading_digits (digits ++ rest) ≡ length digits + leading_digits rest
leading_append [] rest e = omega arith
leading_append (d ∷ more) rest e =
    let p = and_parts (is_ascii_digit d) (all_ascii_digits more) e in rw p.0 (omega (arith, leading_append more rest p.1))
