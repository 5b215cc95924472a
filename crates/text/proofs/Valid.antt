-- The test by lead bytes decides the grammar.
use Rattle.std.proofs.Common.{◌≡◌, ℕ, zero, suc, ◌≤◌, true, eqb, List, [], ◌∷◌, length, drop, sym, refl, subst, arith}
use Rattle.std.specs.List.{AllByRecursion}
use Rattle.std.proofs.lemmas.List.{length-drop, nil_from_length}
use Rattle.std.proofs.lemmas.Bool.{and_parts, and_from, eqb-true, eqb-false, eq-eqb, ne_eqb, false≢true}
use Rattle.text.specs.Lead.{front, chars, valid, all_valid}
use Rattle.text.specs.Utf8.{Utf8}
use Rattle.text.proofs.Cuts.{either_way}
use Rattle.text.proofs.Grammar.{utf8_front, front_utf8}

chars_is : (n : ℕ) (s : List ℕ) → length s ≤ n → Utf8 s → chars n s ≡ true
chars_is zero s h u = eq-eqb (length s) 0 (omega arith)
chars_is (suc n) s h u =
    either_way (eqb (length s) 0) (λ e. rw e) (λ e.
    let some = eqb-false (length s) 0 e in
    let f = utf8_front u (omega arith) in
    rw (e, ne_eqb (front s) 0 (let k = f.0 in omega arith))
    (chars_is n (drop (front s) s) (let k = f.0 in omega (arith, length-drop (front s) s)) f.1))

chars_utf8 : (n : ℕ) (s : List ℕ) → chars n s ≡ true → Utf8 s
chars_utf8 zero s e = subst Utf8 (sym (nil_from_length s (eqb-true (length s) 0 e))) Utf8.none
chars_utf8 (suc n) s e =
    either_way (eqb (length s) 0) (λ h. subst Utf8 (sym (nil_from_length s (eqb-true (length s) 0 h))) Utf8.none) (λ h.
    either_way (eqb (front s) 0) (λ k. absurd (false≢true (rw (h, k) at e))) (λ k.
    let some = eqb-false (front s) 0 k in
    front_utf8 s (omega arith) (chars_utf8 n (drop (front s) s) (rw (h, k) at e))))

pub valid_from : (s : List ℕ) → Utf8 s → valid s ≡ true
valid_from s u = chars_is (length s) s (omega arith) u

pub utf8_from : (s : List ℕ) → valid s ≡ true → Utf8 s
utf8_from s e = chars_utf8 (length s) s e

pub all_valid_from : (ws : List (List ℕ)) → AllByRecursion Utf8 ws → all_valid ws ≡ true
all_valid_from [] a = refl
all_valid_from (w ∷ ws) a = and_from (valid w) (all_valid ws) (valid_from w a.0) (all_valid_from ws a.1)

pub all_utf8_from : (ws : List (List ℕ)) → all_valid ws ≡ true → AllByRecursion Utf8 ws
all_utf8_from [] e = tt
all_utf8_from (w ∷ ws) e = let p = and_parts (valid w) (all_valid ws) e in (utf8_from w p.0, all_utf8_from ws p.1)
