-- A line keeps the limits or oversteps one first.
use Rattle.std.proofs.Common.{◌≡◌, ℕ, ◌<◌, ◌≤◌, List, [], ◌∷◌, ◌++◌, length, refl, ap, subst, arith}
use Rattle.std.specs.List.{AllByRecursion}
use Rattle.refusal.specs.declared.Refusal.{Refusal}
use Rattle.refusal.specs.declared.Refusal.TheVariants.{WordNotUtf8}
use Rattle.text.specs.Identifier.{Text}
use Rattle.text.specs.Utf8.{Utf8}
use Rattle.text.specs.Line.{Cut, Within, Oversteps, LineStands}
use Rattle.text.proofs.Cuts.{cut_only, cut_last}

-- a list of words has one first word that is not UTF-8
same_first : (xs ys us vs : List Text) (x u : Text) → xs ++ x ∷ ys ≡ us ++ u ∷ vs → AllByRecursion Utf8 xs → (Utf8 x → ⊥) → AllByRecursion Utf8 us → (Utf8 u → ⊥) → length xs ≡ length us
same_first [] ys [] vs x u e a n b m = refl
same_first [] ys (w ∷ us) vs x u e a n b m = absurd (n (subst Utf8 (let h : w ≡ x = cc in h) b.0))
same_first (w ∷ xs) ys [] vs x u e a n b m = absurd (m (subst Utf8 (let h : w ≡ u = cc in h) a.0))
same_first (w ∷ xs) ys (z ∷ us) vs x u e a n b m =
    let h : xs ++ x ∷ ys ≡ us ++ u ∷ vs = cc in
    let k = same_first xs ys us vs x u h a.1 n b.1 m in omega arith

all-at : (xs ys : List Text) (x : Text) → AllByRecursion Utf8 (xs ++ x ∷ ys) → Utf8 x
all-at [] ys x a = a.0
all-at (w ∷ xs) ys x a = all-at xs ys x a.1

many_garbled : {line : List ℕ} {ws : List Text} (before : List Text) (word : Text) (after : List Text) → Cut line ws → 128 < length ws → Cut line (before ++ word ∷ after) → length (before ++ word ∷ after) ≤ 128 → ⊥
many_garbled {line} {ws} before word after c m d n = let k = ap length (cut_only line ws (before ++ word ∷ after) c d) in omega arith

apart : {line : List ℕ} {own : List Text} {refusal : Refusal} → Within line own → Oversteps line refusal → ⊥
apart w (Oversteps.long h) = let k = w.short in omega arith
apart w (Oversteps.unclosed h s n) = n (cut_last w.cut s)
apart {line} {own} w (Oversteps.many {words} h c m) = let k = ap length (cut_only line words own c w.cut) in let f = w.few in omega arith
apart {line} {own} w (Oversteps.garbled before word after h c m a n) =
    n (all-at before after word (subst (AllByRecursion Utf8) (cut_only line own (before ++ word ∷ after) w.cut c) w.valid))

first : {line : List ℕ} {refusal other : Refusal} → Oversteps line refusal → Oversteps line other → refusal ≡ other
first (Oversteps.long h) (Oversteps.long k) = refl
first (Oversteps.long h) (Oversteps.unclosed k s n) = absurd (omega arith)
first (Oversteps.long h) (Oversteps.many k c m) = absurd (omega arith)
first (Oversteps.long h) (Oversteps.garbled before word after k c m a n) = absurd (omega arith)
first (Oversteps.unclosed h s n) (Oversteps.long k) = absurd (omega arith)
first (Oversteps.unclosed h s n) (Oversteps.unclosed k t m) = refl
first (Oversteps.unclosed h s n) (Oversteps.many k c m) = absurd (n (cut_last c s))
first (Oversteps.unclosed h s n) (Oversteps.garbled before word after k c m a o) = absurd (n (cut_last c s))
first (Oversteps.many h c m) (Oversteps.long k) = absurd (omega arith)
first (Oversteps.many h c m) (Oversteps.unclosed k s n) = absurd (n (cut_last c s))
first (Oversteps.many h c m) (Oversteps.many k d n) = refl
first (Oversteps.many h c m) (Oversteps.garbled before word after k d n a o) = absurd (many_garbled before word after c m d n)
first (Oversteps.garbled before word after h c m a n) (Oversteps.long k) = absurd (omega arith)
first (Oversteps.garbled before word after h c m a n) (Oversteps.unclosed k s o) = absurd (o (cut_last c s))
first (Oversteps.garbled before word after h c m a n) (Oversteps.many k d o) = absurd (many_garbled before word after d o c m)
first {line} (Oversteps.garbled before word after h c m a n) (Oversteps.garbled ante other post k d o b p) =
    ap WordNotUtf8 (same_first before after ante post word other (cut_only line (before ++ word ∷ after) (ante ++ other ∷ post) c d) a n b p)

pub line_stands : LineStands
line_stands = record {
  only = cut_only;
  apart = λ line words refusal w o. apart w o;
  first = λ line refusal other o p. first o p;
}
