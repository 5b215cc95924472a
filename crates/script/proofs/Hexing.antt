-- Digits and the bytes that they spell.
use Rattle.std.proofs.Common.{◌≡◌, ℕ, ◌+◌, ◌-◌, ◌*◌, ◌^◌, zero, suc, false, ◌/◌, ◌%◌, ◌<◌, ◌≤◌, ◌⊎◌, List, [], ◌∷◌, ◌++◌, length, get_or, get_or-take, get_or-drop, take, drop, Some, None, Option, Ok, Err, sym, refl, ap, ◌∙◌, subst, inl, inr, arith}
use Rattle.std.specs.List.{AllByRecursion}
use Rattle.std.proofs.lemmas.Fmt.{hex_byte}
use Rattle.std.specs.Fmt.{digit_glyph, digits, format_spec, padded_integral}
use Rattle.std.specs.Simd.{first_chunks}
use Rattle.std.proofs.lemmas.Bool.{cases_lt, lt-ltb, le-ltb}
use Rattle.std.proofs.lemmas.Bool.Decides.{nat_tests}
use Rattle.std.proofs.lemmas.List.{take-append-drop, drop_more, take_more, take_all, append_assoc}
use Rattle.std.specs.Option.{ok_or}
use Rattle.script.specs.Hex.{digit_of, hex_of, value_of, Spells, HexStands}
use Rattle.script.specs.declared.hex.HexFault.{HexFault}
use Rattle.script.specs.declared.hex.HexFault.TheVariants.{NotHex}

pub hex_push : (xs : List ℕ) (b : ℕ) → hex_of (xs ++ b ∷ []) ≡ hex_of xs ++ (digit_of (b / 16) ∷ digit_of (b % 16) ∷ [])
hex_push [] b = refl
hex_push (x ∷ xs) b = ap (λ l. digit_of (x / 16) ∷ digit_of (x % 16) ∷ l) (hex_push xs b)

digit_glyph_of : (n : ℕ) → n < 16 → digit_glyph false n ≡ digit_of n
digit_glyph_of n h = grind (arith, nat_tests)

-- one byte more, as `{:02x}` writes it
pub hex_more : (bytes : List ℕ) (i : ℕ) → i < length bytes → get_or bytes i 0 < 256 → hex_of (take i bytes) ++ padded_integral (format_spec 32 0 4 2 (2 ^ 64 - 1)) false [] (digits 16 false (get_or bytes i 0)) ≡ hex_of (take (i + 1) bytes)
hex_more bytes i h small =
    let b = get_or bytes i 0 in
    ap (λ l. hex_of (take i bytes) ++ l) (hex_byte false b small ∙ ap (λ d. d ∷ digit_glyph false (b % 16) ∷ []) (digit_glyph_of (b / 16) (omega arith)) ∙ ap (λ d. digit_of (b / 16) ∷ d ∷ []) (digit_glyph_of (b % 16) (omega arith)))
    ∙ sym (hex_push (take i bytes) b) ∙ ap hex_of (sym (take_more bytes i 0 h))

value_digit : (n : ℕ) → n < 16 → value_of (digit_of n) ≡ Some n
value_digit n h = go (cases_lt n 10)
  where
    go : (n < 10) ⊎ (10 ≤ n) → value_of (digit_of n) ≡ Some n
    go (inl l) =
        let e : digit_of n ≡ 48 + n = rw (lt-ltb n 10 l) in
        let k : 48 + n - 48 ≡ n = omega arith in
        ap value_of e ∙ (let v : value_of (48 + n) ≡ Some (48 + n - 48) = grind (arith, nat_tests) in v) ∙ ap Some k
    go (inr l) =
        let e : digit_of n ≡ 97 + (n - 10) = rw (le-ltb n 10 l) in
        let k : 97 + (n - 10) - 97 + 10 ≡ n = omega arith in
        ap value_of e ∙ (let v : value_of (97 + (n - 10)) ≡ Some (97 + (n - 10) - 97 + 10) = grind (arith, nat_tests) in v) ∙ ap Some k

back : (bytes : List ℕ) → AllByRecursion (λ b. b < 256) bytes → Spells (hex_of bytes) bytes
back [] a = Spells.none
back (b ∷ t) a =
    let h : b < 256 = a.0 in
    let whole : b / 16 * 16 + b % 16 ≡ b = omega arith in
    subst (λ x. Spells (hex_of (b ∷ t)) (x ∷ t)) whole
    (Spells.more (value_digit (b / 16) (omega arith)) (value_digit (b % 16) (omega arith)) (back t a.1))

only : {digits bytes others : List ℕ} → Spells digits bytes → Spells digits others → bytes ≡ others
only Spells.none Spells.none = refl
only (Spells.more p q s) (Spells.more r t u) = let e = only s u in cc

pub hex_stands : HexStands
hex_stands = record { back = back; only = λ digits bytes others s t. only s t }

pub spells_push : {digits bytes : List ℕ} (a b : ℕ) {x y : ℕ} → Spells digits bytes → value_of a ≡ Some x → value_of b ≡ Some y → Spells (digits ++ a ∷ b ∷ []) (bytes ++ (x * 16 + y) ∷ [])
spells_push a b Spells.none p q = Spells.more p q Spells.none
spells_push a b (Spells.more r t s) p q = Spells.more r t (spells_push a b s p q)

-- behind digits that spell bytes, the rest spells bytes too
pub spells_rest : {front bytes all : List ℕ} {rest : List ℕ} → Spells front bytes → Spells (front ++ rest) all → (more : List ℕ) × Spells rest more
spells_rest {all = all} Spells.none s = (all, s)
spells_rest (Spells.more p q s) (Spells.more r t u) = spells_rest s u

-- no bytes from a lone digit, or from what is no digit

first_digit : {a : ℕ} {t bytes : List ℕ} → Spells (a ∷ t) bytes → value_of a ≡ None → ⊥
first_digit (Spells.more p q s) e = let z : ◌≡◌ {A = ℕ} 0 1 = cc in omega arith

second_digit : {a b : ℕ} {t bytes : List ℕ} → Spells (a ∷ b ∷ t) bytes → value_of b ≡ None → ⊥
second_digit (Spells.more p q s) e = let z : ◌≡◌ {A = ℕ} 0 1 = cc in omega arith

-- digits that spell bytes are pairs
pub even : {digits bytes : List ℕ} → Spells digits bytes → length digits % 2 ≡ 0
even Spells.none = omega arith
even (Spells.more p q s) = let e = even s in omega arith

-- the digits of a pair
pub pair_digit : (k i j : ℕ) (xs : List ℕ) → i < k → j < 2 → get_or (get_or (first_chunks 2 k xs) i []) j 0 ≡ get_or xs (i * 2 + j) 0
pair_digit zero i j xs h l = absurd (omega arith)
pair_digit (suc k) zero j xs h l = get_or-take 2 xs j 0 l ∙ ap (λ n. get_or xs n 0) (omega arith)
pair_digit (suc k) (suc i) j xs h l = pair_digit k i j (drop 2 xs) (omega arith) l ∙ get_or-drop 2 xs (i * 2 + j) 0 ∙ ap (λ n. get_or xs n 0) (omega arith)

-- what a digit is asked for gives a value, or the fault that there is none
pub no_value : (o : Option ℕ) (fault : HexFault) → ok_or o NotHex ≡ Err fault → (o ≡ None) × (fault ≡ NotHex)
no_value None fault e = (refl, cc)
no_value (Some x) fault e = absurd (let z : ◌≡◌ {A = ℕ} 0 1 = cc in omega arith)

pub has_value : (o : Option ℕ) (x : ℕ) → ok_or o NotHex ≡ Ok x → o ≡ Some x
has_value None x e = absurd (let z : ◌≡◌ {A = ℕ} 0 1 = cc in omega arith)
has_value (Some y) x e = cc

-- a pair of digits
module _ (hex : List ℕ) (pairs : List (List ℕ)) (i : ℕ) (bytes : List ℕ) (are : pairs ≡ first_chunks 2 (length hex / 2) hex) (long : length pairs ≡ length hex / 2) (inside : i < length pairs) (sofar : Spells (take (i * 2) hex) bytes) where
  at : (j : ℕ) → j < 2 → get_or (get_or pairs i []) j 0 ≡ get_or hex (i * 2 + j) 0
  at j l = ap (λ ps. get_or (get_or ps i []) j 0) are ∙ pair_digit (length hex / 2) i j hex (omega arith) l

  first : get_or (get_or pairs i []) 0 0 ≡ get_or hex (i * 2) 0
  first = at 0 (omega arith) ∙ ap (λ n. get_or hex n 0) (omega arith)

  left : {all : List ℕ} → Spells hex all → (more : List ℕ) × Spells (get_or hex (i * 2) 0 ∷ get_or hex (i * 2 + 1) 0 ∷ drop (i * 2 + 1 + 1) hex) more
  left {all} s =
      let r = spells_rest sofar (subst (λ d. Spells d all) (sym (take-append-drop (i * 2) hex)) s) in
      (r.0, subst (λ d. Spells d r.0) (drop_more hex (i * 2) 0 (omega arith) ∙ ap (λ d. get_or hex (i * 2) 0 ∷ d) (drop_more hex (i * 2 + 1) 0 (omega arith))) r.1)

  pub not_high : value_of (get_or (get_or pairs i []) 0 0) ≡ None → (all : List ℕ) → Spells hex all → ⊥
  not_high e all s = first_digit (left s).1 (ap value_of (sym first) ∙ e)

  pub not_low : value_of (get_or (get_or pairs i []) 1 0) ≡ None → (all : List ℕ) → Spells hex all → ⊥
  not_low e all s = second_digit (left s).1 (ap value_of (sym (at 1 (omega arith))) ∙ e)

  pub one_byte : (x y : ℕ) → value_of (get_or (get_or pairs i []) 0 0) ≡ Some x → value_of (get_or (get_or pairs i []) 1 0) ≡ Some y → Spells (take ((i + 1) * 2) hex) (bytes ++ (x * 16 + y) ∷ [])
  one_byte x y p q =
      let k : i * 2 + 1 + 1 ≡ (i + 1) * 2 = omega arith in
      let e : take ((i + 1) * 2) hex ≡ take (i * 2) hex ++ get_or hex (i * 2) 0 ∷ get_or hex (i * 2 + 1) 0 ∷ [] =
      ap (λ j. take j hex) (sym k) ∙ take_more hex (i * 2 + 1) 0 (omega arith) ∙ ap (λ l. l ++ get_or hex (i * 2 + 1) 0 ∷ []) (take_more hex (i * 2) 0 (omega arith)) ∙ append_assoc (take (i * 2) hex) (get_or hex (i * 2) 0 ∷ []) (get_or hex (i * 2 + 1) 0 ∷ []) in
      subst (λ d. Spells d (bytes ++ (x * 16 + y) ∷ [])) (sym e)
      (spells_push (get_or hex (i * 2) 0) (get_or hex (i * 2 + 1) 0) sofar (ap value_of (sym first) ∙ p) (ap value_of (sym (at 1 (omega arith))) ∙ q))

-- all pairs read
pub all_pairs : (hex : List ℕ) (n i : ℕ) (bytes : List ℕ) → n ≡ length hex / 2 → length hex % 2 < 1 → n ≤ i → Spells (take (i * 2) hex) bytes → Spells hex bytes
all_pairs hex n i bytes h e l s = subst (λ d. Spells d bytes) (take_all (i * 2) hex (omega arith)) s
