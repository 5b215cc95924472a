-- The character at the front by its lead byte is the character of the grammar.
use Rattle.std.proofs.Common.{◌≡◌, ℕ, ◌<◌, ◌≤◌, Bool, true, false, cond, ◌⊎◌, List, [], ◌∷◌, ◌++◌, length, drop, eqb, Decides, sym, refl, ap, ◌∙◌, subst, inl, inr, arith}
use Rattle.std.proofs.lemmas.Bool.{cases_lt, cases_eq, le-leb, lt-leb, cond-true, eqb-true, false≢true}
use Rattle.std.proofs.lemmas.Bool.Decides.{nat_tests}
use Rattle.std.proofs.lemmas.List.{drop_at}
use Rattle.text.specs.Lead.{announced, tail, second, followed, front}
use Rattle.text.specs.Utf8.{Tail, Char, Utf8}

-- which length is announced, by the range of the lead byte
data Lead (b : ℕ) : ℕ → Type 0 where
  one : b ≤ 127 → Lead b 1
  two : 194 ≤ b → b ≤ 223 → Lead b 2
  three : 224 ≤ b → b ≤ 239 → Lead b 3
  four : 240 ≤ b → b ≤ 244 → Lead b 4
  no_lead : Lead b 0

lead : (b : ℕ) → Lead b (announced b)
lead b = step₁ (cases_lt 127 b)
  where
    step₅ : 240 ≤ b → (244 < b) ⊎ (b ≤ 244) → Lead b (announced b)
    step₅ l (inl h) = rw (lt-leb b 127 (omega arith), lt-leb b 193 (omega arith), lt-leb b 223 (omega arith), lt-leb b 239 (omega arith), lt-leb b 244 h) Lead.no_lead
    step₅ l (inr h) = rw (lt-leb b 127 (omega arith), lt-leb b 193 (omega arith), lt-leb b 223 (omega arith), lt-leb b 239 (omega arith), le-leb b 244 h) (Lead.four l h)

    step₄ : 224 ≤ b → (239 < b) ⊎ (b ≤ 239) → Lead b (announced b)
    step₄ l (inl h) = step₅ (omega arith) (cases_lt 244 b)
    step₄ l (inr h) = rw (lt-leb b 127 (omega arith), lt-leb b 193 (omega arith), lt-leb b 223 (omega arith), le-leb b 239 h) (Lead.three l h)

    step₃ : 194 ≤ b → (223 < b) ⊎ (b ≤ 223) → Lead b (announced b)
    step₃ l (inl h) = step₄ (omega arith) (cases_lt 239 b)
    step₃ l (inr h) = rw (lt-leb b 127 (omega arith), lt-leb b 193 (omega arith), le-leb b 223 h) (Lead.two l h)

    step₂ : 128 ≤ b → (193 < b) ⊎ (b ≤ 193) → Lead b (announced b)
    step₂ l (inl h) = step₃ (omega arith) (cases_lt 223 b)
    step₂ l (inr h) = rw (lt-leb b 127 (omega arith), le-leb b 193 h) Lead.no_lead

    step₁ : (127 < b) ⊎ (b ≤ 127) → Lead b (announced b)
    step₁ (inl h) = step₂ (omega arith) (cases_lt 193 b)
    step₁ (inr h) = rw (le-leb b 127 h) (Lead.one h)

pub char_front : {c : List ℕ} → Char c → (rest : List ℕ) → front (c ++ rest) ≡ length c
char_front (Char.one f) rest = let l = f.most in grind (arith, nat_tests)
char_front (Char.two f t) rest = let l = f.most in grind (arith, nat_tests)
char_front (Char.three_E0 s t) rest = grind (arith, nat_tests)
char_front (Char.three_E1 f s t) rest = grind (arith, nat_tests)
char_front (Char.three_ED s t) rest = grind (arith, nat_tests)
char_front (Char.three_EE f s t) rest = grind (arith, nat_tests)
char_front (Char.four_F0 s t u) rest = grind (arith, nat_tests)
char_front (Char.four_F1 f s t u) rest = grind (arith, nat_tests)
char_front (Char.four_F4 s t u) rest = grind (arith, nat_tests)

-- a character stands at the front of the bytes
pub record Fronted (bs : List ℕ) (n : ℕ) : Type 0 where
  pub char : List ℕ
  pub rest : List ℕ
  pub is : Char char
  pub whole : bs ≡ char ++ rest
  pub long : length char ≡ n

pub tail_is : (b : ℕ) → tail b ≡ true → Tail b
tail_is b e = record { least = grind (arith, nat_tests); most = grind (arith, nat_tests) }

module _ (a b c : ℕ) (t : List ℕ) (least : 224 ≤ a) (most : a ≤ 239) (next : second a b ≡ true) (last : tail c ≡ true) where
  three_made : Char (a ∷ b ∷ c ∷ []) → Fronted (a ∷ b ∷ c ∷ t) 3
  three_made h = record { char = a ∷ b ∷ c ∷ []; rest = t; is = h; whole = refl; long = refl }

  plain_three : (a ≡ 224 → ⊥) → (a ≡ 237 → ⊥) → (a < 237) ⊎ (237 ≤ a) → Char (a ∷ b ∷ c ∷ [])
  plain_three m n (inl h) = Char.three_E1 (record { least = omega arith; most = omega arith }) (record { least = grind (arith, nat_tests); most = grind (arith, nat_tests) }) (tail_is c last)
  plain_three m n (inr h) = Char.three_EE (record { least = omega arith; most = omega arith }) (record { least = grind (arith, nat_tests); most = grind (arith, nat_tests) }) (tail_is c last)

  three_char : (a ≡ 224) ⊎ (a ≡ 224 → ⊥) → (a ≡ 237) ⊎ (a ≡ 237 → ⊥) → Char (a ∷ b ∷ c ∷ [])
  three_char (inl e) q = subst (λ (x : ℕ). Char (x ∷ b ∷ c ∷ [])) (sym e) (Char.three_E0 (record { least = grind (arith, nat_tests); most = grind (arith, nat_tests) }) (tail_is c last))
  three_char (inr m) (inl e) = subst (λ (x : ℕ). Char (x ∷ b ∷ c ∷ [])) (sym e) (Char.three_ED (record { least = grind (arith, nat_tests); most = grind (arith, nat_tests) }) (tail_is c last))
  three_char (inr m) (inr n) = plain_three m n (cases_lt a 237)

  three_from : Fronted (a ∷ b ∷ c ∷ t) 3
  three_from = three_made (three_char (cases_eq a 224) (cases_eq a 237))

module _ (a b c d : ℕ) (t : List ℕ) (least : 240 ≤ a) (most : a ≤ 244) (next : second a b ≡ true) (third : tail c ≡ true) (last : tail d ≡ true) where
  four_char : (a ≡ 240) ⊎ (a ≡ 240 → ⊥) → (a ≡ 244) ⊎ (a ≡ 244 → ⊥) → Char (a ∷ b ∷ c ∷ d ∷ [])
  four_char (inl e) q = subst (λ (x : ℕ). Char (x ∷ b ∷ c ∷ d ∷ [])) (sym e) (Char.four_F0 (record { least = grind (arith, nat_tests); most = grind (arith, nat_tests) }) (tail_is c third) (tail_is d last))
  four_char (inr m) (inl e) = subst (λ (x : ℕ). Char (x ∷ b ∷ c ∷ d ∷ [])) (sym e) (Char.four_F4 (record { least = grind (arith, nat_tests); most = grind (arith, nat_tests) }) (tail_is c third) (tail_is d last))
  four_char (inr m) (inr n) = Char.four_F1 (record { least = omega arith; most = omega arith }) (record { least = grind (arith, nat_tests); most = grind (arith, nat_tests) }) (tail_is c third) (tail_is d last)

  four_from : Fronted (a ∷ b ∷ c ∷ d ∷ t) 4
  four_from = record { char = a ∷ b ∷ c ∷ d ∷ []; rest = t; is = four_char (cases_eq a 240) (cases_eq a 244); whole = refl; long = refl }

-- the bytes that a lead byte announces, where they follow
fronted : (b : ℕ) (t : List ℕ) {n : ℕ} → Lead b n → followed n (b ∷ t) ≡ true → Fronted (b ∷ t) n
fronted b t (Lead.one h) e = record { char = b ∷ []; rest = t; is = Char.one (record { least = omega arith; most = h }); whole = refl; long = refl }
fronted b [] (Lead.two l m) e = absurd (false≢true e)
fronted b (c ∷ t) (Lead.two l m) e = record { char = b ∷ c ∷ []; rest = t; is = Char.two (record { least = l; most = m }) (record { least = grind (arith, nat_tests); most = grind (arith, nat_tests) }); whole = refl; long = refl }
fronted b [] (Lead.three l m) e = absurd (false≢true e)
fronted b (c ∷ []) (Lead.three l m) e = absurd (false≢true e)
fronted b (c ∷ d ∷ t) (Lead.three l m) e = three_from b c d t l m (grind (arith, nat_tests)) (grind (arith, nat_tests))
fronted b [] (Lead.four l m) e = absurd (false≢true e)
fronted b (c ∷ []) (Lead.four l m) e = absurd (false≢true e)
fronted b (c ∷ d ∷ []) (Lead.four l m) e = absurd (false≢true e)
fronted b (c ∷ d ∷ f ∷ t) (Lead.four l m) e = four_from b c d f t l m (grind (arith, nat_tests)) (grind (arith, nat_tests)) (grind (arith, nat_tests))
fronted b t Lead.no_lead e = absurd (false≢true e)

some_front : (b : ℕ) (t : List ℕ) → 0 < front (b ∷ t) → followed (announced b) (b ∷ t) ≡ true
some_front b t h = either (followed (announced b) (b ∷ t)) refl
  where
    either : (x : Bool) → x ≡ followed (announced b) (b ∷ t) → followed (announced b) (b ∷ t) ≡ true
    either true e = sym e
    either false e = absurd (let k : 0 < cond false (announced b) 0 = subst (λ (x : Bool). 0 < cond x (announced b) 0) (sym e) h in omega arith)

pub front_char : (bs : List ℕ) → 0 < front bs → Fronted bs (front bs)
front_char [] h = absurd (omega arith)
front_char (b ∷ t) h =
    let f = some_front b t h in
    subst (Fronted (b ∷ t)) (sym (cond-true (followed (announced b) (b ∷ t)) (announced b) 0 f)) (fronted b t (lead b) f)

some_char : {c : List ℕ} → Char c → 0 < length c
some_char (Char.one f) = omega arith
some_char (Char.two f t) = omega arith
some_char (Char.three_E0 s t) = omega arith
some_char (Char.three_E1 f s t) = omega arith
some_char (Char.three_ED s t) = omega arith
some_char (Char.three_EE f s t) = omega arith
some_char (Char.four_F0 s t u) = omega arith
some_char (Char.four_F1 f s t u) = omega arith
some_char (Char.four_F4 s t u) = omega arith

front_some : (bs : List ℕ) → 0 < front bs → 0 < length bs
front_some [] h = h
front_some (b ∷ t) h = omega arith

-- a text that is not empty is UTF-8 exactly when a character stands at its front and the rest is UTF-8

pub utf8_front : {bs : List ℕ} → Utf8 bs → 0 < length bs → (0 < front bs) × Utf8 (drop (front bs) bs)
utf8_front Utf8.none h = absurd (omega arith)
utf8_front (Utf8.more {char} {rest} c r) h =
    let e = char_front c rest in
    (subst (λ (n : ℕ). 0 < n) (sym e) (some_char c), subst Utf8 (sym (ap (λ n. drop n (char ++ rest)) e ∙ drop_at char rest (length char) refl)) r)

pub front_utf8 : (bs : List ℕ) → 0 < front bs → Utf8 (drop (front bs) bs) → Utf8 bs
front_utf8 bs h u =
    let f = front_char bs h in
    let e : drop (front bs) bs ≡ f.rest = ap (drop (front bs)) f.whole ∙ drop_at f.char f.rest (front bs) f.long in
    subst Utf8 (sym f.whole) (Utf8.more f.is (subst Utf8 e u))

-- the same where a character of n bytes was found at the front
module _ (bs : List ℕ) (n : ℕ) (some : 0 < front bs) (is : n ≡ front bs) where
  pub before : Utf8 (drop n bs) → Utf8 bs
  before u = front_utf8 bs some (subst (λ (k : ℕ). Utf8 (drop k bs)) is u)

  pub behind : Utf8 bs → Utf8 (drop n bs)
  behind u = subst (λ (k : ℕ). Utf8 (drop k bs)) (sym is) (utf8_front u (front_some bs some)).1

-- and where none was found
pub ended : (bs : List ℕ) → (0 < front bs → ⊥) → Decides (eqb (length bs) 0) (Utf8 bs)
ended [] z = (λ _. Utf8.none, λ _. refl)
ended (b ∷ t) z = (λ e. absurd (let k = eqb-true (length (b ∷ t)) 0 e in omega arith), λ u. absurd (z (utf8_front u (omega arith)).0))
