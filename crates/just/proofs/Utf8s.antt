-- Words of UTF-8: their characters, names and pieces.
use Rattle.std.proofs.Common.{◌≡◌, ℕ, zero, suc, ◌<◌, ◌≤◌, true, false, ◌&&◌, eqb, List, [], ◌∷◌, ◌++◌, length, drop, sym, refl, ap, ◌∙◌, subst, arith, length-append}
use Rattle.std.specs.List.{AllByRecursion}
use Rattle.std.specs.Str.{chars_after}
use Rattle.std.proofs.lemmas.Bool.{lt-ltb, le-ltb, le-leb, lt-leb, ne_eqb, eqb-true, and_parts}
use Rattle.text.specs.Identifier.{Text, all_follow, identifier}
use Rattle.text.specs.Utf8.{Char, Utf8}
use Rattle.text.specs.Lead.{front}
use Rattle.text.specs.Pieces.{split, onto, separator, Unclosed, unclosed}
use Rattle.text.proofs.Grammar.{utf8_front}
use Rattle.text.proofs.Joins.{unclosed_does}
use Rattle.text.proofs.Splits.{either_way, split_some}
use Rattle.reading.specs.Letters.{letters, code}
use Rattle.reading.specs.Switches as spelled
use Rattle.reading.specs.Switches.{is_dashed, two_dashes, up_to_equals}
use Rattle.reading.proofs.Letters.{letters_char}
use Rattle.just.specs.Str as str
use Rattle.just.specs.Modulepath.{is_identifier_continue, is_identifier_start, all_continue, is_name}
use Rattle.just.proofs.Spelling.{Spelt}
use Rattle.just.proofs.Pieces.{Named}
use Rattle.just.proofs.Lines.{Readable}

-- Characters: just's are the letters.

done : (c : ℕ) (rest : Text) → chars_after 0 c rest ≡ c ∷ str.chars rest
done c [] = refl
done c (b ∷ t) = refl

one_byte : (a : ℕ) (rest : Text) → a ≤ 127 → str.chars (a ∷ rest) ≡ a ∷ str.chars rest
one_byte a rest h = rw (lt-ltb a 128 (omega arith)) (done a rest)

two_bytes : (a b : ℕ) (rest : Text) → 128 ≤ a → a < 224 → str.chars (a ∷ b ∷ rest) ≡ code (a ∷ b ∷ []) ∷ str.chars rest
two_bytes a b rest h k = rw (le-ltb a 128 h, lt-ltb a 224 k) (done _ rest)

three_bytes : (a b c : ℕ) (rest : Text) → 224 ≤ a → a < 240 → str.chars (a ∷ b ∷ c ∷ rest) ≡ code (a ∷ b ∷ c ∷ []) ∷ str.chars rest
three_bytes a b c rest h k = rw (le-ltb a 128 (omega arith), le-ltb a 224 h, lt-ltb a 240 k) (done _ rest)

four_bytes : (a b c d : ℕ) (rest : Text) → 240 ≤ a → str.chars (a ∷ b ∷ c ∷ d ∷ rest) ≡ code (a ∷ b ∷ c ∷ d ∷ []) ∷ str.chars rest
four_bytes a b c d rest h = rw (le-ltb a 128 (omega arith), le-ltb a 224 (omega arith), le-ltb a 240 h) (done _ rest)

chars_char : {char : List ℕ} → Char char → (rest : Text) → str.chars (char ++ rest) ≡ code char ∷ str.chars rest
chars_char (Char.one {a} f) rest = one_byte a rest f.most
chars_char (Char.two {a} {b} f t) rest = two_bytes a b rest (omega (arith, f.least)) (omega (arith, f.most))
chars_char (Char.three_E0 {b} {c} s t) rest = three_bytes 0xE0 b c rest (omega arith) (omega arith)
chars_char (Char.three_E1 {a} {b} {c} f s t) rest = three_bytes a b c rest (omega (arith, f.least)) (omega (arith, f.most))
chars_char (Char.three_ED {b} {c} s t) rest = three_bytes 0xED b c rest (omega arith) (omega arith)
chars_char (Char.three_EE {a} {b} {c} f s t) rest = three_bytes a b c rest (omega (arith, f.least)) (omega (arith, f.most))
chars_char (Char.four_F0 {b} {c} {d} s t u) rest = four_bytes 0xF0 b c d rest (omega arith)
chars_char (Char.four_F1 {a} {b} {c} {d} f s t u) rest = four_bytes a b c d rest (omega (arith, f.least))
chars_char (Char.four_F4 {b} {c} {d} s t u) rest = four_bytes 0xF4 b c d rest (omega arith)

chars_are : {t : Text} → Utf8 t → str.chars t ≡ letters t
chars_are Utf8.none = refl
chars_are (Utf8.more {char} {rest} c u) = chars_char c rest ∙ ap (λ (cs : List ℕ). code char ∷ cs) (chars_are u) ∙ sym (letters_char c rest)

-- A character is one low byte, or high bytes and a high code point.

abbrev High : List ℕ → Type 0
High bs = AllByRecursion (λ (b : ℕ). 128 ≤ b) bs

data Sort : List ℕ → Type 0 where
  low : (a : ℕ) → a ≤ 127 → Sort (a ∷ [])
  high : (a : ℕ) (bs : List ℕ) → High (a ∷ bs) → 128 ≤ code (a ∷ bs) → Sort (a ∷ bs)

sort : {char : List ℕ} → Char char → Sort char
sort (Char.one {a} f) = Sort.low a f.most
sort (Char.two {a} {b} f t) = let x = f.least in let y = t.least in Sort.high a (b ∷ []) (omega arith, (y, tt)) (omega arith)
sort (Char.three_E0 {b} {c} s t) = let x = s.least in let y = t.least in Sort.high 0xE0 (b ∷ c ∷ []) (omega arith, (omega arith, (y, tt))) (omega arith)
sort (Char.three_E1 {a} {b} {c} f s t) = let x = f.least in let y = s.least in let z = t.least in Sort.high a (b ∷ c ∷ []) (omega arith, (y, (z, tt))) (omega arith)
sort (Char.three_ED {b} {c} s t) = let x = s.least in let y = t.least in Sort.high 0xED (b ∷ c ∷ []) (omega arith, (x, (y, tt))) (omega arith)
sort (Char.three_EE {a} {b} {c} f s t) = let x = f.least in let y = s.least in let z = t.least in Sort.high a (b ∷ c ∷ []) (omega arith, (y, (z, tt))) (omega arith)
sort (Char.four_F0 {b} {c} {d} s t u) = let x = s.least in let y = t.least in let z = u.least in Sort.high 0xF0 (b ∷ c ∷ d ∷ []) (omega arith, (omega arith, (y, (z, tt)))) (omega arith)
sort (Char.four_F1 {a} {b} {c} {d} f s t u) = let w = f.least in let x = s.least in let y = t.least in let z = u.least in Sort.high a (b ∷ c ∷ d ∷ []) (omega arith, (x, (y, (z, tt)))) (omega arith)
sort (Char.four_F4 {b} {c} {d} s t u) = let x = s.least in let y = t.least in let z = u.least in Sort.high 0xF4 (b ∷ c ∷ d ∷ []) (omega arith, (x, (y, (z, tt)))) (omega arith)

apart_from : (b c : ℕ) → c < 128 → 128 ≤ b → eqb b c ≡ false
apart_from b c l h = ne_eqb b c (λ e. omega arith)

-- Names of switches.

cut_low : (b : ℕ) (t : Text) → b ≤ 127 → Utf8 (b ∷ t) → Utf8 t
cut_low b t l u =
    let f = (utf8_front u (omega arith)).1 in
    let one : front (b ∷ t) ≡ 1 = rw (le-leb b 127 l) in
    subst (λ (n : ℕ). Utf8 (drop n (b ∷ t))) one f

up_high : (bs rest : List ℕ) → High bs → up_to_equals (bs ++ rest) ≡ bs ++ up_to_equals rest
up_high [] rest h = refl
up_high (b ∷ bs) rest h = rw (apart_from b 61 (omega arith) h.0, up_high bs rest h.1)

up_utf8 : {t : Text} → Utf8 t → Utf8 (up_to_equals t)
up_utf8 Utf8.none = Utf8.none
up_utf8 (Utf8.more {char} {rest} c u) = go c (sort c) (up_utf8 u)
  where
    go : {char : List ℕ} → Char char → Sort char → Utf8 (up_to_equals rest) → Utf8 (up_to_equals (char ++ rest))
    go c (Sort.low a l) v = either_way (eqb a 61) (λ e. rw e Utf8.none) (λ e. rw e (Utf8.more c v))
    go c (Sort.high a bs h k) v = rw (up_high (a ∷ bs) rest h) (Utf8.more c v)

dash_cut : (w : Text) → is_dashed w ≡ true → Utf8 w → Utf8 (spelled.tail w)
dash_cut [] d u = u
dash_cut (b ∷ []) d u = Utf8.none
dash_cut (b ∷ c ∷ t) d u = let e : b ≡ 45 = eqb-true b 45 d in cut_low b (c ∷ t) (omega arith) u

two_cut : (w : Text) → two_dashes w ≡ true → Utf8 (spelled.tail w) → Utf8 (spelled.tail (spelled.tail w))
two_cut [] d u = u
two_cut (b ∷ []) d u = u
two_cut (b ∷ c ∷ t) d u = let e : c ≡ 45 = eqb-true c 45 (and_parts (eqb b 45) (eqb c 45) d).1 in cut_low c t (omega arith) u

undashed_utf8 : (w : Text) → is_dashed w ≡ true → Utf8 w → Utf8 (spelled.undashed w)
undashed_utf8 w d u = either_way (two_dashes w) (λ e. rw e (two_cut w e (dash_cut w d u))) (λ e. rw e (dash_cut w d u))

spelt : (w : Text) → Utf8 w → Spelt w
spelt w u d = chars_are (up_utf8 (undashed_utf8 w d u))

-- Identifiers.

high_continue : (c : ℕ) → 128 ≤ c → is_identifier_continue c ≡ false
high_continue c h = rw (le-leb 97 c (omega arith), lt-leb c 122 (omega arith), le-leb 65 c (omega arith), lt-leb c 90 (omega arith), ne_eqb c 95 (λ e. omega arith), le-leb 48 c (omega arith), lt-leb c 57 (omega arith), ne_eqb c 45 (λ e. omega arith))

high_start : (c : ℕ) → 128 ≤ c → is_identifier_start c ≡ false
high_start c h = rw (le-leb 97 c (omega arith), lt-leb c 122 (omega arith), le-leb 65 c (omega arith), lt-leb c 90 (omega arith), ne_eqb c 95 (λ e. omega arith))

continue_is : {t : Text} → Utf8 t → all_continue (str.chars t) ≡ all_follow t
continue_is Utf8.none = refl
continue_is (Utf8.more {char} {rest} c u) = ap all_continue (chars_char c rest) ∙ go (sort c) (continue_is u)
  where
    go : {char : List ℕ} → Sort char → all_continue (str.chars rest) ≡ all_follow rest → all_continue (code char ∷ str.chars rest) ≡ all_follow (char ++ rest)
    go (Sort.low a l) e = rw e
    go (Sort.high a bs h k) e = rw (high_continue (code (a ∷ bs)) k, high_continue a h.0)

name_is : {t : Text} → Utf8 t → is_name (str.chars t) ≡ identifier t
name_is Utf8.none = refl
name_is (Utf8.more {char} {rest} c u) = ap is_name (chars_char c rest) ∙ go (sort c)
  where
    go : {char : List ℕ} → Sort char → is_name (code char ∷ str.chars rest) ≡ identifier (char ++ rest)
    go (Sort.low a l) = rw (continue_is u)
    go (Sort.high a bs h k) = rw (high_start (code (a ∷ bs)) k, high_start a h.0)

-- Pieces.

split_byte : (b : ℕ) (t : Text) → eqb b 58 ≡ false → split (b ∷ t) ≡ onto b (split t)
split_byte b [] e = refl
split_byte b (c ∷ t) e = rw e

-- a character before the first piece
abbrev before : List ℕ → List Text → List Text
before cs [] = cs ∷ []
before cs (p ∷ ps) = (cs ++ p) ∷ ps

onto_before : (b : ℕ) (bs : List ℕ) (ps : List Text) → onto b (before bs ps) ≡ before (b ∷ bs) ps
onto_before b bs [] = refl
onto_before b bs (p ∷ ps) = refl

before_none : (ps : List Text) (q : Text) (qs : List Text) → ps ≡ q ∷ qs → ps ≡ before [] ps
before_none ps q qs e = rw e

split_high : (bs rest : List ℕ) → High bs → split (bs ++ rest) ≡ before bs (split rest)
split_high [] rest h = let s = split_some rest in before_none (split rest) s.0 s.1 s.2
split_high (b ∷ bs) rest h = split_byte b (bs ++ rest) (apart_from b 58 (omega arith) h.0) ∙ ap (onto b) (split_high bs rest h.1) ∙ onto_before b bs (split rest)

before_utf8 : {char : List ℕ} → Char char → (ps : List Text) → AllByRecursion Utf8 ps → Utf8 char → AllByRecursion Utf8 (before char ps)
before_utf8 c [] h u = (u, tt)
before_utf8 c (p ∷ ps) h u = (Utf8.more c h.0, h.1)

alone : (a : ℕ) → a ≤ 127 → Utf8 (a ∷ [])
alone a l = Utf8.more {char = a ∷ []} {rest = []} (Char.one (record { least = omega arith; most = l })) Utf8.none

nil_right : (cs : List ℕ) → cs ++ [] ≡ cs
nil_right [] = refl
nil_right (c ∷ cs) = ap (λ (ds : List ℕ). c ∷ ds) (nil_right cs)

single : {char : List ℕ} → Char char → Utf8 char
single {char} c = subst Utf8 (nil_right char) (Utf8.more c Utf8.none)

onto_utf8 : (a : ℕ) → a ≤ 127 → (ps : List Text) → AllByRecursion Utf8 ps → AllByRecursion Utf8 (onto a ps)
onto_utf8 a l [] h = (alone a l, tt)
onto_utf8 a l (p ∷ ps) h = (Utf8.more {char = a ∷ []} (Char.one (record { least = omega arith; most = l })) h.0, h.1)

-- the pieces of a text whose first two bytes are looked at
front_utf8 : (a : ℕ) (t : Text) → a ≤ 127 → AllByRecursion Utf8 (split t) → ((b : ℕ) (u : Text) → t ≡ b ∷ u → eqb b 58 ≡ true → AllByRecursion Utf8 (split u)) → AllByRecursion Utf8 (split (a ∷ t))
front_utf8 a [] l h two = (alone a l, tt)
front_utf8 a (b ∷ u) l h two =
    either_way (eqb a 58 && eqb b 58)
    (λ e. rw e (Utf8.none, two b u refl (and_parts (eqb a 58) (eqb b 58) e).1))
    (λ e. rw e (onto_utf8 a l (split (b ∷ u)) h))

pieces_utf8 : (n : ℕ) {t : Text} → Utf8 t → length t < n → AllByRecursion Utf8 (split t)
pieces_utf8 zero u less = absurd (omega arith)
pieces_utf8 (suc n) Utf8.none less = (Utf8.none, tt)
pieces_utf8 (suc n) (Utf8.more {char} {rest} c u) less = go (λ (t : Text) (v : Utf8 t) (l : length t < n). pieces_utf8 n {t = t} v l) c (sort c) less
  where
    go : ((t : Text) → Utf8 t → length t < n → AllByRecursion Utf8 (split t)) → {char : List ℕ} → Char char → Sort char → length (char ++ rest) < suc n → AllByRecursion Utf8 (split (char ++ rest))
    go on c (Sort.low a l) k =
        front_utf8 a rest l (on rest u (omega arith))
        (λ b t e f. let x : b ≡ 58 = eqb-true b 58 f in let m = ap length e in on t (cut_low b t (omega arith) (subst Utf8 e u)) (omega arith))
    go on c (Sort.high a bs h g) k =
        let m = length-append bs rest in
        rw (split_high (a ∷ bs) rest h) (before_utf8 c (split rest) (on rest u (omega arith)) (single c))

named_all : (ps : List Text) → AllByRecursion Utf8 ps → AllByRecursion (λ p. is_name (str.chars p) ≡ identifier p) ps
named_all [] h = tt
named_all (p ∷ ps) h = (name_is h.0, named_all ps h.1)

named : (w : Text) → Utf8 w → Named w
named w u = named_all (split w) (pieces_utf8 (suc (length w)) u (omega arith))

-- a closing `::` that is dropped

high_front : (bs rest v : List ℕ) → High bs → bs ++ rest ≡ v ++ separator → (more : List ℕ) × (v ≡ bs ++ more) × (rest ≡ more ++ separator)
high_front [] rest v h e = (v, refl, e)
high_front (b ∷ bs) rest [] h e = let x : b ≡ 58 = cc in let y = h.0 in absurd (omega arith)
high_front (b ∷ bs) rest (x ∷ v) h e =
    let a : b ≡ x = cc in
    let t : bs ++ rest ≡ v ++ separator = cc in
    let r = high_front bs rest v h.1 t in
    (r.0, (let i = r.1 in cc), r.2)

low_front : (a : ℕ) (rest v : List ℕ) → a ∷ rest ≡ v ++ separator → Char (a ∷ []) → ((more : List ℕ) → rest ≡ more ++ separator → Utf8 more) → Utf8 v
low_front a rest [] e c go = Utf8.none
low_front a rest (x ∷ v) e c go =
    let b : a ≡ x = cc in
    let t : rest ≡ v ++ separator = cc in
    subst (λ (y : ℕ). Utf8 (y ∷ v)) b (Utf8.more c (go v t))

opened : {t : Text} → Utf8 t → (v : Text) → t ≡ v ++ separator → Utf8 v
opened Utf8.none [] e = Utf8.none
opened Utf8.none (x ∷ v) e = let z : ◌≡◌ {A = ℕ} 0 1 = cc in absurd (omega arith)
opened (Utf8.more {char} {rest} c u) v e = go c (sort c) e (λ more k. opened u more k)
  where
    go : {char : List ℕ} → Char char → Sort char → char ++ rest ≡ v ++ separator → ((more : List ℕ) → rest ≡ more ++ separator → Utf8 more) → Utf8 v
    go c (Sort.low a l) e on = low_front a rest v e c on
    go c (Sort.high a bs h g) e on = let r = high_front (a ∷ bs) rest v h e in subst Utf8 (sym r.1) (Utf8.more c (on r.0 r.2))

unclosed_utf8 : (w : Text) → Utf8 w → {v : Text} → Unclosed w v → Utf8 v
unclosed_utf8 w u (Unclosed.closed {v} e) = opened u v e
unclosed_utf8 w u (Unclosed.bare no!) = u

pub readable : (w : Text) → Utf8 w → Readable w
readable w u = record { spelt = spelt w u; pieced = record { whole! = named w u; opened = named (unclosed w) (unclosed_utf8 w u (unclosed_does w)) } }

pub all_readable : (ws : List Text) → AllByRecursion Utf8 ws → AllByRecursion Readable ws
all_readable [] h = tt
all_readable (w ∷ ws) h = (readable w h.0, all_readable ws h.1)
