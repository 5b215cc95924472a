-- The words of a line, cut at its zero bytes.
use Rattle.std.proofs.Common.{◌≡◌, ℕ, suc, ◌-◌, ◌<◌, Bool, true, false, cond, eqb, List, [], ◌∷◌, ◌++◌, length, get_or, sym, refl, ap, ◌∙◌, arith}
use Rattle.std.proofs.lemmas.List.{append-nil, append_assoc, length-append}
use Rattle.std.proofs.lemmas.Bool.{and_parts, false≢true}
use Rattle.text.specs.Identifier.{Text}
use Rattle.text.specs.Line.{closed, bare, all_bare, Cut}

-- two cases of a test
pub either_way : {C : Type 0} (b : Bool) → (b ≡ true → C) → (b ≡ false → C) → C
either_way true f g = f refl
either_way false f g = g refl

abbrev pub onto : ℕ → List Text → List Text
onto b [] = (b ∷ []) ∷ []
onto b (w ∷ ws) = (b ∷ w) ∷ ws

abbrev pub split : List ℕ → List Text
split [] = []
split (b ∷ t) = cond (eqb b 0) ([] ∷ split t) (onto b (split t))

bare_parts : (b : ℕ) (t : Text) → bare (b ∷ t) ≡ true → (eqb b 0 ≡ false) × (bare t ≡ true)
bare_parts b t e = either_way (eqb b 0) (λ h. absurd (false≢true (rw h at e))) (λ h. (h, rw h at e))

-- the first word stands before the first zero
pub split_word : (w rest : List ℕ) → bare w ≡ true → split (w ++ (0 ∷ rest)) ≡ w ∷ split rest
split_word [] rest e = refl
split_word (b ∷ t) rest e = let p = bare_parts b t e in rw p.0 (ap (onto b) (split_word t rest p.1))

pub split_closed : (ws : List Text) (rest : List ℕ) → all_bare ws ≡ true → split (closed ws ++ rest) ≡ ws ++ split rest
split_closed [] rest e = refl
split_closed (w ∷ ws) rest e =
    let p = and_parts (bare w) (all_bare ws) e in
    ap split (append_assoc w (0 ∷ closed ws) rest) ∙ split_word w (closed ws ++ rest) p.0 ∙ ap (λ l. w ∷ l) (split_closed ws rest p.1)

-- the only list of words
pub cut_is : {line : List ℕ} {ws : List Text} → Cut line ws → split line ≡ ws
cut_is {line} {ws} c = ap split (sym c.whole ∙ sym (append-nil (closed ws))) ∙ split_closed ws [] c.zeroless ∙ append-nil ws

pub cut_only : (line : List ℕ) (ws vs : List Text) → Cut line ws → Cut line vs → ws ≡ vs
cut_only line ws vs c d = sym (cut_is c) ∙ cut_is d

abbrev pub last : List ℕ → ℕ
last line = get_or line (length line - 1) 0

closed_some : (w : Text) (ws : List Text) → closed (w ∷ ws) ≡ [] → ⊥
closed_some [] ws e = let k = ap length e in omega arith
closed_some (b ∷ t) ws e = let k = ap length e in omega arith

pub last_more : (b : ℕ) (t : List ℕ) → 0 < length t → last (b ∷ t) ≡ last t
last_more b [] h = absurd (omega arith)
last_more b (c ∷ t) h =
    let e : length (b ∷ c ∷ t) - 1 ≡ suc (length (c ∷ t) - 1) = omega arith in ap (λ k. get_or (b ∷ c ∷ t) k 0) e

last_behind : (xs : List ℕ) (b : ℕ) (ys : List ℕ) → last (xs ++ (b ∷ ys)) ≡ last (b ∷ ys)
last_behind [] b ys = refl
last_behind (x ∷ xs) b ys = let k = length-append xs (b ∷ ys) in last_more x (xs ++ (b ∷ ys)) (omega arith) ∙ last_behind xs b ys

-- a line of words ends with a zero
closed_last : (w : Text) (ws : List Text) → last (closed (w ∷ ws)) ≡ 0
closed_last w [] = last_behind w 0 []
closed_last w (v ∷ ws) = last_behind w 0 (closed (v ∷ ws)) ∙ last_more 0 (closed (v ∷ ws)) (some (closed (v ∷ ws)) (closed_some v ws)) ∙ closed_last v ws
  where
    some : (l : List ℕ) → (l ≡ [] → ⊥) → 0 < length l
    some [] f = absurd (f refl)
    some (x ∷ l) f = omega arith

words_last : (line : List ℕ) (ws : List Text) → Cut line ws → 0 < length line → last line ≡ 0
words_last line [] c h = absurd (let k = ap length c.whole in omega arith)
words_last line (w ∷ ws) c h = ap last (sym c.whole) ∙ closed_last w ws

pub cut_last : {line : List ℕ} {ws : List Text} → Cut line ws → 0 < length line → get_or line (length line - 1) 0 ≡ 0
cut_last {line} {ws} c h = words_last line ws c h

words_some : (line : List ℕ) (ws : List Text) → Cut line ws → 0 < length ws → 0 < length line
words_some line [] c h = absurd (omega arith)
words_some line (w ∷ ws) c h = let k = ap length c.whole in let m = length-append w (0 ∷ closed ws) in omega arith

pub cut_some : {line : List ℕ} {ws : List Text} → Cut line ws → 0 < length ws → 0 < length line
cut_some {line} {ws} c h = words_some line ws c h
