-- The loop that fills the table of words.
use Rattle.std.proofs.Common.{◌≡◌, ℕ, zero, suc, ◌+◌, ◌-◌, ◌<◌, ◌≤◌, true, false, cond, eqb, ◌⊎◌, List, [], ◌∷◌, ◌++◌, length, get_or, take, drop, set, sym, refl, ap, ◌∙◌, subst, inl, inr, arith}
use Rattle.std.proofs.lemmas.List.{append_assoc, length-append, length-take-le, length-map, length-set, length-drop, take-append-drop, drop-drop, drop_more, take_at, take_more, take_more_set, take_all, map_push, get_or-drop, get_or-take}
use Rattle.std.proofs.lemmas.Bool.{and_parts, and_from, eqb-true, eq-eqb, ne_eqb, true≢false, false≢true, cases_lt, cond-false}
use Rattle.text.specs.Identifier.{Text}
use Rattle.text.specs.Spans.{text_at, texts_at}
use Rattle.text.specs.Line.{closed, bare, all_bare, Cut}
use Rattle.text.specs.Lines.{ends}
use Rattle.text.specs.declared.span.Span.{Span}
use Rattle.text.proofs.Cuts.{either_way, split, onto, split_word, split_closed, last, last_more}

-- a line that ends with a zero is made of words

ends_last : (b : ℕ) (t : List ℕ) → ends (b ∷ t) ≡ eqb (last (b ∷ t)) 0
ends_last b t = rw (ne_eqb (length (b ∷ t)) 0 (omega arith))

ends_more : (b : ℕ) (t : List ℕ) → 0 < length t → ends (b ∷ t) ≡ true → ends t ≡ true
ends_more b [] h e = absurd (omega arith)
ends_more b (c ∷ t) h e = ends_last c t ∙ ap (λ x. eqb x 0) (sym (last_more b (c ∷ t) h)) ∙ sym (ends_last b (c ∷ t)) ∙ e

split_some : (b : ℕ) (t : List ℕ) → (w : Text) × (ws : List Text) × (split (b ∷ t) ≡ w ∷ ws)
split_some b t = either_way (eqb b 0) (λ e. ([], split t, rw e)) (λ e. some (split t) e)
  where
    some : (ws : List Text) → eqb b 0 ≡ false → (w : Text) × (vs : List Text) × (cond (eqb b 0) ([] ∷ ws) (onto b ws) ≡ w ∷ vs)
    some [] e = (b ∷ [], [], rw e)
    some (w ∷ ws) e = (b ∷ w, ws, rw e)

bare_more : (b : ℕ) (t : Text) → eqb b 0 ≡ false → bare t ≡ true → bare (b ∷ t) ≡ true
bare_more b t e h = rw e h

-- a byte that is no zero joins the first word
joined : (b : ℕ) (t : List ℕ) (w : Text) (ws : List Text) → eqb b 0 ≡ false → Cut t (w ∷ ws) → Cut (b ∷ t) ((b ∷ w) ∷ ws)
joined b t w ws e c =
    let p = and_parts (bare w) (all_bare ws) c.zeroless in
    record { whole = ap (λ l. b ∷ l) c.whole; zeroless = and_from (bare (b ∷ w)) (all_bare ws) (bare_more b w e p.0) p.1 }

zero_first : (b : ℕ) (t : List ℕ) → eqb b 0 ≡ true → Cut t (split t) → Cut (b ∷ t) (split (b ∷ t))
zero_first b t h c =
    let z : b ≡ 0 = eqb-true b 0 h in
    rw h (record { whole = ap (λ l. 0 ∷ l) c.whole ∙ ap (λ x. x ∷ t) (sym z); zeroless = c.zeroless })

other_first : (b x : ℕ) (t : List ℕ) → eqb b 0 ≡ false → Cut (x ∷ t) (split (x ∷ t)) → Cut (b ∷ x ∷ t) (split (b ∷ x ∷ t))
other_first b x t h c =
    let s = split_some x t in
    let m = joined b (x ∷ t) s.0 s.1 h (subst (Cut (x ∷ t)) s.2 c) in
    subst (Cut (b ∷ x ∷ t)) (sym (cond-false (eqb b 0) ([] ∷ split (x ∷ t)) (onto b (split (x ∷ t))) h ∙ ap (onto b) s.2)) m

pub cut_does : (line : List ℕ) → ends line ≡ true → Cut line (split line)
cut_does [] e = record { whole = refl; zeroless = refl }
cut_does (b ∷ []) e = either_way (eqb b 0) (λ h. zero_first b [] h (record { whole = refl; zeroless = refl })) (λ h. absurd (true≢false (sym e ∙ ends_last b [] ∙ h)))
cut_does (b ∷ x ∷ t) e =
    let c = cut_does (x ∷ t) (ends_more b (x ∷ t) (omega arith) e) in
    either_way (eqb b 0) (λ h. zero_first b (x ∷ t) h c) (λ h. other_first b x t h c)

-- one word more

closed_push : (ws : List Text) (w : Text) → closed (ws ++ w ∷ []) ≡ closed ws ++ (w ++ (0 ∷ []))
closed_push [] w = refl
closed_push (v ∷ ws) w = ap (λ l. v ++ (0 ∷ l)) (closed_push ws w) ∙ sym (append_assoc v (0 ∷ closed ws) (w ++ (0 ∷ [])))

pub bare_push_all : (ws : List Text) (w : Text) → all_bare ws ≡ true → bare w ≡ true → all_bare (ws ++ w ∷ []) ≡ true
bare_push_all [] w e h = rw h
bare_push_all (v ∷ ws) w e h = let p = and_parts (bare v) (all_bare ws) e in and_from (bare v) (all_bare (ws ++ w ∷ [])) p.0 (bare_push_all ws w p.1 h)

bare_push : (t : Text) (b : ℕ) → bare t ≡ true → (b ≡ 0 → ⊥) → bare (t ++ b ∷ []) ≡ true
bare_push [] b e n = rw (ne_eqb b 0 n)
bare_push (c ∷ t) b e n = either_way (eqb c 0) (λ h. absurd (false≢true (rw h at e))) (λ h. rw h (bare_push t b (rw h at e) n))

bare_at : (t : Text) (k : ℕ) → bare t ≡ true → k < length t → get_or t k 0 ≡ 0 → ⊥
bare_at [] k e l z = omega arith
bare_at (c ∷ t) zero e l z = false≢true (rw (eq-eqb c 0 z) at e)
bare_at (c ∷ t) (suc k) e l z = either_way (eqb c 0) (λ h. false≢true (rw h at e)) (λ h. bare_at t k (rw h at e) (omega arith) z)

module _ (bytes : List ℕ) (words : List Span) (i start count : ℕ) (from : start ≤ i) (inside : i < length bytes) (so : closed (texts_at bytes (take count words)) ≡ take start bytes) where
  abbrev done : List Text
  done = texts_at bytes (take count words)

  abbrev current : Text
  current = take (i - start) (drop start bytes)

  -- what follows `start`: the word so far, and the byte here
  here : get_or bytes i 0 ≡ 0 → drop start bytes ≡ current ++ (0 ∷ drop (i + 1) bytes)
  here z =
      let k : start + (i - start) ≡ i = omega arith in
      sym (take-append-drop (i - start) (drop start bytes))
      ∙ ap (λ r. current ++ r) (drop-drop (i - start) start bytes ∙ ap (λ n. drop n bytes) k ∙ drop_more bytes i 0 inside ∙ ap (λ x. x ∷ drop (i + 1) bytes) z)

  so_far : get_or bytes i 0 ≡ 0 → bytes ≡ closed done ++ (current ++ (0 ∷ drop (i + 1) bytes))
  so_far z = sym (take-append-drop start bytes) ∙ ap (λ r. r ++ drop start bytes) (sym so) ∙ ap (λ r. closed done ++ r) (here z)

  length_current : length current ≡ i - start
  length_current = length-take-le (i - start) (drop start bytes) (omega (arith, length-drop start bytes))

  -- one word more
  pub one_more : get_or bytes i 0 ≡ 0 → closed (done ++ current ∷ []) ≡ take (i + 1) bytes
  one_more z =
      let rest = drop (i + 1) bytes in
      let front = closed done ++ (current ++ (0 ∷ [])) in
      let e : bytes ≡ front ++ rest = so_far z ∙ ap (λ r. closed done ++ r) (sym (append_assoc current (0 ∷ []) rest)) ∙ sym (append_assoc (closed done) (current ++ (0 ∷ [])) rest) in
      let a : length (closed done) ≡ start = ap length so ∙ length-take-le start bytes (omega arith) in
      let n : length front ≡ i + 1 = omega (arith, length-append (closed done) (current ++ (0 ∷ [])), length-append current (0 ∷ []), length_current) in
      closed_push done current ∙ sym (ap (take (i + 1)) e ∙ take_at front rest (i + 1) n)

  -- another word, where the table is full
  pub too_many : all_bare done ≡ true → bare current ≡ true → get_or bytes i 0 ≡ 0 → ends bytes ≡ true → length words ≡ 128 → count ≡ 128 → (ws : List Text) × Cut bytes ws × (128 < length ws)
  too_many none since z e room full =
      let s : split bytes ≡ done ++ (current ∷ split (drop (i + 1) bytes)) = ap split (so_far z) ∙ split_closed done (current ++ (0 ∷ drop (i + 1) bytes)) none ∙ ap (λ l. done ++ l) (split_word current (drop (i + 1) bytes) since) in
      let n : length done ≡ 128 = length-map (take count words) (text_at bytes) ∙ length-take-le count words (omega arith) ∙ full in
      (split bytes, cut_does bytes e, omega (arith, ap length s, length-append done (current ∷ split (drop (i + 1) bytes))))

  -- a byte of the word
  pub byte_more : bare current ≡ true → (get_or bytes i 0 ≡ 0 → ⊥) → bare (take (i + 1 - start) (drop start bytes)) ≡ true
  byte_more since n =
      let k : start + (i - start) ≡ i = omega arith in
      let l : i - start < length (drop start bytes) = omega (arith, length-drop start bytes) in
      let m : i + 1 - start ≡ i - start + 1 = omega arith in
      let b : get_or (drop start bytes) (i - start) 0 ≡ get_or bytes i 0 = get_or-drop start bytes (i - start) 0 ∙ ap (λ j. get_or bytes j 0) k in
      ap (λ j. bare (take j (drop start bytes))) m
      ∙ ap bare (take_more (drop start bytes) (i - start) 0 l ∙ ap (λ x. current ++ x ∷ []) b)
      ∙ bare_push current (get_or bytes i 0) since n

-- the row of the new word
pub row_more : (bytes : List ℕ) (words : List Span) (count : ℕ) (s : Span) → count < length words → texts_at bytes (take (count + 1) (set words count s)) ≡ texts_at bytes (take count words) ++ text_at bytes s ∷ []
row_more bytes words count s h = ap (texts_at bytes) (take_more_set words count s h) ∙ map_push (text_at bytes) (take count words) s

pub none_yet : (i : ℕ) (s : List ℕ) → bare (take (i + 1 - (i + 1)) s) ≡ true
none_yet i s = let k : i + 1 - (i + 1) ≡ 0 = omega arith in ap (λ n. bare (take n s)) k

-- at the end, nothing is left open
pub all_closed : (bytes : List ℕ) (i start : ℕ) → ends bytes ≡ true → length bytes ≤ i → start ≤ i → i ≤ length bytes → bare (take (i - start) (drop start bytes)) ≡ true → take start bytes ≡ bytes
all_closed bytes i start e past from kept since = go (cases_lt start (length bytes))
  where
    go : (start < length bytes) ⊎ (length bytes ≤ start) → take start bytes ≡ bytes
    go (inr h) = take_all start bytes h
    go (inl h) = absurd (bare_at (take (i - start) (drop start bytes)) (length bytes - 1 - start) since within zero_there)
      where
        within : length bytes - 1 - start < length (take (i - start) (drop start bytes))
        within = omega (arith, length-take-le (i - start) (drop start bytes) (omega (arith, length-drop start bytes)), length-drop start bytes)

        last_zero : get_or bytes (length bytes - 1) 0 ≡ 0
        last_zero = eqb-true (get_or bytes (length bytes - 1) 0) 0 (sym (cond-false (eqb (length bytes) 0) true (eqb (get_or bytes (length bytes - 1) 0) 0) (ne_eqb (length bytes) 0 (omega arith))) ∙ e)

        zero_there : get_or (take (i - start) (drop start bytes)) (length bytes - 1 - start) 0 ≡ 0
        zero_there =
            let k : start + (length bytes - 1 - start) ≡ length bytes - 1 = omega arith in
            get_or-take (i - start) (drop start bytes) (length bytes - 1 - start) 0 (omega arith) ∙ get_or-drop start bytes (length bytes - 1 - start) 0 ∙ ap (λ j. get_or bytes j 0) k ∙ last_zero

-- the words so far are the line up to `start`, and no zero has come since
abbrev pub Sofar : List ℕ → List Span → ℕ → ℕ → ℕ → Type 0
Sofar bytes words i start count =
    (length words ≡ 128)
    × (count ≤ 128)
    × (start ≤ i)
    × (closed (texts_at bytes (take count words)) ≡ take start bytes)
    × (all_bare (texts_at bytes (take count words)) ≡ true)
    × (bare (take (i - start) (drop start bytes)) ≡ true)

module _ (bytes : List ℕ) (words : List Span) (i start count : ℕ) (sofar : Sofar bytes words i start count) (inside : i < length bytes) where
  pub word_step : get_or bytes i 0 ≡ 0 → (count ≡ 128 → ⊥) → Sofar bytes (set words count (record { start = start; len = i - start })) (i + 1) (i + 1) (count + 1)
  word_step z n =
      let row = row_more bytes words count (record { start = start; len = i - start }) (let a = sofar.0 in let b = sofar.1 in omega arith) in (
        length-set words count (record { start = start; len = i - start }) ∙ sofar.0,
        (let b = sofar.1 in omega arith),
        omega arith,
        ap closed row ∙ one_more bytes words i start count sofar.2 inside sofar.3 z,
        ap all_bare row ∙ bare_push_all (texts_at bytes (take count words)) (take (i - start) (drop start bytes)) sofar.4 sofar.5,
        none_yet i (drop (i + 1) bytes),
      )

  pub byte_step : (get_or bytes i 0 ≡ 0 → ⊥) → Sofar bytes words (i + 1) start count
  byte_step n = (sofar.0, sofar.1, (let b = sofar.2 in omega arith), sofar.3, sofar.4, byte_more bytes words i start count sofar.2 inside sofar.3 sofar.5 n)

pub all_filled : (bytes : List ℕ) (words : List Span) (i start count : ℕ) → Sofar bytes words i start count → ends bytes ≡ true → length bytes ≤ i → i ≤ length bytes → Cut bytes (texts_at bytes (take count words))
all_filled bytes words i start count sofar e past kept =
    record { whole = sofar.3 ∙ all_closed bytes i start e past sofar.2 kept sofar.5; zeroless = sofar.4 }
