-- A word with colons and its first piece.
use Rattle.std.proofs.Common.{◌≡◌, ℕ, zero, suc, get_or, Some, None, Option, Bor, MatchOption, option_map, slice_range, inl, inr, ◌⊎◌, ◌+◌, ◌<◌, ◌≤◌, Bool, true, false, ◌&&◌, eqb, List, [], ◌∷◌, length, take, drop, ⊎_elim, sym, refl, ap, ◌∙◌, arith}
use Rattle.std.proofs.lemmas.List.{take_all, take_rest}
use Rattle.std.proofs.lemmas.Bool.{cases_eq, and_parts, eqb-true, eq-eqb}
use Rattle.std.specs.List.{list_all}
use Rattle.std.specs.Option.{unwrap_or}
use Rattle.text.specs.Identifier.{Text, identifier}
use Rattle.text.specs.Pieces.{split, piece_length, identifiers, well_formed}
use Rattle.text.specs.Left.{pieces_of}

-- two cases of a test
pub either_way : {C : Type 0} (b : Bool) → (b ≡ true → C) → (b ≡ false → C) → C
either_way true f g = f refl
either_way false f g = g refl

-- where the first piece ends, by what stands at each place

no_cut : (w : Text) → ((i j : ℕ) → j ≡ i + 1 → j < length w → get_or w i 0 ≡ 58 → get_or w j 0 ≡ 58 → ⊥) → piece_length w ≡ length w
no_cut [] n = refl
no_cut (b ∷ []) n = refl
no_cut (b ∷ c ∷ t) n =
    either_way (eqb b 58 && eqb c 58)
    (λ e. let p = and_parts (eqb b 58) (eqb c 58) e in absurd (n 0 1 (omega arith) (omega arith) (eqb-true b 58 p.0) (eqb-true c 58 p.1)))
    (λ e. rw e (ap suc (no_cut (c ∷ t) (λ i j s l. n (suc i) (suc j) (omega arith) (omega arith)))))

first_cut : (w : Text) (k j : ℕ) → j ≡ k + 1 → j < length w → get_or w k 0 ≡ 58 → get_or w j 0 ≡ 58 → ((i h : ℕ) → h ≡ i + 1 → i < k → get_or w i 0 ≡ 58 → get_or w h 0 ≡ 58 → ⊥) → piece_length w ≡ k
first_cut [] k j s l x y n = absurd (omega arith)
first_cut (b ∷ []) k j s l x y n = absurd (omega arith)
first_cut (b ∷ c ∷ t) zero j s l x y n = rw (eq-eqb b 58 x, eq-eqb c 58 (ap (λ i. get_or (b ∷ c ∷ t) i 0) (sym s) ∙ y))
first_cut (b ∷ c ∷ t) (suc k) zero s l x y n = absurd (omega arith)
first_cut (b ∷ c ∷ t) (suc k) (suc j) s l x y n =
    either_way (eqb b 58 && eqb c 58)
    (λ e. let p = and_parts (eqb b 58) (eqb c 58) e in absurd (n 0 1 (omega arith) (omega arith) (eqb-true b 58 p.0) (eqb-true c 58 p.1)))
    (λ e. rw e (ap suc (first_cut (c ∷ t) k j (omega arith) (omega arith) x y (λ i h s l. n (suc i) (suc h) (omega arith) (omega arith)))))

pub piece_by : (w : Text) (r : Option ℕ) → (r ≡ None → (i : ℕ) → i + 1 < length w → get_or w i 0 ≡ 58 → get_or w (i + 1) 0 ≡ 58 → ⊥)
    → ((k : ℕ) → r ≡ Some k → (k + 1 < length w) × (get_or w k 0 ≡ 58) × (get_or w (k + 1) 0 ≡ 58))
    → ((k : ℕ) → r ≡ Some k → (i : ℕ) → i < k → get_or w i 0 ≡ 58 → get_or w (i + 1) 0 ≡ 58 → ⊥) → unwrap_or r (length w) ≡ piece_length w
piece_by w None none here before = sym (no_cut w (λ i j s l x y. none refl i (omega arith) x (ap (λ h. get_or w h 0) (sym s) ∙ y)))
piece_by w (Some k) none here before =
    let h = here k refl in
    sym (first_cut w k (k + 1) refl h.0 h.1 h.2 (λ i j s l x y. before k refl i l x (ap (λ n. get_or w n 0) (sym s) ∙ y)))

pub split_some : (w : Text) → (q : Text) × (qs : List Text) × (split w ≡ q ∷ qs)
split_some [] = ([], [], refl)
split_some (b ∷ []) = (b ∷ [], [], refl)
split_some (b ∷ c ∷ t) =
    either_way (eqb b 58 && eqb c 58)
    (λ e. ([], split t, rw e))
    (λ e. let s = split_some (c ∷ t) in (b ∷ s.0, s.1, rw (e, s.2)))

pub last_piece : (w : Text) → piece_length w ≡ length w → split w ≡ w ∷ []
last_piece [] h = refl
last_piece (b ∷ []) h = refl
last_piece (b ∷ c ∷ t) h =
    either_way (eqb b 58 && eqb c 58)
    (λ e. absurd (let k = rw e at h in omega arith))
    (λ e. let k : piece_length (c ∷ t) ≡ length (c ∷ t) = let k = rw e at h in omega arith in rw (e, last_piece (c ∷ t) k))

-- more pieces follow
pub record More (w : Text) : Type 0 where
  pub room : suc (suc (piece_length w)) ≤ length w
  pub first : split w ≡ take (piece_length w) w ∷ split (drop (suc (suc (piece_length w))) w)

pub more_pieces : (w : Text) → piece_length w < length w → More w
more_pieces [] h = absurd (omega arith)
more_pieces (b ∷ []) h = absurd (omega arith)
more_pieces (b ∷ c ∷ t) h =
    either_way (eqb b 58 && eqb c 58)
    (λ e. record { room = rw e (omega arith); first = rw e })
    (λ e. let k : piece_length (c ∷ t) < length (c ∷ t) = let k = rw e at h in omega arith in
    let m = more_pieces (c ∷ t) k in
    record { room = rw e (let r = m.room in omega arith); first = rw (e, m.first) })

pub piece_fits : (w : Text) → piece_length w ≤ length w
piece_fits [] = omega arith
piece_fits (b ∷ []) = omega arith
piece_fits (b ∷ c ∷ t) =
    either_way (eqb b 58 && eqb c 58)
    (λ e. rw e (omega arith))
    (λ e. let k = piece_fits (c ∷ t) in rw e (omega arith))

-- a first piece that is not all has a separator behind it
more_is : (t : Text) (n : ℕ) → n ≡ piece_length t → (n ≡ length t → ⊥) → (n + 2 ≤ length t) × (split t ≡ take n t ∷ split (drop (n + 2) t))
more_is t n is other =
    let fits = piece_fits t in
    let more = more_pieces t (omega arith) in
    let two : suc (suc (piece_length t)) ≡ n + 2 = omega arith in
    (let r = more.room in omega arith, more.first ∙ ap (λ k. take k t ∷ split (drop (suc (suc (piece_length t))) t)) (sym is) ∙ ap (λ k. take n t ∷ split (drop k t)) two)

-- without room for a separator, the first piece is all
by_room : (t : Text) (n : ℕ) → n ≡ piece_length t → length t < n + 2 → n ≡ length t
by_room t n is h =
    let fits = piece_fits t in
    ⊎_elim
    (λ e. e)
    (λ e. let room = (more_is t n is e).0 in absurd (omega arith))
    (cases_eq n (length t))

-- the first piece of a text, of n bytes, and what `get` finds behind the separator
pub piece_given : (t : Text) (n : ℕ) (rest : Option (Bor Text)) → n ≡ piece_length t
    → MatchOption rest ((length t < n + 2) ⊎ (length t < length t)) (λ x. (n + 2 ≤ length t) × (length t ≤ length t) × (x.now ≡ slice_range t (n + 2) (length t)) × (length x.now + (n + 2) ≡ length t))
    → split t ≡ take n t ∷ pieces_of (option_map (λ x. x.now) rest)
piece_given t n None is (inr h) = absurd (omega arith)
piece_given t n None is (inl h) =
    let whole : n ≡ length t = by_room t n is h in
    last_piece t (sym is ∙ whole) ∙ ap (λ (b : Text). b ∷ []) (sym (take_all n t (omega arith)))
piece_given t n (Some x) is h =
    let behind : x.now ≡ drop (n + 2) t = h.2 ∙ take_rest t (n + 2) in
    (more_is t n is (λ e. omega arith)).1 ∙ ap (λ (r : Text). take n t ∷ split r) (sym behind)

-- a word is well formed if all its pieces are identifiers, since there is one

all_named : (p : Text) (ps : List Text) → list_all identifier (p ∷ ps) ≡ identifiers (p ∷ ps)
all_named p [] = either_way (identifier p) (λ e. rw e refl) (λ e. rw e refl)
all_named p (q ∷ ps) = ap (λ b. identifier p && b) (all_named q ps)

pub all_formed : (w : Text) → list_all identifier (split w) ≡ well_formed w
all_formed w = let s = split_some w in rw s.2 (all_named s.0 s.1)
