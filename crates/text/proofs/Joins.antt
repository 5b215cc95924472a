-- The rules on words with colons and the functions agree.
use Rattle.std.proofs.Common.{◌≡◌, ℕ, ◌-◌, true, false, ◌&&◌, eqb, List, [], ◌∷◌, ◌++◌, length, take, drop, Decides, sym, refl, ap, ◌∙◌, arith}
use Rattle.std.specs.Str.{bytes_eq}
use Rattle.std.proofs.lemmas.Slice.Eq.{bytes_eq-Decides}
use Rattle.std.proofs.lemmas.List.{take_at, drop_at, length-append, take-append-drop}
use Rattle.std.proofs.lemmas.Bool.{and_parts, eqb-true, ne_eqb, true≢false, false≢true}
use Rattle.text.specs.Identifier.{Text, starts, follows, all_follow, identifier}
use Rattle.text.specs.Pieces.{split, onto, joined, identifiers, well_formed, separator, Pieces, Unclosed, unclosed, has_colon}
use Rattle.text.proofs.Splits.{either_way, split_some}

-- a name has no colon

follows_apart : (b : ℕ) → follows b ≡ true → eqb b 58 ≡ false
follows_apart b e = ne_eqb b 58 (λ h. false≢true (sym (ap follows h) ∙ e))

starts_apart : (b : ℕ) → starts b ≡ true → eqb b 58 ≡ false
starts_apart b e = ne_eqb b 58 (λ h. false≢true (sym (ap starts h) ∙ e))

follow_bare : (t : Text) → all_follow t ≡ true → has_colon t ≡ false
follow_bare [] e = refl
follow_bare (b ∷ t) e = let p = and_parts (follows b) (all_follow t) e in rw (follows_apart b p.0) (follow_bare t p.1)

pub identifier_bare : (p : Text) → identifier p ≡ true → has_colon p ≡ false
identifier_bare [] e = refl
identifier_bare (b ∷ t) e = let p = and_parts (starts b) (all_follow t) e in rw (starts_apart b p.0) (follow_bare t p.1)

bare_parts : (b : ℕ) (t : Text) → has_colon (b ∷ t) ≡ false → (eqb b 58 ≡ false) × (has_colon t ≡ false)
bare_parts b t e = either_way (eqb b 58) (λ h. absurd (true≢false (rw h at e))) (λ h. (h, rw h at e))

-- a byte that is no colon stays in its piece
split_byte : (b : ℕ) (t : Text) → eqb b 58 ≡ false → split (b ∷ t) ≡ onto b (split t)
split_byte b [] e = refl
split_byte b (c ∷ t) e = rw e

split_bare : (p : Text) → has_colon p ≡ false → split p ≡ p ∷ []
split_bare [] e = refl
split_bare (b ∷ t) e = let h = bare_parts b t e in split_byte b t h.0 ∙ ap (onto b) (split_bare t h.1)

split_before : (p v : Text) → has_colon p ≡ false → split (p ++ (58 ∷ 58 ∷ v)) ≡ p ∷ split v
split_before [] v e = refl
split_before (b ∷ t) v e = let h = bare_parts b t e in split_byte b (t ++ (58 ∷ 58 ∷ v)) h.0 ∙ ap (onto b) (split_before t v h.1)

split_joined : (ps : List Text) → identifiers ps ≡ true → split (joined ps) ≡ ps
split_joined [] e = absurd (false≢true e)
split_joined (p ∷ []) e = split_bare p (identifier_bare p e)
split_joined (p ∷ q ∷ ps) e =
    let h = and_parts (identifier p) (identifiers (q ∷ ps)) e in
    split_before p (joined (q ∷ ps)) (identifier_bare p h.0) ∙ ap (λ l. p ∷ l) (split_joined (q ∷ ps) h.1)

joined_onto : (b : ℕ) (ps : List Text) → joined (onto b ps) ≡ b ∷ joined ps
joined_onto b [] = refl
joined_onto b (p ∷ []) = refl
joined_onto b (p ∷ q ∷ ps) = refl

joined_cut : (q : Text) (qs ps : List Text) → ps ≡ q ∷ qs → joined ([] ∷ ps) ≡ 58 ∷ 58 ∷ joined ps
joined_cut q qs ps s = rw s

joined_split : (w : Text) → joined (split w) ≡ w
joined_split [] = refl
joined_split (b ∷ []) = refl
joined_split (b ∷ c ∷ t) =
    either_way (eqb b 58 && eqb c 58)
    (λ e. let p = and_parts (eqb b 58) (eqb c 58) e in let s = split_some t in
    rw e (joined_cut s.0 s.1 (split t) s.2 ∙ ap (λ l. 58 ∷ 58 ∷ l) (joined_split t) ∙ both b c t p.0 p.1))
    (λ e. rw e (joined_onto b (split (c ∷ t)) ∙ ap (λ l. b ∷ l) (joined_split (c ∷ t))))
  where
    both : (b c : ℕ) (t : Text) → eqb b 58 ≡ true → eqb c 58 ≡ true → 58 ∷ 58 ∷ t ≡ b ∷ c ∷ t
    both b c t p q = let x = eqb-true b 58 p in let y = eqb-true c 58 q in cc

pub pieces_is : {w : Text} {ps : List Text} → Pieces w ps → split w ≡ ps
pieces_is {w} {ps} p = ap split p.parts ∙ split_joined ps p.named

pub pieces_formed : {w : Text} {ps : List Text} → Pieces w ps → well_formed w ≡ true
pieces_formed p = ap identifiers (pieces_is p) ∙ p.named

pub pieces_does : (w : Text) → well_formed w ≡ true → Pieces w (split w)
pieces_does w e = record { parts = sym (joined_split w); named = e }

pub formed_decides : (w : Text) → Decides (well_formed w) ((ps : List Text) × Pieces w ps)
formed_decides w = (λ e. (split w, pieces_does w e), λ p. pieces_formed p.1)

-- one closing `::`

back : (v : Text) → length v ≡ length (v ++ separator) - 2
back v = let e = length-append v separator in omega arith

pub unclosed_is : {w v : Text} → Unclosed w v → unclosed w ≡ v
unclosed_is {w} {v} (Unclosed.closed e) =
    let n : length v ≡ length w - 2 = back v ∙ ap (λ u. length u - 2) (sym e) in
    let d : drop (length w - 2) w ≡ separator = ap (drop (length w - 2)) e ∙ drop_at v separator (length w - 2) n in
    let t : take (length w - 2) w ≡ v = ap (take (length w - 2)) e ∙ take_at v separator (length w - 2) n in
    rw ((bytes_eq-Decides (drop (length w - 2) w) separator).1 d) t
unclosed_is {w} (Unclosed.bare no!) =
    either_way (bytes_eq (drop (length w - 2) w) separator)
    (λ e. absurd (no! (take (length w - 2) w) (sym (take-append-drop (length w - 2) w) ∙ ap (λ u. take (length w - 2) w ++ u) ((bytes_eq-Decides (drop (length w - 2) w) separator).0 e))))
    (λ e. rw e)

pub unclosed_does : (w : Text) → Unclosed w (unclosed w)
unclosed_does w =
    either_way (bytes_eq (drop (length w - 2) w) separator)
    (λ e. rw e (Unclosed.closed (sym (take-append-drop (length w - 2) w) ∙ ap (λ u. take (length w - 2) w ++ u) ((bytes_eq-Decides (drop (length w - 2) w) separator).0 e))))
    (λ e. rw e (Unclosed.bare (λ v h. true≢false (sym (ends v h) ∙ e))))
  where
    ends : (v : Text) → w ≡ v ++ separator → bytes_eq (drop (length w - 2) w) separator ≡ true
    ends v h =
        let n : length v ≡ length w - 2 = back v ∙ ap (λ u. length u - 2) (sym h) in
        (bytes_eq-Decides (drop (length w - 2) w) separator).1 (ap (drop (length w - 2)) h ∙ drop_at v separator (length w - 2) n)
