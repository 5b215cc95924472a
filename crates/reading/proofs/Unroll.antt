-- The model on the rest is the model on the whole: what loops over letters, words and orders need. Assumes nothing.
use Rattle.std.proofs.Common.{◌≡◌, ℕ, suc, ◌+◌, ◌≤◌, not, ◌&&◌, List, [], ◌∷◌, ◌++◌, map, length, Some, None, Ok, Err, Option, Result, sym, refl, ap, ◌∙◌, subst, append_assoc, arith, length-append}
use Rattle.std.specs.Str.{bytes_eq}
use Rattle.refusal.specs.declared.Refusal.{Refusal}
use Rattle.text.specs.Identifier.{Text}
use Rattle.register.specs.Meaning.{ParameterMeaning}
use Rattle.reading.specs.Letters.{letters}
use Rattle.reading.specs.Signature.{any_option, takes_true}
use Rattle.reading.specs.Switches.{Switch, Called, called, end_mark, is_dashed, name, attached, switches}
use Rattle.reading.specs.Switches.Switch.{Letter}
use Rattle.reading.specs.Reading.{Value, Waiting, true_text, is_full}
use Rattle.reading.specs.Reading.Waiting.{Nobody, For}
use Rattle.reading.specs.Line.{Order, Reading}
use Rattle.reading.specs.Model.{taker, Did, give, last_step, then_step, run, State, Next, is_nil, plain_step, switched, switch_step, free_step, value_step, step_by, step, nothing, onto, behind, pushed}
use Rattle.reading.specs.Model.Did.{Gave, Wrong}
use Rattle.reading.specs.Model.Next.{Go, Stop, Fail}
use Rattle.reading.specs.declared.role.Role.{Role}
use Rattle.reading.proofs.Runs.{split}
use Rattle.reading.proofs.Bounds.{switches_few}

-- Letters: the first of those that are left, where it is the last and where more follow.

pub run_last : (ps : List ParameterMeaning) (at : ℕ) (value : Option Text) (vs : List Value) (j c : ℕ) (t rest : Text) → letters t ≡ c ∷ letters rest → rest ≡ [] → run ps at value vs j (map Letter (letters t)) ≡ last_step at j (called ps (Letter c)) value vs
run_last ps at value vs j c t rest e n = ap (λ (x : List ℕ). run ps at value vs j (map Letter x)) (e ∙ ap (λ (x : Text). c ∷ letters x) n)

some_letters : (b : ℕ) (t : Text) → (d : ℕ) × (ds : List ℕ) × (letters (b ∷ t) ≡ d ∷ ds)
some_letters b t = go (letters (b ∷ t)) refl
  where
    go : (xs : List ℕ) → letters (b ∷ t) ≡ xs → (d : ℕ) × (ds : List ℕ) × (letters (b ∷ t) ≡ d ∷ ds)
    go [] e = absurd (Rattle.reading.proofs.Words.some_letter _ _ t e)
    go (d ∷ ds) e = (d, ds, e)

pub run_more : (ps : List ParameterMeaning) (at : ℕ) (value : Option Text) (vs : List Value) (j c : ℕ) (t rest : Text) → letters t ≡ c ∷ letters rest → (rest ≡ [] → ⊥) → run ps at value vs j (map Letter (letters t)) ≡ then_step at j (called ps (Letter c)) vs (λ hs. run ps at value hs (suc j) (map Letter (letters rest)))
run_more ps at value vs j c t [] e n = absurd (n refl)
run_more ps at value vs j c t (b ∷ rest) e n =
    let s = some_letters b rest in
    ap (λ (x : List ℕ). run ps at value vs j (map Letter x)) (e ∙ ap (λ (x : List ℕ). c ∷ x) s.2)
    ∙ ap (λ (x : List ℕ). then_step at j (called ps (Letter c)) vs (λ hs. run ps at value hs (suc j) (map Letter x))) (sym s.2)

-- Values: a word adds no more of them than its bytes and one.

did_few : ℕ → Did → Type 0
did_few most (Gave vs who) = length vs ≤ most
did_few most (Wrong f) = Unit {0}

give_few : (at j : ℕ) (c : Called) (t : Text) (vs : List Value) (most : ℕ) → suc (length vs) ≤ most → did_few most (give at j c t vs)
unfolding did_few
give_few at j c t vs most h =
    split (is_full c vs) (λ e. rw e tt) (λ e. rw e (let k = length-append vs (record { parameter = c.place; text = t; word = at } ∷ []) in omega arith))

last_few : (at j : ℕ) (o : Option Called) (value : Option Text) (vs : List Value) (most : ℕ) → suc (length vs) ≤ most → did_few most (last_step at j o value vs)
unfolding did_few
last_few at j None value vs most h = tt
last_few at j (Some c) None vs most h = split (takes_true c.parameter) (λ e. rw e (give_few at j c true_text vs most h)) (λ e. rw e (omega arith))
last_few at j (Some c) (Some v) vs most h = split (takes_true c.parameter) (λ e. rw e tt) (λ e. rw e (give_few at j c v vs most h))

then_few : (at j : ℕ) (o : Option Called) (vs : List Value) (go : List Value → Did) (most : ℕ) → ((hs : List Value) → length hs ≡ suc (length vs) → did_few most (go hs)) → did_few most (then_step at j o vs go)
unfolding did_few
then_few at j None vs go most h = tt
then_few at j (Some c) vs go most h =
    split (takes_true c.parameter)
    (λ e. rw e (split (is_full c vs) (λ f. rw f tt) (λ f. rw f (h _ (let k = length-append vs (record { parameter = c.place; text = true_text; word = at } ∷ []) in omega arith)))))
    (λ e. rw e tt)

run_few : (ps : List ParameterMeaning) (at : ℕ) (value : Option Text) (vs : List Value) (j : ℕ) (ss : List Switch) (most : ℕ) → length vs + length ss ≤ most → did_few most (run ps at value vs j ss)
unfolding did_few
run_few ps at value vs j [] most h = omega arith
run_few ps at value vs j (s ∷ []) most h = last_few at j (called ps s) value vs most (omega arith)
run_few ps at value vs j (s ∷ r ∷ ss) most h = then_few at j (called ps s) vs _ most (λ hs e. run_few ps at value hs (suc j) (r ∷ ss) most (omega arith))

next_few : ℕ → Next → Type 0
next_few most (Go r st) = length st.values ≤ most
next_few most Stop = Unit {0}
next_few most (Fail f) = Unit {0}

switched_few : (st : State) (did : Did) (most : ℕ) → did_few most did → next_few most (switched st did)
unfolding did_few next_few
switched_few st (Gave vs who) most h = h
switched_few st (Wrong f) most h = tt

plain_few : (st : State) (w : Text) (o : Option ℕ) (most : ℕ) → suc (length st.values) ≤ most → next_few most (plain_step st w o)
unfolding next_few
plain_few st w None most h = tt
plain_few st w (Some k) most h = let e = length-append st.values (record { parameter = k; text = w; word = st.words } ∷ []) in omega arith

switch_few : (ps : List ParameterMeaning) (st : State) (w : Text) → next_few (length st.values + suc (length w)) (switch_step ps st w)
unfolding next_few
switch_few ps st w =
    split (is_nil (name w))
    (λ e. rw e tt)
    (λ e. rw e (switched_few st _ (length st.values + suc (length w)) (run_few ps st.words (attached w) st.values 0 (switches w) (length st.values + suc (length w)) (let k = switches_few w in omega arith))))

free_few : (ps : List ParameterMeaning) (st : State) (w : Text) → next_few (length st.values + suc (length w)) (free_step ps st w)
unfolding next_few
free_few ps st w =
    let home = plain_few st w (taker ps st.plains) (length st.values + suc (length w)) (omega arith) in
    split (any_option ps && not st.ended)
    (λ o. rw o (split (bytes_eq w end_mark)
    (λ d. rw d (omega arith))
    (λ d. rw d (split (is_dashed w) (λ h. rw h (switch_few ps st w)) (λ h. rw h home)))))
    (λ o. rw o home)

value_few : (st : State) (w : Text) (c : Called) (at j : ℕ) → next_few (length st.values + suc (length w)) (value_step st w c at j)
unfolding next_few
value_few st w c at j =
    split (is_full c st.values) (λ e. rw e tt) (λ e. rw e (let k = length-append st.values (record { parameter = c.place; text = w; word = st.words } ∷ []) in omega arith))

step_by_few : (ps : List ParameterMeaning) (st : State) (w : Text) (who : Waiting) → next_few (length st.values + suc (length w)) (step_by ps st w who)
step_by_few ps st w Nobody = free_few ps st w
step_by_few ps st w (For c at j) = value_few st w c at j

pub step_few : (ps : List ParameterMeaning) (st t : State) (w : Text) (r : Role) → step ps st w ≡ Go r t → length t.values ≤ length st.values + suc (length w)
unfolding next_few
step_few ps st t w r e = subst (next_few (length st.values + suc (length w))) e (step_by_few ps st w st.waiting)

-- Orders: what was read before.

pub behind_nothing : (r : Result Reading Refusal) → behind nothing r ≡ r
behind_nothing (Ok r) = refl
behind_nothing (Err f) = refl

pub behind_onto : (done : Reading) (o : Order) (rs : List Role) (r : Result Reading Refusal) → behind done (onto o rs r) ≡ behind (pushed done o rs) r
behind_onto done o rs (Ok r) =
    ap (λ (x : List Order). Ok (record { orders = x; roles = done.roles ++ (rs ++ r.roles) })) (sym (append_assoc done.orders (o ∷ []) r.orders))
    ∙ ap (λ (x : List Role). Ok (record { orders = (done.orders ++ o ∷ []) ++ r.orders; roles = x })) (sym (append_assoc done.roles rs r.roles))
behind_onto done o rs (Err f) = refl
