-- The answer for long names and letters together. Assumes nothing.
use Rattle.std.proofs.Common.{◌≡◌, ℕ, ◌<◌, ◌≤◌, min, ◌⊎◌, List, [], ◌∷◌, length, take, Some, Ok, Err, Option, Result, sym, ap, ◌∙◌, subst, inl, inr, arith, MatchResult}
use Rattle.std.specs.Option.{option_map}
use Rattle.std.specs.Result.{IsErrAnd}
use Rattle.std.proofs.lemmas.Result.{MatchResult-at_ok}
use Rattle.refusal.specs.declared.Refusal.{Refusal}
use Rattle.refusal.specs.declared.Refusal.TheVariants.{SharedName}
use Rattle.tree.specs.Tree.{Parameter}
use Rattle.tree.specs.declared.rows.LongRow.{LongRow}
use Rattle.tree.specs.declared.rows.LetterRow.{LetterRow}
use Rattle.whole.specs.Places.{Stands}
use Rattle.whole.specs.Shared.{Named, Distinct, Apart, FirstShared}
use Rattle.whole.specs.Derived.{SaysLong, SaysLetter, LongsListed, LettersListed, NamesListed, NamesDerived}
use Rattle.whole.specs.declared.filled.Filled.{Filled}
use Rattle.whole.specs.declared.derive.NameTwice.{NameTwice}
use Rattle.whole.specs.Entries.{entry, long_entry, letter_entry, long_name, letter_name, Says, AllListed, AllFilled, FirstTwice, joined}
use Rattle.whole.proofs.Places.{stands_within, stands_weaker, stands_with, stands_some, among_weaker}
use Rattle.whole.proofs.Stepping.{mapped_some}

-- ---- a letter is the list of its one code point

letter_of : (p : Parameter) (c : ℕ) → letter_name p ≡ Some (c ∷ []) → p.letter ≡ Some c
letter_of p c h = from (mapped_some (λ k. k ∷ []) p.letter (c ∷ []) (sym h))
  where
    from : (k : ℕ) × (p.letter ≡ Some k) × (c ∷ [] ≡ k ∷ []) → p.letter ≡ Some c
    from w = let e : c ∷ [] ≡ w.0 ∷ [] = w.2 in let same : w.0 ≡ c = cc in w.1 ∙ ap (λ k. Some k) same

named_letter : (ps : List Parameter) (place c : ℕ) → Named letter_name ps place (c ∷ []) → Named (λ p. p.letter) ps place c
named_letter ps place c n = stands_weaker (λ p. letter_name p ≡ Some (c ∷ [])) (λ p. p.letter ≡ Some c) (λ p h. letter_of p c h) ps place n

letter_named : (ps : List Parameter) (place c : ℕ) → Named (λ p. p.letter) ps place c → Named letter_name ps place (c ∷ [])
letter_named ps place c n = stands_weaker (λ p. p.letter ≡ Some c) (λ p. letter_name p ≡ Some (c ∷ [])) (λ p h. ap (option_map (λ k. k ∷ [])) h) ps place n

letters_distinct : (ps : List Parameter) → Distinct letter_name ps → Distinct (λ p. p.letter) ps
letters_distinct ps d i j c h a b = d i j (c ∷ []) h (letter_named ps i c a) (letter_named ps j c b)

distinct_letters : (ps : List Parameter) → Distinct (λ p. p.letter) ps → Distinct letter_name ps
distinct_letters ps d i j x h a b = from (stands_some (λ p. letter_name p ≡ Some x) ps i a)
  where
    with' : (c : ℕ) → x ≡ c ∷ [] → ⊥
    with' c e = d i j c h (named_letter ps i c (subst (Named letter_name ps i) e a)) (named_letter ps j c (subst (Named letter_name ps j) e b))

    from : (p : Parameter) × (letter_name p ≡ Some x) → ⊥
    from w = let m = mapped_some (λ k. k ∷ []) w.0.letter x (sym w.1) in with' m.0 m.2

apart_from : (ps : List Parameter) → Distinct long_name ps → Distinct letter_name ps → Apart ps
apart_from ps a b = record { longs = a; letters = letters_distinct ps b }

stands_apart : (recipes : List (List Parameter)) (r : ℕ) → Stands (Distinct long_name) recipes r → Stands (Distinct letter_name) recipes r → Stands Apart recipes r
stands_apart recipes r a b = stands_with (Distinct long_name) (Distinct letter_name) Apart apart_from recipes r a b

-- ---- the rows in their own words

longs_listed : (image : List ℕ) (recipes : List (List Parameter)) (rows : List LongRow) → AllListed (long_entry image) long_name recipes rows → LongsListed image recipes rows
longs_listed image recipes rows all = record {
  ascending = all.ascending;
  sound = λ r p t a. all.sound (entry r p t) (among_weaker (SaysLong image r p t) (Says (long_entry image) (entry r p t)) (λ row h i. entry (h.recipe i) (h.place i) (h.name i)) rows a);
  complete = λ r p t g. among_weaker (Says (long_entry image) (entry r p t)) (SaysLong image r p t) (λ row h. record { recipe = ap (λ e. e.recipe) h; place = ap (λ e. e.place) h; name = ap (λ e. e.name) h }) rows (all.complete (entry r p t) g);
}

first_of : (c k : ℕ) → c ∷ [] ≡ k ∷ [] → c ≡ k
first_of c k e = cc

letters_listed : (image : List ℕ) (recipes : List (List Parameter)) (rows : List LetterRow) → AllListed (letter_entry image) letter_name recipes rows → LettersListed image recipes rows
letters_listed image recipes rows all = record {
  ascending = all.ascending;
  sound = λ r p c a. stands_weaker (λ ps. Named letter_name ps p (c ∷ [])) (λ ps. Named (λ q. q.letter) ps p c) (λ ps n. named_letter ps p c n) recipes r
      (all.sound (entry r p (c ∷ [])) (among_weaker (SaysLetter r p c) (Says (letter_entry image) (entry r p (c ∷ []))) (λ row h i. entry (h.recipe i) (h.place i) (h.letter i ∷ [])) rows a));
  complete = λ r p c g. among_weaker (Says (letter_entry image) (entry r p (c ∷ []))) (SaysLetter r p c) (λ row h. record { recipe = ap (λ e. e.recipe) h; place = ap (λ e. e.place) h; letter = first_of row.letter c (ap (λ e. e.name) h) }) rows
      (all.complete (entry r p (c ∷ [])) (stands_weaker (λ ps. Named (λ q. q.letter) ps p c) (λ ps. Named letter_name ps p (c ∷ [])) (λ ps n. letter_named ps p c n) recipes r g));
}

-- ---- both together

module _ (recipes : List (List Parameter)) where
  twice_within : (name : Parameter → Option (List ℕ)) (r : ℕ) → FirstTwice name recipes r → r < length recipes
  twice_within name r f = stands_within (λ ps. Distinct name ps → ⊥) recipes r f.twice

  shared_long : (r : ℕ) → FirstTwice long_name recipes r → ((k : ℕ) → k < r → Stands (Distinct letter_name) recipes k) → FirstShared recipes r
  shared_long r f others = record {
    before = λ k h. stands_apart recipes k (f.before k h) (others k h);
    shared = stands_weaker (λ ps. Distinct long_name ps → ⊥) (λ ps. Apart ps → ⊥) (λ ps n a. n a.longs) recipes r f.twice;
  }

  shared_letter : (r : ℕ) → FirstTwice letter_name recipes r → ((k : ℕ) → k < r → Stands (Distinct long_name) recipes k) → FirstShared recipes r
  shared_letter r f others = record {
    before = λ k h. stands_apart recipes k (others k h) (f.before k h);
    shared = stands_weaker (λ ps. Distinct letter_name ps → ⊥) (λ ps. Apart ps → ⊥) (λ ps n a. n (distinct_letters ps a.letters)) recipes r f.twice;
  }

  -- the lower of two
  lower : (r s : ℕ) → FirstTwice long_name recipes r → FirstTwice letter_name recipes s → (r ≤ s) ⊎ (s < r) → FirstShared recipes (min r s)
  lower r s f g (inl h) = let is : r ≡ min r s = omega arith in subst (FirstShared recipes) is (shared_long r f (λ k b. g.before k (omega arith)))
  lower r s f g (inr h) = let is : s ≡ min r s = omega arith in subst (FirstShared recipes) is (shared_letter s g (λ k b. f.before k (omega arith)))

  which : (r s : ℕ) → (r ≤ s) ⊎ (s < r)
  which r s = grind arith

  module _ (image : List ℕ) (longs longs' : List LongRow) (letters letters' : List LetterRow) (as_long : length longs' ≡ length longs) (as-long' : length letters' ≡ length letters) where
    abbrev Answers : Result Filled NameTwice → Type 0
    Answers answer = MatchResult answer (λ filled. NamesListed image recipes longs letters filled longs' letters') (λ t. FirstShared recipes t.recipe)

    answered : (long letter : Result ℕ NameTwice) → MatchResult long (λ m. AllFilled (long_entry image) long_name recipes longs m longs') (λ t. FirstTwice long_name recipes t.recipe) → MatchResult letter (λ m. AllFilled (letter_entry image) letter_name recipes letters m letters') (λ t. FirstTwice letter_name recipes t.recipe) → Answers (joined long letter)
    answered (Ok m) (Ok n) a b = record {
      apart = λ r h. stands_apart recipes r (a.holds.distinct r h) (b.holds.distinct r h);
      by_long = longs_listed image recipes (take m longs') a.holds;
      by_letter = letters_listed image recipes (take n letters') b.holds;
      longs_filled = record { within = omega (arith, a.within); behind = a.behind };
      letters_filled = record { within = omega (arith, b.within); behind = b.behind };
    }
    answered (Ok m) (Err s) a b = shared_letter s.recipe b (λ k h. let w = twice_within letter_name s.recipe b in a.holds.distinct k (omega arith))
    answered (Err r) (Ok n) a b = shared_long r.recipe a (λ k h. let w = twice_within long_name r.recipe a in b.holds.distinct k (omega arith))
    answered (Err r) (Err s) a b = lower r.recipe s.recipe a b (which r.recipe s.recipe)

    -- the answer and the refusal of both
    pub both_listed : (long letter : Result ℕ NameTwice) → MatchResult long (λ m. AllFilled (long_entry image) long_name recipes longs m longs') (λ t. FirstTwice long_name recipes t.recipe) → MatchResult letter (λ m. AllFilled (letter_entry image) letter_name recipes letters m letters') (λ t. FirstTwice letter_name recipes t.recipe)
        → (filled : Filled) → joined long letter ≡ Ok filled → NamesListed image recipes longs letters filled longs' letters'
    both_listed long letter a b filled e = MatchResult-at_ok (λ f. NamesListed image recipes longs letters f longs' letters') (λ t. FirstShared recipes t.recipe) filled e (answered long letter a b)

    pub one_shared : (long letter : Result ℕ NameTwice) → MatchResult long (λ m. AllFilled (long_entry image) long_name recipes longs m longs') (λ t. FirstTwice long_name recipes t.recipe) → MatchResult letter (λ m. AllFilled (letter_entry image) letter_name recipes letters m letters') (λ t. FirstTwice letter_name recipes t.recipe)
        → (t : NameTwice) → joined long letter ≡ Err t → (r : Result Filled Refusal) → IsErrAnd r (λ refusal. refusal ≡ SharedName t.recipe) → NamesDerived image recipes longs letters r longs' letters'
    one_shared long letter a b t e (Ok m) h = absurd h
    one_shared long letter a b t e (Err refusal) h = (t.recipe, h, subst Answers e (answered long letter a b))
