-- The names of a path by their places.
use Rattle.std.proofs.Common.{◌≡◌, ℕ, zero, suc, ◌+◌, ◌<◌, ◌≤◌, Bool, true, false, cond, List, [], ◌∷◌, ◌++◌, length, get_or, take, sym, refl, ap, ◌∙◌, arith}
use Rattle.text.specs.Identifier.{Text}
use Rattle.path.specs.Path.{Modulepath, words_of, word_behind, followed_by}
use Rattle.path.specs.Names.{NameAt, names_from}

-- as many as the texts
pub names_many : (spaced : Bool) (word : ℕ) (texts : List Text) → length (names_from spaced word texts) ≡ length texts
names_many spaced word [] = refl
names_many spaced word (text ∷ texts) = ap suc (names_many spaced (cond spaced (word + 1) word) texts)

-- a name at place i of these texts, where the first stands in this word
pub record Place (spaced : Bool) (word : ℕ) (texts : List Text) (i : ℕ) (name : NameAt) : Type 0 where
  pub rest : List Text
  pub cut : texts ≡ take i texts ++ name.text ∷ rest
  pub more : take (i + 1) texts ≡ take i texts ++ name.text ∷ []
  pub followed : name.followed ≡ followed_by (record { components = []; spaced = spaced }) rest
  pub at : name.word ≡ cond spaced (word + i) word

further : (spaced : Bool) (word i : ℕ) → cond spaced (cond spaced (word + 1) word + i) (cond spaced (word + 1) word) ≡ cond spaced (word + suc i) word
further true word i = omega arith
further false word i = refl

first_at : (spaced : Bool) (word : ℕ) → word ≡ cond spaced (word + 0) word
first_at true word = omega arith
first_at false word = refl

pub place_of : (spaced : Bool) (word : ℕ) (texts : List Text) (i : ℕ) (name : NameAt) → i < length texts → name ≡ get_or (names_from spaced word texts) i name → Place spaced word texts i name
place_of spaced word [] i name h e = absurd (omega arith)
place_of spaced word (text ∷ texts) zero name h e = record {
  rest = texts;
  cut = ap (λ (n : NameAt). n.text ∷ texts) (sym e);
  more = ap (λ (n : NameAt). n.text ∷ []) (sym e);
  followed = ap (λ (n : NameAt). n.followed) e;
  at = ap (λ (n : NameAt). n.word) e ∙ first_at spaced word;
}
place_of spaced word (text ∷ texts) (suc i) name h e =
    let p = place_of spaced (cond spaced (word + 1) word) texts i name (omega arith) e in
    let one : suc i + 1 ≡ suc (i + 1) = omega arith in
    record {
      rest = p.rest;
      cut = ap (λ (l : List Text). text ∷ l) p.cut;
      more = ap (λ (k : ℕ). take k (text ∷ texts)) one ∙ ap (λ (l : List Text). text ∷ l) p.more;
      followed = p.followed;
      at = p.at ∙ further spaced word i;
    }

module _ (path : Modulepath) (i : ℕ) (name : NameAt) (place : Place path.spaced 0 path.components i name) where
  pub followed_is : (rest : List Text) → followed_by (record { components = []; spaced = path.spaced }) rest ≡ followed_by path rest
  followed_is [] = refl
  followed_is (text ∷ rest) = refl

  pub word_is : word_behind path i ≡ name.word
  word_is = by path.spaced place.at
    where
      by : (b : Bool) → name.word ≡ cond b (0 + i) 0 → cond b i 0 ≡ name.word
      by true e = omega arith
      by false e = sym e

  pub words_are : words_of path (i + 1) ≡ name.word + 1
  words_are = by path.spaced place.at
    where
      by : (b : Bool) → name.word ≡ cond b (0 + i) 0 → cond b (i + 1) 1 ≡ name.word + 1
      by true e = omega arith
      by false e = omega arith

  pub words_room : i < length path.components → name.word + 1 ≤ words_of path (length path.components)
  words_room h = by path.spaced place.at
    where
      by : (b : Bool) → name.word ≡ cond b (0 + i) 0 → name.word + 1 ≤ cond b (length path.components) 1
      by true e = omega arith
      by false e = omega arith
