-- A recipe's parameters, one after the other. Assumes nothing.
use Rattle.std.proofs.Common.{◌≡◌, ℕ, zero, suc, ◌+◌, ◌<◌, Bool, true, false, cond, ◌||◌, List, [], ◌∷◌, length, drop, Some, None, Option, sym, refl, ap, ◌∙◌, add-one, arith}
use Rattle.std.specs.Option.{option_map}
use Rattle.std.proofs.lemmas.Bool.{cond-true, cond-false}
use Rattle.std.specs.List.{slice_get, filter, list_any}
use Rattle.register.specs.Meaning.{ParameterMeaning}
use Rattle.register.specs.Parameters.{parameter_at, without_texts}
use Rattle.register.specs.declared.parameter.Parameter.{Parameter}
use Rattle.reading.specs.Signature.{is_option, any_option, is_variadic, counted}
use Rattle.reading.specs.Model.{taker}
use Rattle.reader.specs.Bare.{bare_option}
use Rattle.reader.specs.Signatures.{called_from}
use Rattle.reader.specs.declared.called.Called as code

-- the parameter at a place, and those behind it
pub record There (ps : List ParameterMeaning) (i : ℕ) (p : Parameter) : Type 0 where
  pub meaning : ParameterMeaning
  pub at : parameter_at ps i ≡ Some meaning
  pub is : without_texts meaning ≡ p
  pub here : drop i ps ≡ meaning ∷ drop (i + 1) ps
  pub within : i < length ps

nth_here : (ps : List ParameterMeaning) (i : ℕ) (m : ParameterMeaning) → slice_get ps i ≡ Some m → drop i ps ≡ m ∷ drop (suc i) ps
nth_here [] i m e = absurd (let z : ◌≡◌ {A = ℕ} 0 1 = cc in omega arith)
nth_here (p ∷ ps) zero m e = let h : p ≡ m = cc in ap (λ (x : ParameterMeaning). x ∷ ps) h
nth_here (p ∷ ps) (suc i) m e = nth_here ps i m e

nth_within : (ps : List ParameterMeaning) (i : ℕ) (m : ParameterMeaning) → slice_get ps i ≡ Some m → i < length ps
nth_within [] i m e = absurd (let z : ◌≡◌ {A = ℕ} 0 1 = cc in omega arith)
nth_within (p ∷ ps) zero m e = omega arith
nth_within (p ∷ ps) (suc i) m e = let h = nth_within ps i m e in omega arith

pub there : (ps : List ParameterMeaning) (i : ℕ) (p : Parameter) → Some p ≡ option_map without_texts (parameter_at ps i) → There ps i p
there ps i p e = go (parameter_at ps i) refl e
  where
    go : (o : Option ParameterMeaning) → parameter_at ps i ≡ o → Some p ≡ option_map without_texts o → There ps i p
    go None at h = absurd (let z : ◌≡◌ {A = ℕ} 0 1 = cc in omega arith)
    go (Some m) at h = record {
      meaning = m;
      at = at;
      is = cc;
      here = nth_here ps i m at ∙ ap (λ (k : ℕ). m ∷ drop k ps) (sym (add-one i));
      within = nth_within ps i m at;
    }

pub gone : (ps : List ParameterMeaning) (i : ℕ) → (o : Option Parameter) → o ≡ None → o ≡ option_map without_texts (parameter_at ps i) → drop i ps ≡ []
gone [] zero o n e = refl
gone [] (suc i) o n e = refl
gone (p ∷ ps) zero o n e = absurd (let z : ◌≡◌ {A = ℕ} 0 1 = cc in omega arith)
gone (p ∷ ps) (suc i) o n e = gone ps i o n e

-- What is left.

pub left_here : (ps : List ParameterMeaning) (i : ℕ) (p : Parameter) → There ps i p → called_from i (drop i ps) ≡ record { place = i; parameter = p } ∷ called_from (i + 1) (drop (i + 1) ps)
left_here ps i p t =
    ap (called_from i) t.here
    ∙ ap (λ (q : Parameter). record { place = i; parameter = q } ∷ called_from (suc i) (drop (i + 1) ps)) t.is
    ∙ ap (λ (k : ℕ). record { place = i; parameter = p } ∷ called_from k (drop (i + 1) ps)) (sym (add-one i))

pub called_long : (k : ℕ) (ps : List ParameterMeaning) → length (called_from k ps) ≡ length ps
called_long k [] = refl
called_long k (p ∷ ps) = ap suc (called_long (suc k) ps)

-- the parameter that comes next, and those behind it
pub record Ahead (k : ℕ) (ps : List ParameterMeaning) (c : code.Called) (cs : List code.Called) : Type 0 where
  pub meaning : ParameterMeaning
  pub others : List ParameterMeaning
  pub here : ps ≡ meaning ∷ others
  pub place : c.place ≡ k
  pub is : without_texts meaning ≡ c.parameter
  pub left : cs ≡ called_from (suc k) others

pub ahead : (k : ℕ) (ps : List ParameterMeaning) (c : code.Called) (cs : List code.Called) → called_from k ps ≡ c ∷ cs → Ahead k ps c cs
ahead k [] c cs e = absurd (let z : ◌≡◌ {A = ℕ} 0 1 = cc in omega arith)
ahead k (p ∷ ps) c cs e = let h : record { place = k; parameter = without_texts p } ≡ c = cc in record { meaning = p; others = ps; here = refl; place = sym (ap (λ (x : code.Called). x.place) h); is = ap (λ (x : code.Called). x.parameter) h; left = cc }

-- What the chains over parameters come to.

pub any_option_is : (k : ℕ) (ps : List ParameterMeaning) → list_any (λ (c : code.Called). bare_option c.parameter) (called_from k ps) ≡ any_option ps
any_option_is k [] = refl
any_option_is k (p ∷ ps) = ap (λ (b : Bool). is_option p || b) (any_option_is (suc k) ps)

pub counted_is : (passes : Parameter → Bool) (k : ℕ) (ps : List ParameterMeaning) → length (filter (λ (c : code.Called). passes c.parameter) (called_from k ps)) ≡ counted (λ m. passes (without_texts m)) ps
counted_is passes k [] = refl
counted_is passes k (p ∷ ps) =
    by (passes (without_texts p)) _ (filter (λ (c : code.Called). passes c.parameter) (called_from (suc k) ps))
    ∙ ap (λ (n : ℕ). cond (passes (without_texts p)) (suc n) n) (counted_is passes (suc k) ps)
  where
    by : (b : Bool) (c : code.Called) (cs : List code.Called) → length (cond b (c ∷ cs) cs) ≡ cond b (suc (length cs)) (length cs)
    by true c cs = refl
    by false c cs = refl

-- the place that the plain word behind n others goes to
abbrev pub taken_by : List code.Called → ℕ → Option ℕ
taken_by [] n = None
taken_by (c ∷ cs) n = cond (bare_option c.parameter) (taken_by cs n) (elim n [ zero ↦ Some c.place | suc m ↦ cond (is_variadic c.parameter.kind) (Some c.place) (taken_by cs m) ])

pub taken_first : (c : code.Called) (cs : List code.Called) (n : ℕ) → bare_option c.parameter ≡ false → n ≡ 0 → taken_by (c ∷ cs) n ≡ Some c.place
taken_first c cs n h z = ap (taken_by (c ∷ cs)) z ∙ cond-false _ _ _ h

pub taken_further : (c : code.Called) (cs : List code.Called) (n : ℕ) → bare_option c.parameter ≡ false → is_variadic c.parameter.kind ≡ true → taken_by (c ∷ cs) n ≡ Some c.place
taken_further c cs zero h v = cond-false _ _ _ h
taken_further c cs (suc n) h v = cond-false _ _ _ h ∙ cond-true _ _ _ v

-- a place counted from further on
abbrev onward : ℕ → Option ℕ → Option ℕ
onward i None = None
onward i (Some k) = Some (i + k)

onward_suc : (i : ℕ) (o : Option ℕ) → onward (suc i) o ≡ onward i (option_map suc o)
onward_suc i None = refl
onward_suc i (Some k) = ap Some (omega arith)

onward_cond : (k : ℕ) (b : Bool) (x y : Option ℕ) → onward k (cond b x y) ≡ cond b (onward k x) (onward k y)
onward_cond k true x y = refl
onward_cond k false x y = refl

taken_from : (k : ℕ) (ps : List ParameterMeaning) (n : ℕ) → taken_by (called_from k ps) n ≡ onward k (taker ps n)
taken_from k [] n = refl
taken_from k (p ∷ ps) zero =
    let here : Some k ≡ onward k (Some 0) = ap Some (omega arith) in
    ap (λ (o : Option ℕ). cond (is_option p) o (Some k)) (taken_from (suc k) ps zero ∙ onward_suc k (taker ps zero))
    ∙ ap (cond (is_option p) (onward k (option_map suc (taker ps zero)))) here ∙ sym (onward_cond k (is_option p) (option_map suc (taker ps zero)) (Some 0))
taken_from k (p ∷ ps) (suc m) =
    let here : Some k ≡ onward k (Some 0) = ap Some (omega arith) in
    let rest = λ (n : ℕ). taken_from (suc k) ps n ∙ onward_suc k (taker ps n) in
    ap (λ (o : Option ℕ). cond (is_option p) o (cond (is_variadic p.kind) (Some k) (taken_by (called_from (suc k) ps) m))) (rest (suc m))
    ∙ ap (cond (is_option p) (onward k (option_map suc (taker ps (suc m)))))
    (ap (cond (is_variadic p.kind) (Some k)) (rest m) ∙ ap (λ (o : Option ℕ). cond (is_variadic p.kind) o (onward k (option_map suc (taker ps m)))) here ∙ sym (onward_cond k (is_variadic p.kind) (Some 0) (option_map suc (taker ps m))))
    ∙ sym (onward_cond k (is_option p) (option_map suc (taker ps (suc m))) (cond (is_variadic p.kind) (Some 0) (option_map suc (taker ps m))))

pub taker_is : (ps : List ParameterMeaning) (n : ℕ) → taken_by (called_from 0 ps) n ≡ taker ps n
taker_is ps n = taken_from 0 ps n ∙ by (taker ps n)
  where
    by : (o : Option ℕ) → onward 0 o ≡ o
    by None = refl
    by (Some k) = ap Some (omega arith)
