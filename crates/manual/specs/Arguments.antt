-- Parameters that are no options: arguments, defaults, Plus and Star. Assumes nothing.
use Rattle.std.specs.Prelude.{◌≡◌, ℕ, ◌≤◌, true, false, List, [], ◌∷◌, ◌++◌, length, take, is_some, None}
use Rattle.text.specs.Identifier.{Text}
use Rattle.register.specs.Meaning.{ParameterMeaning}
use Rattle.register.specs.declared.parameter.ParameterKind.TheVariants.{Plus, Star}
use Rattle.judge.specs.Meaning.{JudgeMeaning}
use Rattle.reading.specs.Signature.{Each, is_option, is_star, is_variadic, may_be_empty}
use Rattle.reading.specs.Reading.{Given, Value, group, plains, Served, Sound, LawfulOrder}
use Rattle.reading.specs.declared.role.Role.TheVariants.{PlainWord}
use Rattle.manual.specs.Orders.{Stands, At, texts_of, plain_count}

-- where a plain word behind i others goes: the parameter at place k is no option; if it is Singular, i parameters before it are no options, and otherwise no more than i
pub record GoesTo (ps : List ParameterMeaning) (i k : ℕ) : Type 0 where
  pub parameter : ParameterMeaning
  pub there : At ps k parameter
  pub no_option : is_option parameter ≡ false
  pub most : plain_count (take k ps) ≤ i
  pub singular : is_variadic parameter.kind ≡ false → plain_count (take k ps) ≡ i

-- In a lawful order:
pub record ArgumentLaws (ps : List ParameterMeaning) (n : ℕ) (given : List Given) (rest : List Text) : Type 0 where
  -- plain words go to the parameters that are no options, in their sequence
  pub plain_words_in_sequence : (before after : List Given) (w : Text) (k : ℕ) → Stands given before w (PlainWord k) after → GoesTo ps (plains before) k
  -- an argument stands in its parameter's group, behind those given before it
  pub argument_in_group : (before after : List Given) (w : Text) (k : ℕ) → Stands given before w (PlainWord k) after → (more : List Text) × (texts_of ps n given k ≡ texts_of ps n before k ++ (w ∷ more))
  -- an argument given to a Singular parameter is its whole group, and so takes the place of a default
  pub argument_for_default : (before after : List Given) (w : Text) (k : ℕ) (p : ParameterMeaning) → Stands given before w (PlainWord k) after → At ps k p → is_variadic p.kind ≡ false → texts_of ps n given k ≡ w ∷ []
  -- a parameter without default that is neither flag nor Star may not be left out
  pub not_left_out : (k : ℕ) (p : ParameterMeaning) → At ps k p → p.default ≡ None → p.flag ≡ false → is_star p.kind ≡ false → 1 ≤ length (texts_of ps n given k)
  -- Plus without a default (and no flag) wants one or more
  pub plus_one_or_more : (k : ℕ) (p : ParameterMeaning) → At ps k p → p.kind ≡ Plus → p.default ≡ None → p.flag ≡ false → 1 ≤ length (texts_of ps n given k)
  -- a Plus or Star that has a plain word takes every further one
  pub variadic_takes_further : (before after earlier between : List Given) (u w : Text) (j k : ℕ) (p : ParameterMeaning) → Stands given before w (PlainWord k) after → Stands before earlier u (PlainWord j) between → At ps j p → is_variadic p.kind ≡ true → k ≡ j
  -- where a Plus or Star is no option, no word starts another order, whatever it names: the order ends with the line
  pub variadic_to_line_end : (k : ℕ) (p : ParameterMeaning) → At ps k p → is_option p ≡ false → is_variadic p.kind ≡ true → rest ≡ []

-- What may be left out, and how many values a Star takes:
pub record CountLaws : Type 0 where
  -- a parameter with a default may be left out: an empty group keeps its rules
  pub default_left_out : (judge : JudgeMeaning) (vs : List Value) (k : ℕ) (p : ParameterMeaning) → is_some p.default ≡ true → group k vs ≡ [] → Served vs k p × Sound judge vs k p
  -- where every parameter has a default, or is a flag or a Star, no words are a lawful order
  pub all_left_out : (ps : List ParameterMeaning) (judge : JudgeMeaning) (n : ℕ) → Each (λ _ p. may_be_empty p ≡ true) 0 ps → LawfulOrder ps judge n [] [] []
  -- a Star takes any number of values where no min, max or pattern forbids it
  pub star_any_number : (judge : JudgeMeaning) (vs : List Value) (k : ℕ) (p : ParameterMeaning) → p.kind ≡ Star → p.min ≡ None → p.max ≡ None → p.pattern ≡ None → Served vs k p × Sound judge vs k p

-- of every lawful order
pub record ArgumentsStand : Type 0 where
  pub orders : (ps : List ParameterMeaning) (judge : JudgeMeaning) (n : ℕ) (words : List Text) (given : List Given) (rest : List Text) → LawfulOrder ps judge n words given rest → ArgumentLaws ps n given rest
  pub counts : CountLaws
