-- The lines of a script.
use Rattle.std.specs.Prelude.{◌≡◌, ℕ, suc, ◌+◌, ◌-◌, ◌*◌, Bool, true, cond, ◌&&◌, List, [], ◌∷◌, ◌++◌, map, length, Some, None, codes, Option, MatchOption, ◌==◌, nat_le}
use Rattle.std.specs.Str.{bytes_eq}
use Rattle.script.specs.declared.call.Call.{Call}
use Rattle.script.specs.declared.call.Verb.{Verb}
use Rattle.script.specs.declared.call.Verb.TheVariants.{Words, WordsHex, Find, Recipe, Judge, Help}

-- blank, or a comment
abbrev pub skipped : List ℕ → Bool
skipped [] = true
skipped (b ∷ t) = b == 35

-- where the first space stands, or the length
abbrev pub first_space : List ℕ → ℕ
first_space [] = 0
first_space (b ∷ t) = cond (b == 32) 0 (suc (first_space t))

-- no space stands in the text
abbrev pub Spaceless : List ℕ → Type 0
Spaceless t = first_space t ≡ length t

-- a name without a space, and what stands behind the first space
pub record Parted (line : List ℕ) (call : Call) : Type 0 where
  pub whole : MatchOption call.rest (line ≡ call.name.now) (λ rest. line ≡ call.name.now ++ (32 ∷ rest.now))
  pub named : Spaceless call.name.now

abbrev pub verb_of : List ℕ → Option Verb
verb_of name =
    cond (bytes_eq name (codes "words")) (Some Words)
    (cond (bytes_eq name (codes "wordsx")) (Some WordsHex)
    (cond (bytes_eq name (codes "find")) (Some Find)
    (cond (bytes_eq name (codes "recipe")) (Some Recipe)
    (cond (bytes_eq name (codes "judge")) (Some Judge)
    (cond (bytes_eq name (codes "help")) (Some Help) None)))))

-- a space closes a word
abbrev pub typed_as : ℕ → ℕ
typed_as b = cond (b == 32) 0 b

-- nothing typed is the empty line; else each space closes a word, and so does the end
abbrev pub line_of : Option (List ℕ) → List ℕ
line_of None = []
line_of (Some text) = map typed_as text ++ 0 ∷ []

-- a decimal digit's value
abbrev pub digit_value : ℕ → Option ℕ
digit_value c = cond (nat_le 48 c && nat_le c 57) (Some (c - 48)) None

abbrev pub up_to : ℕ → ℕ → Option ℕ
up_to top n = cond (nat_le n top) (Some n) None

abbrev pub with_value : ℕ → Option ℕ → Option ℕ
with_value n None = None
with_value n (Some v) = up_to 65535 (n * 10 + v)

-- a number with one more digit behind it, up to 65,535
abbrev pub with_digit : ℕ → ℕ → Option ℕ
with_digit n c = with_value n (digit_value c)

abbrev pub digits_on : Option ℕ → List ℕ → Option ℕ
digits_on r [] = r
digits_on None (c ∷ t) = None
digits_on (Some n) (c ∷ t) = digits_on (with_digit n c) t

-- a decimal number up to 65,535, in digits alone
abbrev pub number_of : List ℕ → Option ℕ
number_of [] = None
number_of (c ∷ t) = digits_on (Some 0) (c ∷ t)
