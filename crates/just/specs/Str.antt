-- What just asks of a `str`, on the bytes of the text. In this crate a name in backquotes is that of the Rust. Assumes nothing.
use Rattle.std.specs.Prelude.{ℕ, Bool, true, false, cond, ◌&&◌, ◌||◌, List, [], ◌∷◌, ◌++◌, is_some, Some, None, Option, ◌==◌}
use Rattle.std.specs.Option.{option_map}
use Rattle.std.specs.Str.{bytes_eq}
use Rattle.std.specs.Str.{continuation_len, lead_bits, chars_after}
use Rattle.text.specs.Identifier.{Text}

-- `is_empty`
abbrev pub is_empty : Text → Bool
is_empty [] = true
is_empty (b ∷ t) = false

-- `chars`: the code points of UTF-8 bytes
abbrev pub chars : Text → List ℕ
chars [] = []
chars (b ∷ t) = chars_after (continuation_len b) (lead_bits b) t

-- `strip_prefix`
abbrev pub strip_prefix : Text → Text → Option Text
strip_prefix [] t = Some t
strip_prefix (p ∷ ps) [] = None
strip_prefix (p ∷ ps) (b ∷ t) = cond (b == p) (strip_prefix ps t) None

-- `starts_with`
abbrev pub starts_with : Text → Text → Bool
starts_with p t = is_some (strip_prefix p t)

-- `strip_suffix`
abbrev pub strip_suffix : Text → Text → Option Text
strip_suffix s [] = cond (bytes_eq [] s) (Some []) None
strip_suffix s (b ∷ t) = cond (bytes_eq (b ∷ t) s) (Some []) (option_map (λ (u : Text). b ∷ u) (strip_suffix s t))

-- `ends_with`
abbrev pub ends_with : Text → Text → Bool
ends_with s t = is_some (strip_suffix s t)

-- `contains`
abbrev pub contains : Text → Text → Bool
contains n [] = starts_with n []
contains n (b ∷ t) = starts_with n (b ∷ t) || contains n t

-- the two parts of a text at one place
pub record Halves : Type 0 where
  pub left : Text
  pub right : Text

-- `split_once` at an ASCII character
abbrev pub split_once : ℕ → Text → Option Halves
split_once c [] = None
split_once c (b ∷ t) = cond (b == c) (Some (record { left = []; right = t })) (option_map (λ (h : Halves). record { left = b ∷ h.left; right = h.right }) (split_once c t))

-- a byte put before the first part
abbrev pub prepend : ℕ → List Text → List Text
prepend b [] = (b ∷ []) ∷ []
prepend b (p ∷ ps) = (b ∷ p) ∷ ps

-- `split("::")`, from the left
abbrev pub split_colons : Text → List Text
split_colons [] = [] ∷ []
split_colons (b ∷ []) = (b ∷ []) ∷ []
split_colons (b ∷ c ∷ t) = cond (b == 58 && c == 58) ([] ∷ split_colons t) (prepend b (split_colons (c ∷ t)))

-- `join`
abbrev pub join : Text → List Text → Text
join s [] = []
join s (p ∷ []) = p
join s (p ∷ q ∷ ps) = p ++ (s ++ join s (q ∷ ps))
