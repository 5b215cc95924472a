-- Texts among listed texts.
use Rattle.std.proofs.Common.{◌≡◌, List, Decides, refl}
use Rattle.std.proofs.lemmas.Slice.Eq.{bytes_eq-Decides}
use Rattle.std.proofs.lemmas.Bool.Decides.{Decides-by_or}
use Rattle.std.specs.List.{ContainsAt as Has}
use Rattle.std.specs.Str.{bytes_eq}
use Rattle.text.specs.Identifier.{Text}
use Rattle.judge.specs.Listed.{listed}

pub listed_decides : (texts : List Text) (text : Text) → Decides (listed texts text) (Has texts text)
listed_decides texts text =
    Decides-by_or (λ one. bytes_eq one text) (λ one. one ≡ text) (λ some. listed some text) (λ one. bytes_eq-Decides one text) refl (λ _ _. refl) texts
