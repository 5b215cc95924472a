use Rattle.std.proofs.Common.{◌≡◌, refl, rules}
use Rattle.std.proofs.lemmas.Bool.Decides.{Decides-at}
use Rattle.std.proofs.lemmas.List.Recursion.{or_is}
use Rattle.std.specs.Str.{bytes_eq}
use Rattle.text.specs.Spans.{text_at, texts_at}
use Rattle.judge.specs.Listed.{listed}
use Rattle.judge.proofs.Lists.{listed_decides}
use Rattle.judge.proofs.listed.is_listed.Goals as goal

pub returns : goal.returns
returns c =
    let bytes = c.args.bytes.now in let spans = c.args.spans.now in let t = c.args.text.now in
    let e : c.any.result ≡ listed (texts_at bytes spans) t =
    or_is (λ some. listed (texts_at bytes some) t) (λ span. bytes_eq (text_at bytes span) t) refl (λ _ _. refl) spans (record { start = 0; len = 0 }) _ (search rules) (search rules) in
    record { value = e; means = Decides-at _ _ e (listed_decides (texts_at bytes spans) t) }
