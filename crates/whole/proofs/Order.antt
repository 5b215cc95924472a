-- No key comes before or behind itself.
use Rattle.std.proofs.Common.{◌≡◌, Less, Greater, sym, ap, ◌∙◌, true≢false}
use Rattle.std.specs.Ordering.{is_lt, is_gt}
use Rattle.table.specs.Order.{Key, ranked}
use Rattle.table.proofs.Narrow.{ranked_itself}

pub not_below_itself : (a b : Key) → ranked a b ≡ Less → a ≡ b → ⊥
not_below_itself a b h e = true≢false (ap is_lt (sym h ∙ ap (λ w. ranked w b) e ∙ ranked_itself b))

pub not_above_itself : (a b : Key) → ranked a b ≡ Greater → a ≡ b → ⊥
not_above_itself a b h e = true≢false (ap is_gt (sym h ∙ ap (λ w. ranked w b) e ∙ ranked_itself b))
