-- What stands before a `map_err`. Assumes nothing.
use Rattle.std.proofs.Common.{◌≡◌, Ok, Err, Result, refl, subst}
use Rattle.std.specs.Result.{MatchResult, IsErrAnd}
use Rattle.std.proofs.lemmas.Result.{err_from_is_err_and}

pub mapped_ok : {T E D : Type 0} (r : Result T E) (q : Result T D) (P : E → D → Type 0) (v : T) → MatchResult r (λ x. q ≡ Ok x) (λ e. IsErrAnd q (P e)) → q ≡ Ok v → r ≡ Ok v
mapped_ok (Ok x) q P v m k = cc
mapped_ok (Err e) q P v m k = let p = err_from_is_err_and q m in cc

pub mapped_err : {T E D : Type 0} (r : Result T E) (q : Result T D) (P : E → D → Type 0) (d : D) → MatchResult r (λ x. q ≡ Ok x) (λ e. IsErrAnd q (P e)) → q ≡ Err d → (e : E) × (r ≡ Err e) × P e d
mapped_err (Ok x) q P d m k = cc
mapped_err {T = T} {E = E} {D = D} (Err e) q P d m k =
    let p = err_from_is_err_and q m in
    let same : p.0 ≡ d = cc in
    (e, refl, subst (P e) same p.2)
