-- Each module is reached by exactly one path. Assumes nothing.
use Rattle.std.proofs.Common.{◌≡◌, ℕ, zero, suc, ◌<◌, ◌⊎◌, List, [], ◌∷◌, ◌++◌, sym, refl, ap, ◌∙◌, subst, inl, inr, arith}
use Rattle.tree.specs.Tree.{Name}
use Rattle.whole.specs.Places.{Stands}
use Rattle.whole.specs.Modules.{Leads, NamedOnce, EachNamedOnce, Down, Path, OnePath, Rising, EachReached}
use Rattle.whole.proofs.Places.{stands_weaker, stands_both}

module _ (names : List Name) where
  -- one more row at the end
  path_push : (from mid to : ℕ) (path : List ℕ) (place : ℕ) → Path names from path mid → Stands (Down mid to) names place → Path names from (path ++ place ∷ []) to
  path_push from mid to [] place p s = (to, subst (λ a. Stands (Down a to) names place) (sym p) s, refl)
  path_push from mid to (q ∷ path) place p s = (p.0, p.1, path_push p.0 mid to path place p.2 s)

  -- a path is empty, or has a last row
  abbrev Last : ℕ → List ℕ → ℕ → Type 0
  Last from path to = (front : List ℕ) × (place : ℕ) × (mid : ℕ) × (path ≡ front ++ place ∷ []) × Path names from front mid × Stands (Down mid to) names place

  last_more : (from to place next : ℕ) (rest : List ℕ) → Stands (Down from next) names place → ((rest ≡ []) × (next ≡ to)) ⊎ Last next rest to → Last from (place ∷ rest) to
  last_more from to place next rest s (inl e) = ([], place, from, ap (λ r. place ∷ r) e.0, refl, subst (λ b. Stands (Down from b) names place) e.1 s)
  last_more from to place next rest s (inr l) = (place ∷ l.0, l.1, l.2, ap (λ r. place ∷ r) l.3, (next, s, l.4), l.5)

  path_last : (from to : ℕ) (path : List ℕ) → Path names from path to → ((path ≡ []) × (from ≡ to)) ⊎ Last from path to
  path_last from to [] p = inl (refl, p)
  path_last from to (place ∷ rest) p = inr (last_more from to place p.0 rest p.1 (path_last p.0 to rest p.2))

  leads_of : (from to place : ℕ) → Stands (Down from to) names place → Stands (Leads to) names place
  leads_of from to place s = stands_weaker (Down from to) (Leads to) (λ x d. d.leads) names place s

  same_from : (a b to place : ℕ) → Stands (Down a to) names place → Stands (Down b to) names place → a ≡ b
  same_from a b to place s t = stands_both (Down a to) (Down b to) (λ x d e. sym d.within ∙ e.within) names place s t

  module _ (modules : ℕ) (named : EachNamedOnce names modules) (rising : Rising names) where
    -- the root by the empty path
    root : OnePath names 0
    root = record { path = []; leads = refl; only = only }
      where
        end : (other : List ℕ) → ((other ≡ []) × (◌≡◌ {A = ℕ} 0 0)) ⊎ Last 0 other 0 → other ≡ []
        end other (inl e) = e.0
        end other (inr l) = absurd (omega (arith, rising l.1 l.2 0 l.5))

        only : (other : List ℕ) → Path names 0 other 0 → other ≡ []
        only other p = end other (path_last 0 0 other p)

    -- the row that names a module, with the module that it stands in
    parent : (to place : ℕ) → Stands (Leads to) names place → (from : ℕ) × Stands (Down from to) names place
    parent to place s = within names place s
      where
        within : (xs : List Name) (i : ℕ) → Stands (Leads to) xs i → (from : ℕ) × Stands (Down from to) xs i
        within [] i h = absurd h
        within (x ∷ xs) zero h = (x.within, record { within = refl; leads = h })
        within (x ∷ xs) (suc i) h = within xs i h

    one_below : (m : ℕ) → 0 < m → (one : NamedOnce names m) (from : ℕ) → Stands (Down from m) names one.place → OnePath names from → OnePath names m
    one_below m pos one from s up = record { path = up.path ++ one.place ∷ []; leads = path_push 0 from m up.path one.place up.leads s; only = only }
      where
        end : (other : List ℕ) → ((other ≡ []) × (0 ≡ m)) ⊎ Last 0 other m → other ≡ up.path ++ one.place ∷ []
        end other (inl e) = absurd (omega (arith, e.1))
        end other (inr l) =
            let here = one.only l.1 (leads_of l.2 m l.1 l.5) in
            let t = subst (Stands (Down l.2 m) names) here l.5 in
            let mid = same_from l.2 from m one.place t s in
            let front = up.only l.0 (subst (Path names 0 l.0) mid l.4) in
            l.3 ∙ (λ i. front i ++ here i ∷ [])

        only : (other : List ℕ) → Path names 0 other m → other ≡ up.path ++ one.place ∷ []
        only other p = end other (path_last 0 m other p)

    -- by the modules below a bound
    below : (bound m : ℕ) → m < bound → m < modules → OnePath names m
    below zero m h w = absurd (omega arith)
    below (suc bound) zero h w = root
    below (suc bound) (suc m) h w =
        let one = named (suc m) (omega arith) w in
        let up = parent (suc m) one.place one.there in
        let less = rising one.place up.0 (suc m) up.1 in
        one_below (suc m) (omega arith) one up.0 up.1 (below bound up.0 (omega arith) (omega arith))

pub each_reached : EachReached
each_reached names modules named rising m w = below names modules named rising (suc m) m (omega arith) w
