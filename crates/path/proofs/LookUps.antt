-- Steps of a look-up by each kind in turn, and of what it finds.
use Rattle.std.proofs.Common.{◌≡◌, ℕ, ◌+◌, ◌<◌, ◌⊎◌, true, get_or, IsTrue, MatchOption, IfSome, IsSomeAnd, option_map, Some, None, Option, sym, ap, ◌∙◌, subst, inl, inr, arith}
use Rattle.std.specs.Iterator.Runs.{Run, ItemsMapTo, AllItems, AllItemsBelow, AllItemsGive, IsFirstToGive, CallKeepsClosure}
use Rattle.std.specs.Fn.{Called}
use denote.Param.Members.{Mut}
use Rattle.text.specs.Identifier.{Text}
use Rattle.register.specs.Kinds.{kind_number}
use Rattle.register.specs.Meaning.{NameMeaning}
use Rattle.register.specs.declared.kind.Kind.{Kind}
use Rattle.register.specs.declared.kind.Kind.TheVariants.{Recipe, RecipeAlias}
use Rattle.path.specs.Path.{FirstFound, Nowhere, ToRecipe}
use Rattle.path.specs.Steps.{LooksUp}
use Rattle.path.specs.declared.found.Found.{Found}
use Rattle.path.proofs.Sequence.{kinds, kind_at, number_at, kind_small}

some_if : {A : Type 0} (P : A → Type 0) (o : Option A) → IsSomeAnd o P → IfSome o P
some_if P None h = absurd h
some_if P (Some x) h = h

module _ (names : NameMeaning) (at : ℕ) (name : Text) where
  module _ {S A : Type 0} {steps : S → Option A → S → Type 0} (p : Run steps) (v : A → Kind) (gives : ItemsMapTo p v kinds) (Miss : A → Type 0) (misses : (x : A) → Miss x → names.find at (v x) name ≡ None) where
    -- a kind whose item misses does not find the name
    passed : (kind : Kind) → kind_number kind < p.len → (o : Option A) → option_map v o ≡ Some (get_or kinds (kind_number kind) kind) → IfSome o Miss → names.find at kind name ≡ None
    passed kind h None e miss = cc
    passed kind h (Some x) e miss =
        let same : v x ≡ kind = cc (kind_at kind kind) in
        subst (λ k. names.find at k name ≡ None) same (misses x miss)

    -- all items miss
    pub all_missed : p.whole ≡ true → AllItems p Miss → Nowhere names at name
    all_missed whole miss kind =
        let h : kind_number kind < p.len = omega (arith, gives.1 whole, kind_small kind) in
        passed kind h (p.at (kind_number kind)) (gives.2 (kind_number kind) kind h) (miss (kind_number kind))

    -- the first that hits
    pub first_hit : (found : Found) (Hit : A → Type 0) → ((x : A) → Hit x → (names.find at (v x) name ≡ Some found.number) × (found.kind ≡ v x)) → (i : ℕ) → i < p.len → IsSomeAnd (p.at i) Hit → AllItemsBelow p i Miss → FirstFound names at name found.kind found.number
    first_hit found Hit hits i h hit miss = go (p.at i) (gives.2 i found.kind h) hit
      where
        earlier : (other : Kind) → kind_number other < i → names.find at other name ≡ None
        earlier other k =
            let l : kind_number other < p.len = omega arith in
            passed other l (p.at (kind_number other)) (gives.2 (kind_number other) other l) (some_if Miss (p.at (kind_number other)) (miss (kind_number other) k))

        go : (o : Option A) → option_map v o ≡ Some (get_or kinds i found.kind) → IsSomeAnd o Hit → FirstFound names at name found.kind found.number
        go None e y = absurd y
        go (Some x) e y =
            let is = hits x y in
            let place : kind_number found.kind ≡ i = ap kind_number (is.1 ∙ cc) ∙ number_at found.kind i (omega (arith, gives.0)) in
            record { found = subst (λ k. names.find at k name ≡ Some found.number) (sym is.1) is.0; before = λ other k. earlier other (omega arith) }

  pub of_kind : {kind other : Kind} {number : ℕ} → FirstFound names at name kind number → kind ≡ other → FirstFound names at name other number
  of_kind {number} f e = subst (λ k. FirstFound names at name k number) e f

  pub of_label : {kind other : Kind} {number label : ℕ} → FirstFound names at name kind number → kind ≡ other → label ≡ number → FirstFound names at name other label
  of_label {other} f e l = subst (FirstFound names at name other) (sym l) (of_kind f e)

  pub of_recipe : {kind : Kind} {number : ℕ} → FirstFound names at name kind number → (kind ≡ Recipe) ⊎ (kind ≡ RecipeAlias) → ToRecipe names at name number
  of_recipe f (inl e) = ToRecipe.by_name (of_kind f e)
  of_recipe f (inr e) = ToRecipe.by_alias (of_kind f e)

  -- what `find_map` over the kinds answers, where each call answers by one kind
  pub looks_up : {S A F : Type 0} {steps : S → Option A → S → Type 0} (g : Mut F (A × Unit {0}) (Option Found)) (f : F) (p : Run steps) (v : A → Kind) (r : Option Found) → ItemsMapTo p v kinds
      → MatchOption r (IsTrue p.whole × AllItemsGive p g f None) (λ y. (i : ℕ) × (i < p.len) × (p.len ≡ i + 1) × IsFirstToGive p g f (Some y) None i)
      → CallKeepsClosure g f
      → ((x : A) → Called g f (x, tt) None f → names.find at (v x) name ≡ None)
      → ((x : A) (y : Found) → Called g f (x, tt) (Some y) f → (names.find at (v x) name ≡ Some y.number) × (y.kind ≡ v x))
      → LooksUp names at name r
  looks_up g f p v None gives h keeps misses hits = all_missed p v gives (λ x. Called g f (x, tt) None f) misses h.0 (h.1 keeps)
  looks_up g f p v (Some y) gives h keeps misses hits =
      let first = h.3 keeps in
      first_hit p v gives (λ x. Called g f (x, tt) None f) misses y (λ x. Called g f (x, tt) (Some y) f) (λ x. hits x y) h.0 h.1 first.0 first.1
