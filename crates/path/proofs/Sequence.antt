-- The kinds in the sequence of their numbers.
use Rattle.std.proofs.Common.{◌≡◌, ℕ, ◌+◌, ◌<◌, List, [], ◌∷◌, get_or, sym, refl, ap, ◌∙◌, subst, ⊎_elim, arith, lit<, below_none, below_more}
use Rattle.std.proofs.lemmas.Bool.{cases_eq}
use Rattle.register.specs.Kinds.{kind_number}
use Rattle.register.specs.declared.kind.Kind.{Kind}
use Rattle.register.specs.declared.kind.Kind.TheVariants.{Module, ModuleAlias, Recipe, RecipeAlias, DisabledRecipe, DisabledAlias, AbsentModule}

abbrev pub kinds : List Kind
kinds = Module ∷ ModuleAlias ∷ Recipe ∷ RecipeAlias ∷ DisabledRecipe ∷ DisabledAlias ∷ AbsentModule ∷ []

-- a kind stands at the place of its number
pub kind_at : (k d : Kind) → get_or kinds (kind_number k) d ≡ k
kind_at Module d = refl
kind_at ModuleAlias d = refl
kind_at Recipe d = refl
kind_at RecipeAlias d = refl
kind_at DisabledRecipe d = refl
kind_at DisabledAlias d = refl
kind_at AbsentModule d = refl

-- the kind at a place has it for a number
pub number_at : (d : Kind) (i : ℕ) → i < 7 → kind_number (get_or kinds i d) ≡ i
number_at d =
    let P : ℕ → Type 0 = λ i. kind_number (get_or kinds i d) ≡ i in
    below_more P 6 (below_more P 5 (below_more P 4 (below_more P 3 (below_more P 2 (below_more P 1 (below_more P 0 (below_none P) refl) refl) refl) refl) refl) refl) refl

pub kind_small : (k : Kind) → kind_number k < 7
kind_small Module = lit< tt
kind_small ModuleAlias = lit< tt
kind_small Recipe = lit< tt
kind_small RecipeAlias = lit< tt
kind_small DisabledRecipe = lit< tt
kind_small DisabledAlias = lit< tt
kind_small AbsentModule = lit< tt

same_kind : (j k : Kind) → kind_number j ≡ kind_number k → j ≡ k
same_kind j k e = sym (kind_at j j) ∙ ap (λ i. get_or kinds i j) e ∙ kind_at k j

-- what holds of every kind with a number below this
abbrev pub Below : (Kind → Type 0) → ℕ → Type 0
Below P i = (k : Kind) → kind_number k < i → P k

pub below_next : (P : Kind → Type 0) (k : Kind) → Below P (kind_number k) → P k → Below P (kind_number k + 1)
below_next P k past here j h =
    ⊎_elim
    (λ e. subst P (sym (same_kind j k e)) here)
    (λ e. past j (omega arith))
    (cases_eq (kind_number j) (kind_number k))
