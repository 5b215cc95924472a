-- The first space of a line.
use Rattle.std.proofs.Common.{◌≡◌, ℕ, suc, ◌+◌, ◌-◌, ◌<◌, ◌≤◌, eqb, ltb, cond, ◌==◌, position, Some, None, List, [], ◌∷◌, ◌++◌, length, get_or, take, drop, sym, refl, ap, ◌∙◌, subst, inl, inr, arith}
use Rattle.std.proofs.lemmas.List.{drop_more, take-append-drop, take_rest}
use Rattle.std.proofs.lemmas.List.Recursion.{is_position_or_len}
use Rattle.std.proofs.lemmas.Option.{none-some}
use Rattle.std.proofs.lemmas.Bool.{eqb-true, cases_Bool, ltb-true, ltb-false}
use Rattle.script.specs.Call.{first_space, Spaceless}

-- at the first space stands a space, and none before it

pub space_stands : (line : List ℕ) → first_space line < length line → get_or line (first_space line) 0 ≡ 32
space_stands [] h = absurd (omega arith)
space_stands (b ∷ t) h =
    elim (cases_Bool (eqb b 32)) [
      | inl e ↦ rw e (eqb-true b 32 e)
      | inr e ↦ rw e (space_stands t (let k : suc (first_space t) < suc (length t) = rw e at h in omega arith))
    ]

pub name_spaceless : (line : List ℕ) → Spaceless (take (first_space line) line)
name_spaceless [] = refl
name_spaceless (b ∷ t) =
    elim (cases_Bool (eqb b 32)) [
      | inl e ↦ rw e
      | inr e ↦ rw (e, e) (ap suc (name_spaceless t))
    ]

first_space_within : (line : List ℕ) → first_space line ≤ length line
first_space_within [] = omega arith
first_space_within (b ∷ t) =
    elim (cases_Bool (eqb b 32)) [
      | inl e ↦ rw e (omega arith)
      | inr e ↦ rw e (let k = first_space_within t in omega arith)
    ]

-- the first space is where the search for one ends
module _ (line : List ℕ) where
  found : position (λ b. b == 32) line ≡ cond (ltb (first_space line) (length line)) (Some (first_space line)) None
  found = ap (λ n. cond (ltb n (length line)) (Some n) None) (sym (is_position_or_len first_space (λ b. b == 32) refl (λ b t. ap (λ n. cond (b == 32) 0 n) (omega arith)) line))

  pub space_at : (at : ℕ) → position (λ b. b == 32) line ≡ Some at → (at ≡ first_space line) × (at < length line)
  space_at at e =
      elim (cases_Bool (ltb (first_space line) (length line))) [
        | inl h ↦ let k : Some (first_space line) ≡ Some at = rw h at (sym found ∙ e) in let j : first_space line ≡ at = cc in let l = ltb-true (first_space line) (length line) h in (sym j, omega arith)
        | inr h ↦ absurd (none-some at (rw h at (sym found ∙ e)))
      ]

  pub spaceless : position (λ b. b == 32) line ≡ None → Spaceless line
  spaceless e =
      elim (cases_Bool (ltb (first_space line) (length line))) [
        | inl h ↦ absurd (none-some (first_space line) (sym e ∙ found ∙ (rw h refl)))
        | inr h ↦ let l = ltb-false (first_space line) (length line) h in let m = first_space_within line in omega arith
      ]

-- a line parted at its first space
module _ (line : List ℕ) (at : ℕ) (first : (at ≡ first_space line) × (at < length line)) where
  pub parted_whole : line ≡ take at line ++ (32 ∷ take (length line - (at + 1)) (drop (at + 1) line))
  parted_whole =
      let space : get_or line at 0 ≡ 32 = ap (λ n. get_or line n 0) first.0 ∙ space_stands line (rw (sym first.0) first.1) in
      sym (take-append-drop at line)
      ∙ ap (λ l. take at line ++ l) (drop_more line at 0 first.1 ∙ ap (λ b. b ∷ drop (at + 1) line) space ∙ ap (λ l. 32 ∷ l) (sym (take_rest line (at + 1))))

  pub parted_name : Spaceless (take at line)
  parted_name = subst (λ n. Spaceless (take n line)) (sym first.0) (name_spaceless line)
