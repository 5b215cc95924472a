use Rattle.std.specs.Prelude.{Result, Option, Some, None, Ok, Err, MatchOption}
use Rattle.std.proofs.Common.{◌≡◌, ℕ, List, map, ◌<◌, ◌≤◌, rules, tests, sym, subst, refl}
use Rattle.std.proofs.lemmas.Iterator.{first_from_Range}
use Rattle.refusal.specs.declared.Refusal.{Refusal}
use Rattle.refusal.specs.declared.Refusal.TheVariants.{ModuleNotNamedOnce}
use Rattle.tree.specs.Rows.{name_at}
use Rattle.tree.specs.Tree.{Name}
use Rattle.whole.specs.Modules.{NamedOnce, ModulesChecked}
use Rattle.whole.proofs.modules.check_modules.Goals as goal

told : (names : List Name) (modules : ℕ) (found : Option ℕ) (answer : Result (Unit {0}) Refusal)
    → MatchOption found ((k : ℕ) → 1 ≤ k → k < modules → NamedOnce names k) (λ m. (1 ≤ m) × (m < modules) × (NamedOnce names m → ⊥) × ((k : ℕ) → 1 ≤ k → k < m → NamedOnce names k))
    → MatchOption found (answer ≡ Ok tt) (λ m. answer ≡ Err (ModuleNotNamedOnce m)) → ModulesChecked names modules answer
told names modules None answer h e = subst (ModulesChecked names modules) (sym e) h
told names modules (Some m) answer h e = subst (ModulesChecked names modules) (sym e) (m, refl, record { above = h.0; within = h.1; before = h.3; fails = h.2 })

pub returns : goal.returns
returns c image =
    let names = map (name_at image) c.args.names.now in
    told names c.args.modules c.find.result _
    (first_from_Range _ _ _ _ (λ m. NamedOnce names m → ⊥) (λ m. NamedOnce names m) c.find.ensures.ran (λ x q k. search (rules, tests)) (λ x q k. (search rules, search (rules, tests))))
    (search rules)
