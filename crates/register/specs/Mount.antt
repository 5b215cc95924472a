-- Mount: a given module becomes the root; a number that is no module alters nothing. Assumes nothing.
use Rattle.std.specs.Prelude.{ℕ, cond, nat_lt}
use Rattle.register.specs.Meaning.{NameMeaning}

abbrev pub mounted : ℕ → NameMeaning → NameMeaning
mounted m names = record {
  root = cond (nat_lt m names.modules) m names.root;
  modules = names.modules;
  find = names.find;
  default = names.default;
  has_recipes = names.has_recipes;
}
