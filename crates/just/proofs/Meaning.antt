-- just's parameters and switches as the rules see them.
use Rattle.std.proofs.Common.{◌≡◌, ℕ, Bool, not, ◌&&◌, List, [], ◌∷◌, map, Some, None, Option, refl, ap}
use Rattle.register.specs.Meaning.{ParameterMeaning}
use Rattle.register.specs.declared.parameter.ParameterKind as meant
use Rattle.register.specs.declared.parameter.ParameterKind.TheVariants as kinds
use Rattle.reading.specs.Signature as rules
use Rattle.reading.specs.Switches as switches
use Rattle.just.specs.ParameterKind.{ParameterKind, is_variadic, is_star}
use Rattle.just.specs.ParameterKind.ParameterKind.{Plus, Singular, Star}
use Rattle.just.specs.Error.{Switch}
use Rattle.just.specs.Error.Switch.{Long, Short}
use Rattle.just.specs.Parameter.{Parameter, is_option, is_required, is_some_above_zero}
use Rattle.just.specs.Recipe.{count_where}

abbrev pub kind_means : ParameterKind → meant.ParameterKind
kind_means Plus = kinds.Plus
kind_means Singular = kinds.Singular
kind_means Star = kinds.Star

abbrev pub meaning : Parameter → ParameterMeaning
meaning p = record {
  default = p.default;
  flag = p.flag;
  multiple = p.multiple;
  value = p.value;
  kind = kind_means p.kind;
  long = p.long;
  letter = p.short;
  min = p.min;
  max = p.max;
  pattern = p.pattern;
}

abbrev pub switch_means : Switch → switches.Switch
switch_means (Long t) = switches.Switch.Long t
switch_means (Short c) = switches.Switch.Letter c

pub variadic_is : (k : ParameterKind) → rules.is_variadic (kind_means k) ≡ is_variadic k
variadic_is Plus = refl
variadic_is Singular = refl
variadic_is Star = refl

pub star_is : (k : ParameterKind) → rules.is_star (kind_means k) ≡ is_star k
star_is Plus = refl
star_is Singular = refl
star_is Star = refl

above_is : (o : Option ℕ) → rules.above_zero o ≡ is_some_above_zero o
above_is None = refl
above_is (Some n) = refl

pub required_is : (p : Parameter) → rules.required (meaning p) ≡ is_required p
required_is p = rw (star_is p.kind, above_is p.min)

pub counted_is : (f : ParameterMeaning → Bool) (g : Parameter → Bool) → ((p : Parameter) → f (meaning p) ≡ g p) → (ps : List Parameter) → rules.counted f (map meaning ps) ≡ count_where g ps
counted_is f g h [] = refl
counted_is f g h (p ∷ ps) = rw (h p, counted_is f g h ps)

pub required_count_lem : (ps : List Parameter) → rules.required_count (map meaning ps) ≡ count_where is_required ps
required_count_lem ps = counted_is rules.required is_required required_is ps

pub required_plain_lem : (ps : List Parameter) → rules.required_plain (map meaning ps) ≡ count_where (λ p. is_required p && not (is_option p)) ps
required_plain_lem ps = counted_is (λ p. rules.required p && not (rules.is_option p)) (λ p. is_required p && not (is_option p)) (λ p. ap (λ b. b && not (is_option p)) (required_is p)) ps
