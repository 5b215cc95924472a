-- What a register over checked tables carries in its type, and what it means.
use Rattle.std.proofs.Common.{◌≡◌, ℕ, ◌≤◌, List, [], map, length, Ok, Err, Result, sym, refl, ap, ◌∙◌, subst, arith, MatchResult}
use Rattle.std.proofs.lemmas.List.{length-take, length-map}
use Rattle.refusal.specs.declared.Refusal.{Refusal}
use Rattle.table.specs.Order.{Ascending}
use Rattle.tree.specs.Keys.{name_key, long_key, letter_key}
use Rattle.tree.specs.Rows.{module_at, name_at, recipe_at, pattern_at}
use Rattle.tree.specs.Tree.{Tree}
use Rattle.tree.specs.declared.rows.ModuleRow.{ModuleRow}
use Rattle.tree.specs.declared.rows.NameRow.{NameRow}
use Rattle.tree.specs.declared.rows.RecipeRow.{RecipeRow}
use Rattle.tree.specs.declared.rows.LongRow.{LongRow}
use Rattle.tree.specs.declared.rows.LetterRow.{LetterRow}
use Rattle.tree_register.specs.Derived.{Few, LongsRight, LongsTold, LettersRight, LettersTold}
use Rattle.image.specs.declared.tables.Sizes.{Sizes}
use Rattle.image.specs.declared.tables.Tables.{Tables}
use Rattle.image.specs.declared.load.Loaded.{Loaded}
use Rattle.image.specs.Checks.{Says, Checks}
use Rattle.image.specs.Image.{Lawful, Unlawful}
use Rattle.image.specs.Loads.{Loads, Means, no_tree}
use Rattle.image.specs.Tables.{modules_in, names_in, recipes_in, patterns_in, longs_in, letters_in, tree_in}
use Rattle.judges.proofs.Places.{judges_of_tree}
use Rattle.image.proofs.Bridge.{few_from, right_longs, told_longs, right_letters, told_letters}
use Rattle.image.proofs.Keeps.{names_ascend, rows_ascend}

pub record Facts (image : List ℕ) (modules : List ModuleRow) (names : List NameRow) (recipes : List RecipeRow) (longs : List LongRow) (letters : List LetterRow) : Type 0 where
  pub modules_fit : length modules ≤ 64
  pub names_fit : length names ≤ 512
  pub few : Few recipes
  pub names_up : Ascending (name_key image) names
  pub longs_up : Ascending (long_key image) longs
  pub letters_up : Ascending (letter_key image) letters
  pub longs_right : LongsRight image recipes longs
  pub longs_told : LongsTold image recipes longs
  pub letters_right : LettersRight image recipes letters
  pub letters_told : LettersTold image recipes letters

abbrev pub FactsIn : List ℕ → Tables → Type 0
FactsIn image t = Facts image (modules_in t) (names_in t) (recipes_in t) (longs_in t) (letters_in t)

facts_said : (image : List ℕ) (t : Tables) → Says image t → FactsIn image t
facts_said image t s =
    let m = s.modules_fit in
    let n = s.names_fit in
    record {
      modules_fit = omega (arith, length-take t.sizes.modules t.modules);
      names_fit = omega (arith, length-take t.sizes.names t.names);
      few = few_from (recipes_in t) s.tidy_recipes;
      names_up = rows_ascend image (names_in t) (names_ascend (tree_in image t) s.lawful.keeps);
      longs_up = s.longs.ascending;
      letters_up = s.letters.ascending;
      longs_right = right_longs image (recipes_in t) (longs_in t) s.longs;
      longs_told = told_longs image (recipes_in t) (longs_in t) s.longs;
      letters_right = right_letters image (recipes_in t) (letters_in t) s.letters;
      letters_told = told_letters image (recipes_in t) (letters_in t) s.letters;
    }

facts_none : (image : List ℕ) → Facts image [] [] [] [] []
facts_none image = record {
  modules_fit = omega arith;
  names_fit = omega arith;
  few = λ r d h. absurd (omega arith);
  names_up = λ i d h. absurd (omega arith);
  longs_up = λ i d h. absurd (omega arith);
  letters_up = λ i d h. absurd (omega arith);
  longs_right = λ i d h. absurd (omega arith);
  longs_told = λ r p. refl;
  letters_right = λ i d h. absurd (omega arith);
  letters_told = λ r p. refl;
}

pub facts_checked : (image : List ℕ) (answer : Result Sizes Refusal) (t : Tables) → Checks image answer t → FactsIn image t
facts_checked image (Ok sizes) t (e, s) = facts_said image t s
facts_checked image (Err refusal) t (u, e) = subst (FactsIn image) (sym e) (facts_none image)

-- a register and judges over the filled rows of tables
pub record Over (image : List ℕ) (t : Tables) (loaded : Loaded) : Type 0 where
  pub bytes : loaded.register.image.now ≡ image
  pub modules : loaded.register.modules.now ≡ modules_in t
  pub names : loaded.register.names.now ≡ names_in t
  pub recipes : loaded.register.recipes.now ≡ recipes_in t
  pub texts : loaded.texts.image.now ≡ image
  pub patterns : loaded.texts.patterns.now ≡ patterns_in t
  pub gauges : loaded.gauges.patterns.now ≡ loaded.texts.patterns.now

means_tree : (image : List ℕ) (t : Tables) (loaded : Loaded) → Over image t loaded → Means loaded (tree_in image t)
means_tree image t loaded o =
    let a = o.bytes in let b = o.modules in let d = o.names in let e = o.recipes in let f = o.texts in let g = o.patterns in
    record {
      names = cc;
      signatures = cc;
      judges = judges_of_tree loaded.texts.image.now loaded.texts.patterns.now (tree_in image t) (let k : map (pattern_at image) (patterns_in t) ≡ map (pattern_at loaded.texts.image.now) loaded.texts.patterns.now = cc in k);
      gauges = o.gauges;
    }

told_all : {Row A : Type 0} (told : Row → A) (rows : List Row) {n m : ℕ} → length rows ≡ n → m ≡ n → m ≡ length (map told rows)
told_all told rows e f = f ∙ sym e ∙ sym (length-map rows told)

pub loads_from : (image : List ℕ) (t : Tables) (loaded : Loaded) → Over image t loaded → Checks image loaded.answer t → Loads image loaded
loads_from image t loaded o c = at loaded.answer c
  where
    at : (answer : Result Sizes Refusal) → Checks image answer t → MatchResult answer (λ sizes. (u : Tree) × Lawful image u × Means loaded u × (sizes.modules ≡ length u.modules) × (sizes.names ≡ length u.names) × (sizes.recipes ≡ length u.recipes) × (sizes.patterns ≡ length u.patterns)) (λ refusal. Unlawful image refusal × Means loaded no_tree)
    at (Ok sizes) (e, s) = (
      tree_in image t,
      s.lawful,
      means_tree image t loaded o,
      told_all (module_at image) (modules_in t) s.counted.modules (ap (λ (z : Sizes). z.modules) e),
      told_all (name_at image) (names_in t) s.counted.names (ap (λ (z : Sizes). z.names) e),
      told_all (recipe_at image) (recipes_in t) s.counted.recipes (ap (λ (z : Sizes). z.recipes) e),
      told_all (pattern_at image) (patterns_in t) s.counted.patterns (ap (λ (z : Sizes). z.patterns) e),
    )
    at (Err refusal) (u, e) = (u, subst (λ x. Means loaded (tree_in image x)) e (means_tree image t loaded o))
