-- What follows from the rules of paths.
use Rattle.std.proofs.Common.{◌≡◌, ℕ, ◌+◌, ◌<◌, ◌≤◌, Bool, true, false, List, [], ◌∷◌, length, is_ok, IfOk, Some, None, Ok, Err, Continue, Break, ControlFlow, Option, Result, sym, refl, ap, ◌∙◌, subst, arith}
use Rattle.std.proofs.lemmas.List.{length-append, length-map}
use Rattle.std.proofs.lemmas.Bool.{and_parts, true≢false, false≢true}
use Rattle.refusal.specs.declared.Refusal.{Refusal}
use Rattle.refusal.specs.declared.Refusal.TheVariants.{UnknownRecipe, UnknownSubmodule, NoRecipes}
use Rattle.text.specs.Identifier.{Text, identifier}
use Rattle.text.specs.Pieces.{has_colon, Pieces, split, identifiers}
use Rattle.text.specs.Spans.{text_at, texts_at}
use Rattle.text.specs.declared.span.Span.{Span}
use Rattle.text.proofs.Joins.{pieces_is, identifier_bare}
use Rattle.register.specs.Meaning.{NameMeaning}
use Rattle.path.specs.declared.path.Path.{Path}
use Rattle.path.specs.Path.{Modulepath, words_of, followed_by, Leads, Lacks, Stops, Reaches, Resolves, Strays, Meant, Gives, LawfulPath, PathFault, PathAnswer}
use Rattle.path.specs.Laws.{Takes, Empty, PathLaws}
use Rattle.path.specs.Steps.{StepsTo, of_words, of_pieces}
use Rattle.path.proofs.Model.{step_of, home_by, after, walk}
use Rattle.path.proofs.Names.{module_is, recipe_is, step_does}
use Rattle.path.proofs.Walks.{resolves_is}
use Rattle.path.proofs.Along.{alone}
use Rattle.path.proofs.Theorem.{meant_is}

-- how many names a path uses
resolves_count : (names : NameMeaning) (path : Modulepath) {found : Path} → Resolves names path found → (n : ℕ) × (found.words ≡ words_of path n) × (n ≤ length path.components) × (0 < length path.components → 0 < n)
resolves_count names path (Resolves.at_recipe {front} {rest} {name} h none r) =
    let e : length path.components ≡ length front + length (name ∷ rest) = ap length h.cut ∙ length-append front (name ∷ rest) in
    (length front + 1, refl, omega arith, λ _. omega arith)
resolves_count names path (Resolves.at_default l d) = (length path.components, refl, omega arith, λ h. h)

gives_count : {words : List Text} {path : Modulepath} → Gives words path → (n : ℕ) → n ≤ length path.components → (0 < length path.components → 0 < n) → (words_of path n ≤ length words) × (0 < length words → 0 < words_of path n)
gives_count Gives.no_words n h k = (h, k)
gives_count (Gives.each_word c) n h k = (h, k)
gives_count (Gives.one_word c m p) n h k = (omega arith, λ _. omega arith)

pub lawful_takes : (names : NameMeaning) (words : List Text) (found : Path) → LawfulPath names words found → Takes (length words) found
lawful_takes names words found h =
    let r = resolves_count names h.path h.resolves in
    let g = gives_count h.gives r.0 r.2 r.3 in
    record { most = subst (λ w. w ≤ length words) (sym r.1) g.0; least = λ k. subst (λ w. 0 < w) (sym r.1) (g.1 k) }

pub answer_takes : (names : NameMeaning) (bytes : List ℕ) (words : List Span) (answer : Result Path Refusal) → PathAnswer names (texts_at bytes words) answer → IfOk answer (λ found. Takes (length words) found)
answer_takes names bytes words (Ok found) h = subst (λ n. Takes n found) (length-map words (text_at bytes)) (lawful_takes names (texts_at bytes words) found h)
answer_takes names bytes words (Err refusal) h = tt

-- a default

default_count : (names : NameMeaning) (path : Modulepath) {found : Path} → Resolves names path found → found.default ≡ true → found.words ≡ words_of path (length path.components)
default_count names path (Resolves.at_recipe h none r) e = absurd (false≢true e)
default_count names path (Resolves.at_default l d) e = refl

spaced_count : {word : Text} {rest : List Text} {path : Modulepath} → Gives (word ∷ rest) path → has_colon word ≡ false → words_of path (length path.components) ≡ length (word ∷ rest)
spaced_count (Gives.each_word c) e = refl
spaced_count (Gives.one_word c m p) e = absurd (true≢false (sym c ∙ e))

-- pieces and words

one_path : {word text' : Text} {rest pieces : List Text} {path : Modulepath} → Gives (word ∷ rest) path → has_colon word ≡ true → Meant word rest text' → Pieces text' pieces → path ≡ of_pieces pieces
one_path (Gives.each_word c) e m' p' = absurd (true≢false (sym e ∙ c))
one_path (Gives.one_word c m p) e m' p' = ap of_pieces (sym (pieces_is p) ∙ ap split (sym (meant_is m) ∙ meant_is m') ∙ pieces_is p')

each_path : {word : Text} {rest : List Text} {path : Modulepath} → Gives (word ∷ rest) path → has_colon word ≡ false → path ≡ of_words (word ∷ rest)
each_path (Gives.each_word c) e = refl
each_path (Gives.one_word c m p) e = absurd (true≢false (sym c ∙ e))

first_bare : (piece : Text) (pieces : List Text) → identifiers (piece ∷ pieces) ≡ true → has_colon piece ≡ false
first_bare piece [] e = identifier_bare piece e
first_bare piece (next ∷ pieces) e = identifier_bare piece (and_parts (identifier piece) (identifiers (next ∷ pieces)) e).0

named_path : (pieces : List Text) {path : Modulepath} → identifiers pieces ≡ true → Gives pieces path → path ≡ of_words pieces
named_path [] e g = absurd (false≢true e)
named_path (piece ∷ pieces) e g = each_path g (first_bare piece pieces e)

abbrev Alike : Path → Path → Type 0
Alike one each = (one.recipe ≡ each.recipe) × (one.default ≡ each.default)

module _ (names : NameMeaning) (one each : Path) where
  alike_from : (a b : Path) → ◌≡◌ {A = Result Path Refusal} (Ok a) (Ok one) → ◌≡◌ {A = Result Path Refusal} (Ok b) (Ok each) → Alike a b → Alike one each
  alike_from a b e k h = let x : a ≡ one = cc in let y : b ≡ each = cc in subst (λ p. Alike p each) x (subst (Alike a) y h)

  home_alike : (o : Option ℕ) (b : Bool) (m n : ℕ) → home_by o b m ≡ Ok one → home_by o b n ≡ Ok each → Alike one each
  home_alike (Some r) b m n e k = alike_from (record { recipe = r; words = m; default = true }) (record { recipe = r; words = n; default = true }) e k (refl, refl)
  home_alike None b m n e k = absurd (false≢true (ap is_ok e))

  module _ (pieces words : List Text) where
    -- one name, and what the rest of the walk gives
    name_alike : (name : Text) (rest : List Text) (at used count : ℕ) (s : Result (ControlFlow ℕ ℕ) Refusal) → StepsTo names at name (followed_by (of_pieces pieces) rest) 0 s → after s 1 (λ m. walk names (of_pieces pieces) m (used + 1) rest) ≡ Ok one → walk names (of_words words) at count (name ∷ rest) ≡ Ok each →
        ((m : ℕ) → walk names (of_pieces pieces) m (used + 1) rest ≡ Ok one → walk names (of_words words) m (count + 1) rest ≡ Ok each → Alike one each) → Alike one each
    name_alike name rest at used count (Ok (Continue m)) why e k go = go m e (rw (module_is names at name (followed_by (of_words words) rest) count why) at k)
    name_alike name rest at used count (Ok (Break n)) why e k go =
        alike_from (record { recipe = n; words = 1; default = false }) (record { recipe = n; words = count + 1; default = false }) e
        (rw (recipe_is names at name (followed_by (of_words words) rest) count (alone words rest) why.1) at k) (refl, refl)
    name_alike name rest at used count (Err x) why e k go = absurd (false≢true (ap is_ok e))

    walk_alike : (rest : List Text) (at used count : ℕ) → walk names (of_pieces pieces) at used rest ≡ Ok one → walk names (of_words words) at count rest ≡ Ok each → Alike one each
    walk_alike [] at used count e k = home_alike (names.default at) (names.has_recipes at) 1 count e k
    walk_alike (name ∷ rest) at used count e k =
        name_alike name rest at used count (step_of names at name (followed_by (of_pieces pieces) rest) 0) (step_does names at name (followed_by (of_pieces pieces) rest) 0) e k
        (λ m. walk_alike rest m (used + 1) (count + 1))

pieces_alike : (names : NameMeaning) (word : Text) (rest : List Text) (text : Text) (pieces : List Text) (one each : Path) → has_colon word ≡ true → Meant word rest text → Pieces text pieces → LawfulPath names (word ∷ rest) one → LawfulPath names pieces each → Alike one each
pieces_alike names word rest text pieces one each c m p h k =
    walk_alike names one each pieces pieces pieces names.root 0 0
    (resolves_is names (of_pieces pieces) (subst (λ q. Resolves names q one) (one_path h.gives c m p) h.resolves))
    (resolves_is names (of_words pieces) (subst (λ q. Resolves names q each) (named_path pieces p.named k.gives) k.resolves))

-- an empty root

module _ (names : NameMeaning) (none : Empty names) where
  empty_line : PathFault names [] (NoRecipes 0)
  empty_line = PathFault.strays Gives.no_words (Strays.at_end Leads.here (Lacks.recipes none.defaultless none.recipeless))

  empty_word : (word : Text) (rest : List Text) → has_colon word ≡ false → PathFault names (word ∷ rest) (UnknownRecipe 0)
  empty_word word rest c =
      let reach : Reaches names (of_words (word ∷ rest)) [] names.root word rest = record { cut = refl; lead = Leads.here } in
      PathFault.strays (Gives.each_word c) (Strays.at_name reach (Stops.unknown_recipe (alone (word ∷ rest) rest) (none.nowhere word)))

  empty_pieces : (word : Text) (rest : List Text) (text first second : Text) (more : List Text) → has_colon word ≡ true → Meant word rest text → Pieces text (first ∷ second ∷ more) → PathFault names (word ∷ rest) (UnknownSubmodule 0)
  empty_pieces word rest text first second more c m p =
      let reach : Reaches names (of_pieces (first ∷ second ∷ more)) [] names.root first (second ∷ more) = record { cut = refl; lead = Leads.here } in
      PathFault.strays (Gives.one_word c m p) (Strays.at_name reach (Stops.unknown_submodule refl (none.nowhere first)))

pub path_laws : PathLaws
path_laws = record {
  takes = lawful_takes;
  no_words = λ names recipe e. record { path = of_words []; gives = Gives.no_words; resolves = Resolves.at_default Leads.here e };
  default_last = λ names word rest found c h e. default_count names h.path h.resolves e ∙ spaced_count h.gives c;
  pieces_or_words = pieces_alike;
  empty_line = empty_line;
  empty_word = empty_word;
  empty_pieces = empty_pieces;
}
