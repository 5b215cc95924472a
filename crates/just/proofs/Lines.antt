-- The line, invocation by invocation, by just and by the model.
use Rattle.std.proofs.Common.{◌≡◌, ℕ, zero, suc, ◌+◌, ◌-◌, ◌<◌, ◌≤◌, Bool, true, false, cond, ◌&&◌, eqb, ltb, List, [], ◌∷◌, map, length, drop, Ok, Err, Option, Result, sym, refl, ap, ◌∙◌, subst, arith, length-drop}
use Rattle.std.specs.List.{AllByRecursion}
use Rattle.std.proofs.lemmas.List.{drop-drop}
use Rattle.std.proofs.lemmas.Bool.{eq-eqb, ne_eqb}
use Rattle.refusal.specs.declared.Refusal.{Refusal}
use Rattle.refusal.specs.declared.Refusal.TheVariants as refusal
use Rattle.refusal.specs.Shift.{shifted_by}
use Rattle.text.specs.Identifier.{Text}
use Rattle.text.proofs.Splits.{either_way}
use Rattle.judge.specs.Meaning.{JudgeMeaning}
use Rattle.tree.specs.Tree.{Tree}
use Rattle.register.specs.Meaning.{ParameterMeaning}
use Rattle.register.specs.Parameters.{Apart}
use Rattle.tree_register.specs.Names.{tree_names}
use Rattle.tree_register.specs.Signatures.{tree_signatures}
use Rattle.path.specs.Path.{PathAnswer}
use Rattle.path.specs.Laws.{Takes}
use Rattle.path.specs.declared.path.Path.{Path}
use Rattle.path.proofs.Model.{path_of}
use Rattle.path.proofs.Theorem.{answer_does}
use Rattle.path.proofs.Follows.{lawful_takes}
use Rattle.reading.specs.Signature.{required_count}
use Rattle.reading.specs.Reading as rules
use Rattle.reading.specs.Reading.{group}
use Rattle.reading.specs.Line.{Order, Reading, shifted_value, groups_from}
use Rattle.reading.specs.Model.{State, Ordered, read_order, told_order, told_roles, onto, order_then, walked, lines}
use Rattle.reading.specs.Model.Ordered.{Took, Refuses}
use Rattle.reading.specs.declared.role.Role.{Role}
use Rattle.just.specs.Error.{Error}
use Rattle.just.specs.Results.{and_then}
use Rattle.just.specs.Value.{Element}
use Rattle.just.specs.Parameter.{Parameter}
use Rattle.just.specs.InvocationParser.{Resolved, Loop, Invocation, recipe_of, parse_arguments, push_invocation, parse_from, parse_invocations}
use Rattle.just.specs.FromTree.{recipe_at, justfiles_of}
use Rattle.just.specs.Outcome.{Telling, of_invocation, of_order, of_just, of_reading}
use Rattle.just.proofs.Meaning.{meaning}
use Rattle.just.proofs.Groups.{element_of, groups_of}
use Rattle.just.proofs.Spelling.{Spelt}
use Rattle.just.proofs.Tables.{Good, recipe_means}
use Rattle.just.proofs.Loop.{nth_cons}
use Rattle.just.proofs.Orders.{Orders, order_does}
use Rattle.just.proofs.Recipes.{Pieced, Comes, Picks, recipe_does}

-- what the proofs ask of a word
pub record Readable (w : Text) : Type 0 where
  pub spelt : Spelt w
  pub pieced : Pieced w

all_spelt : (ws : List Text) → AllByRecursion Readable ws → AllByRecursion Spelt ws
all_spelt [] h = tt
all_spelt (w ∷ ws) h = (h.0.spelt, all_spelt ws h.1)

pub all_drop : {X : Type 0} (P : X → Type 0) (n : ℕ) (xs : List X) → AllByRecursion P xs → AllByRecursion P (drop n xs)
all_drop P zero xs h = h
all_drop P (suc n) [] h = tt
all_drop P (suc n) (x ∷ xs) h = all_drop P n xs h.1

-- Groups.

group_shifted : (first k : ℕ) (vs : List rules.Value) → group k (map (shifted_value first) vs) ≡ map (shifted_value first) (group k vs)
group_shifted first k [] = refl
group_shifted first k (v ∷ vs) = rw (group_shifted first k vs) (either_way (eqb k v.parameter) (λ e. rw e) (λ e. rw e))

texts_same : (first : ℕ) (g : List rules.Value) → map (λ (e : Element). e.text) (map element_of g) ≡ map (λ (v : rules.Value). v.text) (map (shifted_value first) g)
texts_same first [] = refl
texts_same first (v ∷ g) = ap (λ (ts : List Text). v.text ∷ ts) (texts_same first g)

groups_same : (first k : ℕ) (ps : List Parameter) (vs : List rules.Value) → map (map (λ (e : Element). e.text)) (groups_of k ps vs) ≡ map (map (λ (v : rules.Value). v.text)) (groups_from k (map meaning ps) (map (shifted_value first) vs))
groups_same first k [] vs = refl
groups_same first k (p ∷ ps) vs =
    rw (group_shifted first k vs, texts_same first (group k vs), groups_same first (suc k) ps vs)

-- One more order.

abbrev add : Telling → Result (List Telling) (Option Refusal) → Result (List Telling) (Option Refusal)
add x (Ok xs) = Ok (x ∷ xs)
add x (Err f) = Err f

push_told : (v : Invocation) (r : Result (List Invocation) Error) → of_just (push_invocation v r) ≡ add (of_invocation v) (of_just r)
push_told v (Ok vs) = refl
push_told v (Err e) = refl

onto_told : (o : Order) (rs : List Role) (r : Result Reading Refusal) → of_reading (onto o rs r) ≡ add (of_order o) (of_reading r)
onto_told o rs (Ok r) = refl
onto_told o rs (Err f) = refl

module _ (t : Tree) (good : Good t) (judge : JudgeMeaning) (arguments : List Text) where
  abbrev model : ℕ → ℕ → List Text → Result Reading Refusal
  model fuel next ws = lines (path_of (tree_names t)) (tree_signatures t) judge fuel next ws

  abbrev just : ℕ → ℕ → Result (List Invocation) Error
  just fuel next = parse_from judge (justfiles_of t) arguments fuel next

  abbrev Alike : ℕ → Type 0
  Alike fuel = (next : ℕ) (ws : List Text) → drop next arguments ≡ ws → next ≤ length arguments → AllByRecursion Readable ws → length ws < fuel → of_just (just fuel next) ≡ of_reading (model fuel next ws)

  -- what is done with an invocation
  abbrev goes : ℕ → Result Invocation Error → Result (List Invocation) Error
  goes fuel r =
      and_then r λ invocation.
      push_invocation invocation
      (elim (eqb invocation.next (length arguments)) [ true ↦ Ok [] | false ↦ just fuel invocation.next ])

  module _ (fuel : ℕ) (on : Alike fuel) (next : ℕ) (ws : List Text) (here : drop next arguments ≡ ws) (fits : next ≤ length arguments) (readable : AllByRecursion Readable ws) (enough : length ws < suc fuel) (p : Path) (takes : Takes (length ws) p) where
    abbrev found : Resolved
    found = record { recipe = recipe_at t p.recipe; consumed = p.words }

    abbrev rest : List Text
    rest = drop (next + p.words) arguments

    abbrev ps : List Parameter
    ps = (recipe_at t p.recipe).parameters

    abbrev made : Loop → Result Invocation Error
    made l = Ok (record { recipe = found.recipe; arguments = l.arguments; first = next; next = (next + p.words) + l.i })

    rest-is : drop p.words ws ≡ rest
    rest-is = ap (drop p.words) (sym here) ∙ drop-drop p.words next arguments

    long : length ws ≡ length arguments - next
    long = ap length (sym here) ∙ length-drop next arguments

    inside : next + p.words ≤ length arguments
    inside = let a = long in let b = takes.most in omega arith

    -- an order that is taken
    module _ (st : State) (l : Loop) (arguments-are : l.arguments ≡ groups_of 0 ps st.values) (words : st.words ≡ p.words + l.i) (low : l.i ≤ length rest) where
      abbrev invocation : Invocation
      invocation = record { recipe = found.recipe; arguments = l.arguments; first = next; next = (next + p.words) + l.i }

      told : of_invocation invocation ≡ of_order (told_order (map meaning ps) next p.recipe st)
      told =
          let n : (next + p.words) + l.i ≡ next + st.words = omega arith in
          rw (n, arguments-are, groups_same next 0 ps st.values)

      size : length rest ≡ length arguments - (next + p.words)
      size = length-drop (next + p.words) arguments

      taken : (xs : List Text) → drop l.i rest ≡ xs → of_just (push_invocation invocation (elim (eqb invocation.next (length arguments)) [ true ↦ Ok [] | false ↦ just fuel invocation.next ])) ≡ of_reading (order_then (model fuel) (map meaning ps) next p.recipe p.words (Took st xs))
      taken [] e =
          let a = ap length e in
          let b = length-drop l.i rest in
          let s = size in
          let k = inside in
          let n : (next + p.words) + l.i ≡ length arguments = omega arith in
          rw (eq-eqb ((next + p.words) + l.i) (length arguments) n) (ap (λ (x : Telling). Ok (x ∷ [])) told)
      taken (x ∷ xs) e =
          let b = (nth_cons rest l.i x xs e).2 in
          let s = size in
          let k = inside in
          let less : (next + p.words) + l.i ≤ length arguments = omega arith in
          let there : drop ((next + p.words) + l.i) arguments ≡ x ∷ xs = sym (drop-drop l.i (next + p.words) arguments) ∙ e in
          let same : (next + p.words) + l.i ≡ next + st.words = omega arith in
          let left : AllByRecursion Readable (x ∷ xs) = subst (AllByRecursion Readable) (ap (drop l.i) rest-is ∙ e) (all_drop Readable l.i (drop p.words ws) (all_drop Readable p.words ws readable)) in
          let o : Order = told_order (map meaning ps) next p.recipe st in
          let some : 0 < length ws = let a = long in omega arith in
          let one = takes.least some in
          let fewer : length (x ∷ xs) < fuel = let a = long in let c = length-drop ((next + p.words) + l.i) arguments in let d = ap length there in omega arith in
          rw (ne_eqb ((next + p.words) + l.i) (length arguments) (λ h. omega arith))
          (push_told invocation (just fuel ((next + p.words) + l.i))
          ∙ ap (add (of_invocation invocation)) (on ((next + p.words) + l.i) (x ∷ xs) there less left fewer ∙ ap (λ (n : ℕ). of_reading (model fuel n (x ∷ xs))) same)
          ∙ ap (λ (y : Telling). add y (of_reading (model fuel (next + st.words) (x ∷ xs)))) told
          ∙ sym (onto_told o (told_roles p.words st) (model fuel (next + st.words) (x ∷ xs))))

    ordered : (o : Ordered) (r : Result Loop Error) → Orders judge next found rest o r → of_just (goes fuel (and_then r made)) ≡ of_reading (order_then (model fuel) (map meaning ps) next p.recipe p.words o)
    ordered (Refuses f) r h = rw h.is (ap (λ (x : Option Refusal). Err x) h.number)
    ordered (Took st xs) r h = rw h.is (taken st h.loop! h.arguments h.words h.fits xs h.left)

    order_told_here : of_just (goes fuel (and_then (parse_arguments judge next found rest) made)) ≡ of_reading (order_then (model fuel) ((tree_signatures t).parameters p.recipe) next p.recipe p.words (read_order ((tree_signatures t).parameters p.recipe) judge p.words (drop p.words ws)))
    order_told_here =
        let apart : Apart (map meaning ps) = subst Apart (recipe_means t p.recipe) (good.apart p.recipe) in
        let spelt : AllByRecursion Spelt rest = all_spelt rest (subst (AllByRecursion Readable) rest-is (all_drop Readable p.words ws readable)) in
        ordered (read_order (map meaning ps) judge p.words rest) (parse_arguments judge next found rest) (order_does judge next found rest apart spelt)
        ∙ ap (λ (ms : List ParameterMeaning). of_reading (order_then (model fuel) ms next p.recipe p.words (read_order ms judge p.words rest))) (sym (recipe_means t p.recipe))
        ∙ ap (λ (xs : List Text). of_reading (order_then (model fuel) ((tree_signatures t).parameters p.recipe) next p.recipe p.words (read_order ((tree_signatures t).parameters p.recipe) judge p.words xs))) (sym rest-is)

    abbrev parsed : Result Resolved Error → Result Invocation Error
    parsed r =
        and_then r λ f.
        and_then (parse_arguments judge next f (drop (next + f.consumed) arguments)) λ l.
        Ok (record { recipe = f.recipe; arguments = l.arguments; first = next; next = (next + f.consumed) + l.i })

    comes : (b : Bool) (r : Result Resolved Error) → Comes t good next b p r → of_just (goes fuel (parsed r)) ≡ of_reading (cond b (Err (shifted_by next (refusal.DefaultRecipeRequiresArguments 0 (required_count ((tree_signatures t).parameters p.recipe)))))
        (order_then (model fuel) ((tree_signatures t).parameters p.recipe) next p.recipe p.words (read_order ((tree_signatures t).parameters p.recipe) judge p.words (drop p.words ws))))
    comes true r h = rw h.is (ap (λ (x : Option Refusal). Err x) h.number)
    comes false r h = rw h order_told_here

  walks : (fuel : ℕ) → Alike fuel → (next : ℕ) (ws : List Text) → drop next arguments ≡ ws → next ≤ length arguments → AllByRecursion Readable ws → length ws < suc fuel → (x : Result Path Refusal) → PathAnswer (tree_names t) ws x → (r : Result Resolved Error) → Picks t good next x r →
      of_just (goes fuel (and_then r λ f. and_then (parse_arguments judge next f (drop (next + f.consumed) arguments)) λ l. Ok (record { recipe = f.recipe; arguments = l.arguments; first = next; next = (next + f.consumed) + l.i }))) ≡ of_reading (walked (tree_signatures t) judge (model fuel) next ws x)
  walks fuel on next ws here fits readable enough (Err f) a r h = rw h.is (ap (λ (x : Option Refusal). Err x) h.number)
  walks fuel on next ws here fits readable enough (Ok p) a r h = comes fuel on next ws here fits readable enough p (lawful_takes (tree_names t) ws p a) (p.default && ltb 0 (required_count ((tree_signatures t).parameters p.recipe))) r h

  pub line_does : (fuel : ℕ) → Alike fuel
  line_does zero next ws here fits readable enough = absurd (omega arith)
  line_does (suc fuel) next ws here fits readable enough =
      walks fuel (line_does fuel) next ws here fits readable enough (path_of (tree_names t) ws) (answer_does (tree_names t) ws) (recipe_of (justfiles_of t) next arguments)
      (recipe_does t good next arguments fits ws here (λ w rest e. (subst (AllByRecursion Readable) e readable).0.pieced))

  pub whole_does : AllByRecursion Readable arguments → of_just (parse_invocations judge (justfiles_of t) arguments) ≡ of_reading (model (suc (length arguments)) 0 arguments)
  whole_does readable = line_does (suc (length arguments)) 0 arguments refl (omega arith) readable (omega arith)
