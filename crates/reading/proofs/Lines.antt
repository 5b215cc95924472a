-- A line has one lawful reading or one first fault, and the model answers it. Assumes nothing.
use Rattle.std.proofs.Common.{◌≡◌, ℕ, zero, suc, ◌+◌, ◌<◌, Bool, true, false, cond, ◌&&◌, ltb, List, [], ◌∷◌, ◌++◌, length, drop, Ok, Err, Result, sym, refl, ap, ◌∙◌, subst, not-suc-le-zero, arith, length-append}
use Rattle.std.proofs.lemmas.List.{length-drop}
use Rattle.std.proofs.lemmas.Bool.{lt-ltb, le-ltb, ltb-true, ltb-false}
use Rattle.refusal.specs.declared.Refusal.{Refusal}
use Rattle.refusal.specs.Shift.{shifted_by}
use Rattle.refusal.specs.declared.Refusal.TheVariants.{DefaultRecipeRequiresArguments}
use Rattle.text.specs.Identifier.{Text}
use Rattle.register.specs.Meaning.{NameMeaning, SignatureMeaning, ParameterMeaning}
use Rattle.judge.specs.Meaning.{JudgeMeaning}
use Rattle.path.specs.Path.{LawfulPath, PathAnswer}
use Rattle.path.specs.declared.path.Path.{Path}
use Rattle.path.proofs.Follows.{lawful_takes}
use Rattle.path.proofs.Theorem.{the_only}
use Rattle.reading.specs.Signature.{required_count}
use Rattle.reading.specs.Reading.{words_of}
use Rattle.reading.specs.Line.{Taken, Reading, size, order_of, orders_of, all_roles, Undemanding, Begins, Cut, FaultFrom, ReadingAnswer, OnlyReading}
use Rattle.reading.specs.Model.{State, state_of, Ordered, read_order, told_order, told_roles, onto, order_then, walked, lines, line_from, read_line}
use Rattle.reading.specs.Model.Ordered.{Took, Refuses}
use Rattle.reading.proofs.Runs.{clash}
use Rattle.reading.proofs.Orders.{order_is, fault_is, Reads, order_does}

-- the test for a default that demands arguments
calm : (ps : List ParameterMeaning) (default : Bool) → Undemanding ps default → (default && ltb 0 (required_count ps)) ≡ false
calm ps true u = le-ltb 0 (required_count ps) (let h = u refl in omega arith)
calm ps false u = refl

module _ (names : NameMeaning) (s : SignatureMeaning) (judge : JudgeMeaning) where
  -- an order leaves fewer words
  pub shorter : (ws rest : List Text) (w : Text) (t : Taken) → Begins names s judge ws t (w ∷ rest) → length (w ∷ rest) < length ws
  shorter ws rest w t b =
      let few = lawful_takes names ws (record { recipe = t.recipe; words = t.path; default = b.default }) b.path in
      let e = ap length b.lawful.cut in
      let a = length-append (words_of t.given) (w ∷ rest) in
      let d = length-drop t.path ws in
      let some : 0 < length ws = omega arith in
      let p = few.least some in
      omega arith

  -- what a cut tells, from word `first` on
  abbrev told_from : ℕ → List Taken → Reading
  told_from first ts = record { orders = orders_of s first ts; roles = all_roles ts }

  abbrev order_told : ℕ → Taken → Result Reading Refusal → Result Reading Refusal
  order_told first t r = onto (told_order (s.parameters t.recipe) first t.recipe (state_of (s.parameters t.recipe) t.path t.given)) (told_roles t.path (state_of (s.parameters t.recipe) t.path t.given)) r

  abbrev took : (ℕ → List Text → Result Reading Refusal) → ℕ → Taken → List Text → Result Reading Refusal
  took go first t rest = order_then go (s.parameters t.recipe) first t.recipe t.path (Took (state_of (s.parameters t.recipe) t.path t.given) rest)

  -- Any answer of a line from word `first` on.

  pub record LawfulFrom (first : ℕ) (ws : List Text) (r : Reading) : Type 0 where
    pub orders : List Taken
    pub cut : Cut names s judge ws orders
    pub told : told_from first orders ≡ r

  abbrev pub Answers : ℕ → List Text → Result Reading Refusal → Type 0
  Answers first ws (Ok r) = LawfulFrom first ws r
  Answers first ws (Err f) = FaultFrom names s judge first ws f

  module _ (walk : List Text → Result Path Refusal) (walks : (ws : List Text) → PathAnswer names ws (walk ws)) where
    walk_is : (ws : List Text) (answer : Result Path Refusal) → PathAnswer names ws answer → walk ws ≡ answer
    walk_is ws answer h = (the_only names ws answer h).only (walk ws) (walks ws)

    begins_is : (go : ℕ → List Text → Result Reading Refusal) (first : ℕ) (ws rest : List Text) (t : Taken) → Begins names s judge ws t rest → walked s judge go first ws (walk ws) ≡ took go first t rest
    begins_is go first ws rest t b =
        rw (walk_is ws (Ok (record { recipe = t.recipe; words = t.path; default = b.default })) b.path, calm (s.parameters t.recipe) b.default b.undemanding, order_is (s.parameters t.recipe) judge t.path (drop t.path ws) t.given rest b.lawful)

    pub cut_is : {ws : List Text} {ts : List Taken} → Cut names s judge ws ts → (fuel first : ℕ) → length ws < fuel → lines walk s judge fuel first ws ≡ Ok (told_from first ts)
    cut_is c zero first h = absurd (not-suc-le-zero h)
    cut_is (Cut.last {ws} {t} b) (suc fuel) first h = begins_is (lines walk s judge fuel) first ws [] t b
    cut_is (Cut.then {ws} {rest} {w} {t} {ts} b c) (suc fuel) first h =
        let less = shorter ws rest w t b in
        begins_is (lines walk s judge fuel) first ws (w ∷ rest) t b ∙ ap (order_told first t) (cut_is c fuel (first + size t) (omega arith))

    pub fault_from_is : (fuel : ℕ) {first : ℕ} {ws : List Text} {f : Refusal} → FaultFrom names s judge first ws f → length ws < fuel → lines walk s judge fuel first ws ≡ Err f
    fault_from_is zero c h = absurd (not-suc-le-zero h)
    fault_from_is (suc fuel) (FaultFrom.path {ws = ws} {f = f} p) h = rw (walk_is ws (Err f) p)
    fault_from_is (suc fuel) (FaultFrom.demanding {ws = ws} {found = found} p d r) h = rw (walk_is ws (Ok found) p, d, lt-ltb 0 (required_count (s.parameters found.recipe)) r)
    fault_from_is (suc fuel) (FaultFrom.order {ws = ws} {found = found} {f = f} p u b) h = rw (walk_is ws (Ok found) p, calm (s.parameters found.recipe) found.default u, fault_is (s.parameters found.recipe) judge found.words (drop found.words ws) f b)
    fault_from_is (suc fuel) (FaultFrom.later {first} {ws} {rest} {w} {t} b c) h =
        let less = shorter ws rest w t b in
        begins_is (lines walk s judge fuel) first ws (w ∷ rest) t b ∙ ap (order_told first t) (fault_from_is fuel c (omega arith))

    -- every answer that the rules allow is the model's
    pub answers_is : (first : ℕ) (ws : List Text) (answer : Result Reading Refusal) → Answers first ws answer → (fuel : ℕ) → length ws < fuel → lines walk s judge fuel first ws ≡ answer
    answers_is first ws (Ok r) a fuel h = cut_is a.cut fuel first h ∙ ap Ok a.told
    answers_is first ws (Err f) a fuel h = fault_from_is fuel a h

    -- The model's answer is allowed.

    then_does : (first : ℕ) (ws rest : List Text) (w : Text) (t : Taken) → Begins names s judge ws t (w ∷ rest) → (answer : Result Reading Refusal) → Answers (first + size t) (w ∷ rest) answer → Answers first ws (order_told first t answer)
    then_does first ws rest w t b (Ok r) a =
        record { orders = t ∷ a.orders; cut = Cut.then b a.cut; told = ap (λ (q : Reading). record { orders = order_of (s.parameters t.recipe) first t ∷ q.orders; roles = told_roles t.path (state_of (s.parameters t.recipe) t.path t.given) ++ q.roles }) a.told }
    then_does first ws rest w t b (Err f) a = FaultFrom.later b a

    took_does : (go : ℕ → List Text → Result Reading Refusal) (first : ℕ) (ws rest : List Text) (t : Taken) → Begins names s judge ws t rest → ((at : ℕ) (vs : List Text) → length vs < length ws → Answers at vs (go at vs)) → Answers first ws (took go first t rest)
    took_does go first ws [] t b on = record { orders = t ∷ []; cut = Cut.last b; told = refl }
    took_does go first ws (w ∷ rest) t b on = then_does first ws rest w t b (go (first + size t) (w ∷ rest)) (on (first + size t) (w ∷ rest) (shorter ws rest w t b))

    order_then_does : (go : ℕ → List Text → Result Reading Refusal) (first : ℕ) (ws : List Text) (found : Path) → LawfulPath names ws found → Undemanding (s.parameters found.recipe) found.default → ((at : ℕ) (vs : List Text) → length vs < length ws → Answers at vs (go at vs)) → (o : Ordered) → Reads (s.parameters found.recipe) judge found.words (drop found.words ws) o → Answers first ws (order_then go (s.parameters found.recipe) first found.recipe found.words o)
    order_then_does go first ws found p u on (Refuses f) r = FaultFrom.order p u r
    order_then_does go first ws found p u on (Took st rest) r =
        subst (λ (x : State). Answers first ws (order_then go (s.parameters found.recipe) first found.recipe found.words (Took x rest))) r.is
        (took_does go first ws rest (record { path = found.words; recipe = found.recipe; given = r.given }) (record { default = found.default; path = p; undemanding = u; lawful = r.lawful }) on)

    demand_does : (go : ℕ → List Text → Result Reading Refusal) (first : ℕ) (ws : List Text) (found : Path) → LawfulPath names ws found → ((at : ℕ) (vs : List Text) → length vs < length ws → Answers at vs (go at vs)) → (default : Bool) → found.default ≡ default → (demands : Bool) → ltb 0 (required_count (s.parameters found.recipe)) ≡ demands → Answers first ws (cond (default && demands) (Err (shifted_by first (DefaultRecipeRequiresArguments 0 (required_count (s.parameters found.recipe))))) (order_then go (s.parameters found.recipe) first found.recipe found.words (read_order (s.parameters found.recipe) judge found.words (drop found.words ws))))
    demand_does go first ws found p on false d demands e = order_then_does go first ws found p (λ t. absurd (clash (sym t ∙ d))) on _ (order_does (s.parameters found.recipe) judge found.words (drop found.words ws))
    demand_does go first ws found p on true d true e = FaultFrom.demanding p d (ltb-true 0 (required_count (s.parameters found.recipe)) e)
    demand_does go first ws found p on true d false e = order_then_does go first ws found p (λ t. let h = ltb-false 0 (required_count (s.parameters found.recipe)) e in omega arith) on _ (order_does (s.parameters found.recipe) judge found.words (drop found.words ws))

    walked_does : (go : ℕ → List Text → Result Reading Refusal) (first : ℕ) (ws : List Text) → ((at : ℕ) (vs : List Text) → length vs < length ws → Answers at vs (go at vs)) → (answer : Result Path Refusal) → PathAnswer names ws answer → Answers first ws (walked s judge go first ws answer)
    walked_does go first ws on (Err f) p = FaultFrom.path p
    walked_does go first ws on (Ok found) p = demand_does go first ws found p on found.default refl (ltb 0 (required_count (s.parameters found.recipe))) refl

    pub lines_does : (fuel first : ℕ) (ws : List Text) → length ws < fuel → Answers first ws (lines walk s judge fuel first ws)
    lines_does zero first ws h = absurd (not-suc-le-zero h)
    lines_does (suc fuel) first ws h = walked_does (lines walk s judge fuel) first ws (λ at vs less. lines_does fuel at vs (omega arith)) (walk ws) (walks ws)

    -- enough fuel is enough, and the model unrolls order by order
    pub lines_from : (fuel first : ℕ) (ws : List Text) → length ws < fuel → lines walk s judge fuel first ws ≡ line_from walk s judge first ws
    lines_from fuel first ws h = answers_is first ws (line_from walk s judge first ws) (lines_does (suc (length ws)) first ws (omega arith)) fuel h

    pub line_unrolls : (first : ℕ) (ws : List Text) → line_from walk s judge first ws ≡ walked s judge (line_from walk s judge) first ws (walk ws)
    line_unrolls first ws =
        answers_is first ws (walked s judge (line_from walk s judge) first ws (walk ws))
        (walked_does (line_from walk s judge) first ws (λ at vs less. lines_does (suc (length vs)) at vs (omega arith)) (walk ws) (walks ws))
        (suc (length ws)) (omega arith)

    -- The line as a whole.

    whole_does : (ws : List Text) (answer : Result Reading Refusal) → Answers 0 ws answer → ReadingAnswer names s judge ws answer
    whole_does ws (Ok r) a = record { orders = a.orders; cut = a.cut; told = a.told }
    whole_does ws (Err f) a = a

    whole_was : (ws : List Text) (answer : Result Reading Refusal) → ReadingAnswer names s judge ws answer → Answers 0 ws answer
    whole_was ws (Ok r) a = record { orders = a.orders; cut = a.cut; told = a.told }
    whole_was ws (Err f) a = a

    pub model_only : (ws : List Text) → OnlyReading names s judge ws (read_line walk s judge ws)
    model_only ws = record {
      right = whole_does ws (read_line walk s judge ws) (lines_does (suc (length ws)) 0 ws (omega arith));
      only = λ other a. sym (answers_is 0 ws other (whole_was ws other a) (suc (length ws)) (omega arith));
    }
