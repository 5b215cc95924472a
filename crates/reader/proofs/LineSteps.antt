-- Steps of reading a line order by order. Assumes nothing.
use Rattle.std.proofs.Common.{◌≡◌, ℕ, ◌+◌, ◌<◌, Bool, true, false, cond, ◌&&◌, ltb, List, [], ◌∷◌, ◌++◌, map, length, drop, Some, None, Ok, Err, Result, sym, refl, ap, ◌∙◌, append_assoc, append-nil}
use Rattle.refusal.specs.declared.Refusal.{Refusal}
use Rattle.refusal.specs.declared.Refusal.TheVariants.{DefaultRecipeRequiresArguments}
use Rattle.refusal.specs.Shift.{shifted_by}
use Rattle.text.specs.Identifier.{Text}
use Rattle.register.specs.Meaning.{NameMeaning, ParameterMeaning, SignatureMeaning}
use Rattle.judge.specs.Meaning.{JudgeMeaning}
use Rattle.path.specs.Path.{PathAnswer, LawfulPath}
use Rattle.path.specs.declared.path.Path.{Path}
use Rattle.path.proofs.Theorem.{the_only}
use Rattle.reading.specs.Signature.{required_count}
use Rattle.reading.specs.Line.{Order, Reading}
use Rattle.reading.specs.Model.{State, Ordered, order_then, walked, line_from, read_order, behind, pushed, nothing, told_order, told_roles}
use Rattle.reading.specs.Model.Ordered.{Took, Refuses}
use Rattle.reading.specs.declared.role.Role.{Role}
use Rattle.reading.proofs.Lines.{line_unrolls}
use Rattle.reading.proofs.Unroll.{behind_onto}
use Rattle.std.proofs.lemmas.List.{drop-drop, at_drop_more}
use Rattle.text.specs.Spans.{texts_at}
use Rattle.text.specs.declared.span.Span.{Span}
use Rattle.reader.specs.Steps.{state_of}
use Rattle.reader.specs.declared.source.ValueRow.{ValueRow}
use Rattle.reader.specs.declared.invocation_parser.InvocationParser.{InvocationParser}
use Rattle.reader.specs.Orders.{unless, order_by, parsed_order}
use Rattle.reader.specs.Told.{ToldOrder, order_told, roles_told, all_roles_told, reading_told}
use Rattle.reader.specs.Rest.{left_from}

module _ (s : SignatureMeaning) (judge : JudgeMeaning) (go : ℕ → List Text → Result Reading Refusal) (first : ℕ) (ws : List Text) where
  pub walked_order : (path : Path) → walked s judge go first ws (Ok path) ≡ order_then go (s.parameters path.recipe) first path.recipe path.words (order_by s judge ws (Ok path))
  walked_order path = by (path.default && ltb 0 (required_count (s.parameters path.recipe))) (DefaultRecipeRequiresArguments 0 (required_count (s.parameters path.recipe))) (read_order (s.parameters path.recipe) judge path.words (drop path.words ws))
    where
      by : (b : Bool) (f : Refusal) (o : Ordered) → cond b (Err (shifted_by first f)) (order_then go (s.parameters path.recipe) first path.recipe path.words o) ≡ order_then go (s.parameters path.recipe) first path.recipe path.words (unless (cond b (Some f) None) o)
      by true f o = refl
      by false f o = refl

  pub walked_refuses : (f : Refusal) (answer : Result Path Refusal) → Refuses f ≡ order_by s judge ws answer → Err (shifted_by first f) ≡ walked s judge go first ws answer
  walked_refuses f (Err g) e = let h : f ≡ g = cc in ap (λ (x : Refusal). Err (shifted_by first x)) h
  walked_refuses f (Ok path) e = ap (order_then go (s.parameters path.recipe) first path.recipe path.words) e ∙ sym (walked_order path)

pub all_roles_lem : (os : List ToldOrder) (o : ToldOrder) → all_roles_told (os ++ o ∷ []) ≡ all_roles_told os ++ roles_told o
all_roles_lem [] o = append-nil (roles_told o)
all_roles_lem (x ∷ os) o = ap (λ (r : List Role). roles_told x ++ r) (all_roles_lem os o) ∙ sym (append_assoc (roles_told x) (all_roles_told os) (roles_told o))

all_orders : (s : SignatureMeaning) (bytes : List ℕ) (os : List ToldOrder) (o : ToldOrder) → map (order_told s bytes) (os ++ o ∷ []) ≡ map (order_told s bytes) os ++ order_told s bytes o ∷ []
all_orders s bytes [] o = refl
all_orders s bytes (x ∷ os) o = ap (λ (r : List Order). order_told s bytes x ∷ r) (all_orders s bytes os o)

pub told_pushed : (s : SignatureMeaning) (bytes : List ℕ) (os : List ToldOrder) (o : ToldOrder) → reading_told s bytes (os ++ o ∷ []) ≡ pushed (reading_told s bytes os) (order_told s bytes o) (roles_told o)
told_pushed s bytes os o =
    ap (λ (r : List Order). record { orders = r; roles = all_roles_told (os ++ o ∷ []) }) (all_orders s bytes os o)
    ∙ ap (λ (r : List Role). record { orders = map (order_told s bytes) os ++ order_told s bytes o ∷ []; roles = r }) (all_roles_lem os o)

behind_done : (done : Reading) → behind done (Ok nothing) ≡ Ok done
behind_done done = ap (λ (x : List Order). Ok (record { orders = x; roles = done.roles ++ [] })) (append-nil done.orders) ∙ ap (λ (x : List Role). Ok (record { orders = done.orders; roles = x })) (append-nil done.roles)

pub turn_fails : (names : NameMeaning) (s : SignatureMeaning) (judge : JudgeMeaning) (walk : List Text → Result Path Refusal) (walks : (ws : List Text) → PathAnswer names ws (walk ws)) (first : ℕ) (ws : List Text) (f : Refusal) → Refuses f ≡ order_by s judge ws (walk ws) → Err (shifted_by first f) ≡ line_from walk s judge first ws
turn_fails names s judge walk walks first ws f e = walked_refuses s judge (line_from walk s judge) first ws f (walk ws) e ∙ sym (line_unrolls names s judge walk walks first ws)

module _ (names : NameMeaning) (s : SignatureMeaning) (judge : JudgeMeaning) (walk : List Text → Result Path Refusal) (walks : (ws : List Text) → PathAnswer names ws (walk ws)) (first : ℕ) (ws : List Text) (done : Reading) where
  then_left : (ps : List ParameterMeaning) (recipe n : ℕ) (st : State) (rest : List Text) → left_from walk s judge (pushed done (told_order ps first recipe st) (told_roles n st)) (first + st.words) rest ≡ behind done (order_then (line_from walk s judge) ps first recipe n (Took st rest))
  then_left ps recipe n st [] = sym (behind_onto done (told_order ps first recipe st) (told_roles n st) (Ok nothing) ∙ behind_done _)
  then_left ps recipe n st (w ∷ rest) = sym (behind_onto done (told_order ps first recipe st) (told_roles n st) _)

  pub turn_goes : (path : Path) (st : State) (rest : List Text) → LawfulPath names ws path → Took st rest ≡ order_by s judge ws (walk ws) → left_from walk s judge (pushed done (told_order (s.parameters path.recipe) first path.recipe st) (told_roles path.words st)) (first + st.words) rest ≡ behind done (line_from walk s judge first ws)
  turn_goes path st rest lawful e =
      let ps = s.parameters path.recipe in
      let same : walk ws ≡ Ok path = (the_only names ws (Ok path) lawful).only (walk ws) (walks ws) in
      then_left ps path.recipe path.words st rest
      ∙ ap (behind done) (ap (order_then (line_from walk s judge) ps first path.recipe path.words) (e ∙ ap (order_by s judge ws) same)
      ∙ sym (walked_order s judge (line_from walk s judge) first ws path)
      ∙ ap (walked s judge (line_from walk s judge) first ws) (sym same)
      ∙ sym (line_unrolls names s judge walk walks first ws))

pub turn_told : (names : NameMeaning) (s : SignatureMeaning) (judge : JudgeMeaning) (walk : List Text → Result Path Refusal) (walks : (ws : List Text) → PathAnswer names ws (walk ws)) (bytes : List ℕ) (words slice : List Span) (first : ℕ) (before : List ToldOrder) (path : Path) (parser : InvocationParser) (w : ℕ) (rs : List Role) (vs : List ValueRow)
    → slice ≡ drop first words → w ≡ parser.order.words → rs ≡ parser.roles.items → vs ≡ parser.order.values.rows.items
    → LawfulPath names (texts_at bytes slice) path
    → parsed_order s bytes slice (Ok path) parser ≡ order_by s judge (texts_at bytes slice) (walk (texts_at bytes slice))
    → left_from walk s judge (reading_told s bytes (before ++ record { recipe = path.recipe; first = first; path = path.words; words = w; roles = rs; values = vs } ∷ [])) (first + w) (texts_at bytes (drop (first + w) words)) ≡ behind (reading_told s bytes before) (line_from walk s judge first (texts_at bytes (drop first words)))
turn_told names s judge walk walks bytes words slice first before path parser w rs vs part n r v lawful e =
    let o : ℕ → List Role → List ValueRow → ToldOrder = λ k x y. record { recipe = path.recipe; first = first; path = path.words; words = k; roles = x; values = y } in
    let k = parser.order.words in
    let L : List ToldOrder → ℕ → List Span → Result Reading Refusal = λ a j x. left_from walk s judge (reading_told s bytes a) (first + j) (texts_at bytes x) in
    ap (λ (a : List ToldOrder). L a w (drop (first + w) words)) (ap (λ (j : ℕ). before ++ o j rs vs ∷ []) n ∙ ap (λ (x : List Role). before ++ o k x vs ∷ []) r ∙ ap (λ (y : List ValueRow). before ++ o k parser.roles.items y ∷ []) v)
    ∙ ap (λ (j : ℕ). L (before ++ o k parser.roles.items parser.order.values.rows.items ∷ []) j (drop (first + j) words)) n
    ∙ ap (L (before ++ o k parser.roles.items parser.order.values.rows.items ∷ []) k) (sym (ap (drop k) part ∙ drop-drop k first words))
    ∙ ap (λ (d : Reading). left_from walk s judge d (first + k) (texts_at bytes (drop k slice))) (told_pushed s bytes before (o k parser.roles.items parser.order.values.rows.items))
    ∙ turn_goes names s judge walk walks first (texts_at bytes slice) (reading_told s bytes before) path (state_of (s.parameters path.recipe) bytes parser.order parser.roles.items) (texts_at bytes (drop k slice)) lawful e
    ∙ ap (λ (x : List Span). behind (reading_told s bytes before) (line_from walk s judge first (texts_at bytes x))) part

-- words are left
pub left_more : (walk : List Text → Result Path Refusal) (s : SignatureMeaning) (judge : JudgeMeaning) (bytes : List ℕ) (words : List Span) (done : Reading) (next : ℕ) → next < length words → left_from walk s judge done next (texts_at bytes (drop next words)) ≡ behind done (line_from walk s judge next (texts_at bytes (drop next words)))
left_more walk s judge bytes words done next h =
    let d : Span = record { start = 0; len = 0 } in
    at_drop_more (λ (x : List Span). left_from walk s judge done next (texts_at bytes x)) words next d h
    ∙ sym (at_drop_more (λ (x : List Span). behind done (line_from walk s judge next (texts_at bytes x))) words next d h)
