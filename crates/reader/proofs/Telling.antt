-- An order that was read, as a taker is told it. Assumes nothing.
use Rattle.std.proofs.Common.{◌≡◌, ℕ, ◌+◌, ◌<◌, ◌≤◌, Bool, true, false, cond, ◌&&◌, ltb, List, [], ◌∷◌, ◌++◌, length, drop, Some, None, Ok, Err, Result, sym, ap, ◌∙◌, subst, arith, length-append, length-drop}
use Rattle.std.proofs.lemmas.List.{length-map, drop-map, drop-drop}
use Rattle.refusal.specs.declared.Refusal.{Refusal}
use Rattle.refusal.specs.declared.Refusal.TheVariants.{DefaultRecipeRequiresArguments}
use Rattle.refusal.specs.Told.{told_of}
use Rattle.text.specs.Identifier.{Text}
use Rattle.text.specs.Line.{closed}
use Rattle.text.specs.Spans.{text_at, texts_at}
use Rattle.text.specs.declared.span.Span.{Span}
use Rattle.register.specs.Meaning.{NameMeaning, SignatureMeaning}
use Rattle.judge.specs.Meaning.{JudgeMeaning}
use Rattle.path.specs.Path.{PathAnswer}
use Rattle.path.specs.declared.path.Path.{Path}
use Rattle.path.proofs.Follows.{lawful_takes}
use Rattle.reading.specs.Signature.{required_count}
use Rattle.reading.specs.Line.{repeated}
use Rattle.reading.proofs.Bounds.{repeated_many}
use Rattle.reading.specs.Model.{Ordered, read_order}
use Rattle.reading.specs.Model.Ordered.{Refuses}
use Rattle.reading.specs.declared.role.Role.{Role}
use Rattle.reading.specs.declared.role.Role.TheVariants.{PathWord}
use Rattle.reader.specs.Meaning.{value_of}
use Rattle.reader.specs.Steps.{state_of}
use Rattle.reader.specs.Orders.{unless, order_by, parsed_order}
use Rattle.reader.specs.Told.{ToldOrder, roles_told, all_roles_told, values_told, Fits, UpTo}
use Rattle.reader.specs.declared.source.ValueRow.{ValueRow}
use Rattle.reader.specs.declared.invocation_parser.InvocationParser.{InvocationParser}
use Rattle.reader.proofs.OrderSteps.{closed-drop}
use Rattle.reader.proofs.LineSteps.{all_roles_lem}
use Rattle.reader.proofs.Bounded.{Kept, OrderedIn, order_in, path_in}

-- what was told, with one order more
pub all_values_lem : (os : List ToldOrder) (o : ToldOrder) → values_told (os ++ o ∷ []) ≡ values_told os + length o.values
all_values_lem [] o = omega arith
all_values_lem (x ∷ os) o = let h = all_values_lem os o in omega arith

default_in : (most n : ℕ) (ws : List Text) (b : Bool) (count : ℕ) (x : Ordered) → OrderedIn most n ws x → OrderedIn most n ws (unless (cond b (Some (DefaultRecipeRequiresArguments 0 count)) None) x)
default_in most n ws true count x i = omega arith
default_in most n ws false count x i = i

ok_in : (s : SignatureMeaning) (judge : JudgeMeaning) (ws : List Text) (path : Path) → OrderedIn (path.words + length (drop path.words ws)) path.words (drop path.words ws) (order_by s judge ws (Ok path))
ok_in s judge ws path =
    let ps = s.parameters path.recipe in
    default_in (path.words + length (drop path.words ws)) path.words (drop path.words ws) (path.default && ltb 0 (required_count ps)) (required_count ps) (read_order ps judge path.words (drop path.words ws)) (order_in ps judge path.words (drop path.words ws))

-- a fault stands in the words
pub refuses_in : (names : NameMeaning) (s : SignatureMeaning) (judge : JudgeMeaning) (ws : List Text) (walked : Result Path Refusal) → PathAnswer names ws walked → (f : Refusal) → Refuses f ≡ order_by s judge ws walked → (told_of f).word ≤ length ws
refuses_in names s judge ws (Err g) a f e = let h : f ≡ g = cc in subst (λ (x : Refusal). (told_of x).word ≤ length ws) (sym h) (path_in a)
refuses_in names s judge ws (Ok path) a f e =
    let h = subst (OrderedIn (path.words + length (drop path.words ws)) path.words (drop path.words ws)) (sym e) (ok_in s judge ws path) in
    let l = length-drop path.words ws in let m = (lawful_takes names ws path a).most in
    omega arith

module _ (s : SignatureMeaning) (judge : JudgeMeaning) (bytes : List ℕ) (words slice : List Span) (first : ℕ) (path : Path) (parser : InvocationParser) (w : ℕ) (rs : List Role) (vs : List ValueRow)
    (part : slice ≡ drop first words) (n : w ≡ parser.order.words) (r : rs ≡ parser.roles.items) (v : vs ≡ parser.order.values.rows.items)
    (most : w ≤ length slice) (takes : path.words ≤ length slice)
    (e : parsed_order s bytes slice (Ok path) parser ≡ order_by s judge (texts_at bytes slice) (Ok path)) where
  abbrev pub order_told_here : ToldOrder
  order_told_here = record { recipe = path.recipe; first = first; path = path.words; words = w; roles = rs; values = vs }

  kept : Kept path.words (drop path.words (texts_at bytes slice)) (state_of (s.parameters path.recipe) bytes parser.order parser.roles.items) (texts_at bytes (drop parser.order.words slice))
  kept = subst (OrderedIn (path.words + length (drop path.words (texts_at bytes slice))) path.words (drop path.words (texts_at bytes slice))) (sym e) (ok_in s judge (texts_at bytes slice) path)

  texts_many : (xs : List Span) → length (texts_at bytes xs) ≡ length xs
  texts_many xs = length-map xs (text_at bytes)

  -- a role for each word
  pub roles_many : length (roles_told order_told_here) ≡ w
  roles_many =
      let a = length-append (repeated path.words PathWord) rs in let b = repeated_many path.words PathWord in
      let k = kept.words in let q = kept.roles in let p = ap length r in omega arith

  rest-is : texts_at bytes (drop (first + w) words) ≡ texts_at bytes (drop parser.order.words slice)
  rest-is = ap (texts_at bytes) (sym (ap (λ (k : ℕ). drop k slice) (sym n) ∙ ap (drop w) part ∙ drop-drop w first words))

  -- no more values than the order's words have bytes
  pub values_few : length vs + length (closed (texts_at bytes (drop (first + w) words))) ≤ length (closed (texts_at bytes (drop first words)))
  values_few =
      let f = kept.few in
      let a = ap length v in let b = length-map parser.order.values.rows.items (value_of bytes) in
      let t = ap (λ (x : List Text). length (closed x)) rest-is in
      let d = ap (λ (x : List Text). length (closed x)) (drop-map (text_at bytes) path.words slice) in
      let c = closed-drop path.words bytes slice in
      let p = ap (λ (x : List Span). length (closed (texts_at bytes x))) part in
      omega arith

  module _ (os : List ToldOrder) (up : UpTo bytes words first os) where
    grown_roles : length (all_roles_told (os ++ order_told_here ∷ [])) ≡ first + w
    grown_roles =
        let a = ap length (all_roles_lem os order_told_here) in let b = length-append (all_roles_told os) (roles_told order_told_here) in
        let q = roles_many in let u = up.roles in omega arith

    grown_values : values_told (os ++ order_told_here ∷ []) ≡ values_told os + length vs
    grown_values = all_values_lem os order_told_here

    pub fits : length words ≤ 128 → first ≤ length words → first < 128 → Fits (os ++ order_told_here ∷ [])
    fits few start early =
        let a = length-append os (order_told_here ∷ []) in let o = up.orders in
        let g = grown_roles in let u = up.values in let x = grown_values in let y = values_few in
        let l = ap length part in let d = length-drop first words in
        record { orders = omega arith; words = omega arith; values = omega arith }

    pub up_to : 0 < w → UpTo bytes words (first + w) (os ++ order_told_here ∷ [])
    up_to some =
        let a = length-append os (order_told_here ∷ []) in let o = up.orders in
        let u = up.values in let x = grown_values in let y = values_few in
        record { orders = omega arith; roles = grown_roles; values = omega arith }
