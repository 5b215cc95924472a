-- Steps of reading one order. Assumes nothing.
use Rattle.std.proofs.Common.{◌≡◌, ℕ, zero, suc, ◌+◌, ◌≤◌, List, [], ◌∷◌, length, drop, Some, None, Ok, Err, Option, Result, sym, ap, ◌∙◌, arith, length-append}
use Rattle.std.proofs.lemmas.List.{drop-map, drop-drop}
use Rattle.refusal.specs.declared.Refusal.{Refusal}
use Rattle.text.specs.Identifier.{Text}
use Rattle.text.specs.Line.{closed}
use Rattle.text.specs.Spans.{text_at, texts_at}
use Rattle.text.specs.declared.span.Span.{Span}
use Rattle.register.specs.Meaning.{SignatureMeaning}
use Rattle.judge.specs.Meaning.{JudgeMeaning}
use Rattle.path.specs.declared.path.Path.{Path}
use Rattle.reading.specs.Model.{State, started, scan, tally, tallied, scanned, read_order}
use Rattle.reading.specs.Model.Ordered.{Took, Refuses}
use Rattle.reading.specs.declared.role.Role.{Role}
use Rattle.reader.specs.Meaning.{values_of}
use Rattle.reader.specs.Steps.{state_of}
use Rattle.reader.specs.Scans.{scanned_of}
use Rattle.reader.specs.Orders.{default_fault, unless, order_by}
use Rattle.reader.specs.declared.invocation.Invocation.{Invocation}
use Rattle.arrayvec.specs.ArrayVec.{ArrayVec}

-- fewer words have fewer bytes
pub closed-drop : (n : ℕ) (bytes : List ℕ) (words : List Span) → length (closed (texts_at bytes (drop n words))) ≤ length (closed (texts_at bytes words))
closed-drop zero bytes words = omega arith
closed-drop (suc n) bytes [] = omega arith
closed-drop (suc n) bytes (w ∷ words) = let h = closed-drop n bytes words in let l = length-append (text_at bytes w) (0 ∷ closed (texts_at bytes words)) in omega arith

pub default_at_lem : (s : SignatureMeaning) (judge : JudgeMeaning) (ws : List Text) (path : Path) (f : Refusal) → Some f ≡ default_fault s path → Refuses f ≡ order_by s judge ws (Ok path)
default_at_lem s judge ws path f e = ap (λ (o : Option Refusal). unless o (read_order (s.parameters path.recipe) judge path.words (drop path.words ws))) e

module _ (s : SignatureMeaning) (judge : JudgeMeaning) (bytes : List ℕ) (words slice : List Span) (path : Path) (before order : Invocation) (held : List Role) (roles : ArrayVec Role) (r : Result ℕ Refusal)
    (part : slice ≡ drop path.words words) (start : state_of (s.parameters path.recipe) bytes before [] ≡ started path.words) (none : held ≡ [])
    (scans : scanned_of (s.parameters path.recipe) bytes slice r order roles ≡ scan (s.parameters path.recipe) (state_of (s.parameters path.recipe) bytes before held) (texts_at bytes slice))
    (allowed : None ≡ default_fault s path) where
  order_at_lem : order_by s judge (texts_at bytes words) (Ok path) ≡ scanned (s.parameters path.recipe) judge (scanned_of (s.parameters path.recipe) bytes slice r order roles)
  order_at_lem =
      let ps = s.parameters path.recipe in
      ap (λ (o : Option Refusal). unless o (read_order ps judge path.words (drop path.words (texts_at bytes words)))) (sym allowed)
      ∙ ap (scanned ps judge) (sym (scans
      ∙ ap (λ (h : List Role). scan ps (state_of ps bytes before h) (texts_at bytes slice)) none
      ∙ ap (λ (st : State). scan ps st (texts_at bytes slice)) start
      ∙ ap (λ (x : List Span). scan ps (started path.words) (texts_at bytes x)) part
      ∙ ap (scan ps (started path.words)) (sym (drop-map (text_at bytes) path.words words))))

  pub order_breaks : (f : Refusal) → r ≡ Err f → Refuses f ≡ order_by s judge (texts_at bytes words) (Ok path)
  order_breaks f e = sym (order_at_lem ∙ ap (λ (x : Result ℕ Refusal). scanned (s.parameters path.recipe) judge (scanned_of (s.parameters path.recipe) bytes slice x order roles)) e)

  module _ (taken : ℕ) (e : r ≡ Ok taken) where
    tallies : order_by s judge (texts_at bytes words) (Ok path) ≡ tallied (state_of (s.parameters path.recipe) bytes order roles.items) (texts_at bytes (drop taken slice)) (tally (s.parameters path.recipe) judge (values_of bytes order.values) order.plains)
    tallies = order_at_lem ∙ ap (λ (x : Result ℕ Refusal). scanned (s.parameters path.recipe) judge (scanned_of (s.parameters path.recipe) bytes slice x order roles)) e

    pub order_refuses : (f : Refusal) → Some f ≡ tally (s.parameters path.recipe) judge (values_of bytes order.values) order.plains → Refuses f ≡ order_by s judge (texts_at bytes words) (Ok path)
    order_refuses f t = sym (tallies ∙ ap (tallied (state_of (s.parameters path.recipe) bytes order roles.items) (texts_at bytes (drop taken slice))) (sym t))

    pub order_takes : None ≡ tally (s.parameters path.recipe) judge (values_of bytes order.values) order.plains → order.words ≡ path.words + taken → Took (state_of (s.parameters path.recipe) bytes order roles.items) (texts_at bytes (drop order.words words)) ≡ order_by s judge (texts_at bytes words) (Ok path)
    order_takes t w =
        let st = state_of (s.parameters path.recipe) bytes order roles.items in
        ap (λ (k : ℕ). Took st (texts_at bytes (drop k words))) w
        ∙ ap (λ (x : List Span). Took st (texts_at bytes x)) (sym (ap (drop taken) part ∙ drop-drop taken path.words words))
        ∙ sym (tallies ∙ ap (tallied st (texts_at bytes (drop taken slice))) (sym t))
