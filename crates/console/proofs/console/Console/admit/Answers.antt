use Rattle.std.proofs.Common.{◌≡◌, ◌≤◌, length, Ok, sym, refl, ap, ◌∙◌, subst, arith, ltb-false, ltb-true}
use Rattle.std.proofs.lemmas.List.{get_or-replicate, length-take}
use Rattle.std.proofs.lemmas.Result.{err_from_is_err_and}
use Rattle.book.specs.Kept.{Reads, kept_orders, kept_roles}
use Rattle.book.specs.declared.order_row.OrderRow.{OrderRow}
use Rattle.book.specs.declared.tables.Book.{Book}
use Rattle.console.specs.Keeps.{view}
use Rattle.console.specs.Right.{TurnsDown}
use Rattle.console.proofs.Waiting.{nothing_couples, busy}
use Rattle.console.proofs.Admission.{sane, unchanged, turned_down, no_serials, unadmit_led, admit_led}
use Rattle.console.proofs.console.Console.admit.Goals as goal

pub returns-then-keeps_line : goal.returns-then-keeps_line
returns-then-keeps_line g c = record {
  law = λ h l.
      let s = c.args.self.now in record {
        lawful = (l.lawful, TurnsDown.kept (busy h (view s) l.coupled (sane s) (ltb-true _ _ (sym c.keeps_line.ensures ∙ c.if-keeps_line.true))));
        coupled = nothing_couples h (view s) _ refl l.coupled;
      };
  refused = record { number = refl; first = refl; base = refl; total = refl; at = refl; out = refl; fill = refl; keeps = refl };
}

pub returns-in_err-read_line : goal.returns-in_err-read_line
returns-in_err-read_line g c =
    let end = ltb-false c.args.self.now.at c.args.self.now.book.fill.orders (sym c.keeps_line.ensures ∙ c.if-keeps_line.false) in
    let p = err_from_is_err_and c.from_residual.result c.from_residual.ensures.1 in
    let s = c.args.self.now in
    let b = c.read_line.new.book in
    let e = c.in_err-read_line.ensures in
    let u = unchanged s _ end refl refl refl refl refl refl (ap (λ (x : Book). x.fill) c.drop-guard.ensures) in
    rw (p.1, p.2) (record {
      law = λ h l. unadmit_led h s _ _ _ l end u (turned_down h (view s) l.coupled (sane s) end _ (kept_orders b) (kept_roles b) _ e.reads);
      refused = u;
    })

pub returns-then-self-orders-gt-SERIALS : goal.returns-then-self-orders-gt-SERIALS
returns-then-self-orders-gt-SERIALS g c =
    let s = c.args.self.now in
    let end = ltb-false s.at s.book.fill.orders (sym c.keeps_line.ensures ∙ c.if-keeps_line.false) in
    let b = c.read_line.new.book in
    let e = c.in_ok-read_line.ensures in
    let few : b.fill.orders ≤ length b.orders = omega (arith, e.rows.3, ap length c.orders-orders.ensures.rows, c.orders-orders.ensures.many, length-take {A = OrderRow}) in
    let u = unchanged s _ end refl refl refl refl refl refl (ap (λ (x : Book). x.fill) c.drop-guard-then-self-orders-gt-SERIALS.ensures) in record {
      law = λ h l. unadmit_led h s _ _ _ l end u (no_serials h (view s) l.coupled (sane s) end _ b.fill.orders s.total b.orders _ b.values s.shown _ e.rows.2 few e.reads (omega arith));
      refused = u;
    }

pub returns : goal.returns
returns g c = record {
  law = λ h l.
      let s = c.args.self.now in
      let end = ltb-false s.at s.book.fill.orders (sym c.keeps_line.ensures ∙ c.if-keeps_line.false) in
      let b = c.read_line.new.book in
      let e = c.in_ok-read_line.ensures in
      let few : b.fill.orders ≤ length b.orders = omega (arith, e.rows.3, ap length c.orders-orders.ensures.rows, c.orders-orders.ensures.many, length-take {A = OrderRow}) in
      let same : c.keep.new.self.0 ≡ b = c.keep.ensures in
      let count : c.keep.new.self.0.fill.orders ≡ b.fill.orders = ap (λ (x : Book). x.fill.orders) same in
      admit_led h s _ _ _ l end refl refl refl (omega arith) refl refl (omega (arith, e.rows.2)) (subst (λ (x : Book). x.fill.orders ≤ length x.orders) (sym same) few)
      (subst (λ (x : Book). Reads {U = Unit {0}} (g.R.Register.names c.args.register.now) (g.R.Register.signatures c.args.register.now) (g.J.Judge.accepts c.args.judge.now) c.args.line.now (kept_orders x) (kept_roles x) (Ok tt)) (sym same) e.reads)
      (λ i lt. get_or-replicate 128 i 0 0 (omega (arith, e.rows.3))) (omega arith) refl (omega arith);
  refused = tt;
}
