-- What a call does to the tie between history and state.
use Rattle.std.proofs.Common.{◌≡◌, ℕ, ◌+◌, ◌-◌, ◌<◌, ◌≤◌, min, true, false, cond, eqb, ◌⊎◌, List, length, get_or, set, Some, Ok, sym, refl, ap, ◌∙◌, inl, inr, arith, get_or-set_other, get_or-set_same, eq-eqb, ne_eqb}
use native.Mathlib.Decide.{dec_lt, ℕ_discrete}
use Rattle.std.specs.Option.{option_map}
use Rattle.console.specs.Keeps.{Kept, View, kept_in, order_at}
use Rattle.console.specs.History.{History, ◌▹◌, withdraw, issue, Waits, Out, Acknowledged, Withdrawn, orders, first_of, serial_of, shown}
use Rattle.console.specs.Right.{Shows}
use Rattle.console.specs.State.{Coupled}
use Rattle.console.specs.declared.console.slip.Slip.{Slip}
use Rattle.console.specs.declared.issued.Issued.{Issued}
use Rattle.console.proofs.Waiting.{Sane, inside, below, free, first}
use Rattle.console.proofs.Serials.{kept_under}

-- a view with another number of rows
abbrev pub with_count : View → ℕ → View
with_count v count = record v { count = count }

-- a view whose next order is out, with what is shown
abbrev pub with_out : View → List ℕ → View
with_out v shown' = record v { out = true; shown = shown' }

module _ (h : History) (v : View) (k : Coupled h v) (z : Sane v) where
  pub withdraw_couples : (o m stays : ℕ) → o ≡ cond v.out 1 0 → stays ≡ v.at + o → stays ≤ v.count → m ≡ v.count - stays → Coupled (h ▹ withdraw m) (with_count v stays)
  withdraw_couples o m stays e q le d = record {
    number_is = k.number_is;
    first_is = k.first_is;
    total_is = k.total_is;
    latest_is = k.latest_is;
    out_in = k.out_in;
    in_out = k.in_out;
    ack_in = k.ack_in;
    drop_in = λ n x. dropped_in n x;
    in_drop = λ n ge lt. in_dropped n ge lt (dec_lt n (v.base + v.count));
    done = λ n lt w. k.done n lt (record { within = w.within; not_out = w.not_out; not_acknowledged = w.not_acknowledged; not_withdrawn = λ y. w.not_withdrawn (inr y) });
    fresh = k.fresh;
    shown_is = λ i lt ic. k.shown_is i (omega arith) (omega arith);
    order_is = λ i lt ic. k.order_is i (omega arith) (omega arith);
    balance = omega (arith, k.balance);
  }
    where
      waited : (n : ℕ) → Waits h n → Dec (n < v.base + stays) → v.base + stays ≤ n
      waited n w (yes a) = absurd (below h v k z o e n (omega arith) w)
      waited n w (no a) = omega arith

      dropped_in : (n : ℕ) → ((n < length (orders h)) × (¬ Out h n) × (¬ Acknowledged h n) × (¬ Withdrawn h n)) ⊎ Withdrawn h n → (n < v.total) × ((n < v.base) ⊎ (v.base + stays ≤ n))
      dropped_in n (inl x) = (omega (arith, k.total_is, x.0), inr (waited n (record { within = x.0; not_out = x.1; not_acknowledged = x.2; not_withdrawn = x.3 }) (dec_lt n (v.base + stays))))
      dropped_in n (inr y) = ((k.drop_in n y).0, go (k.drop_in n y).1)
        where
          go : (n < v.base) ⊎ (v.base + v.count ≤ n) → (n < v.base) ⊎ (v.base + stays ≤ n)
          go (inl a) = inl a
          go (inr a) = inr (omega arith)

      in_dropped : (n : ℕ) → v.base + stays ≤ n → n < v.total → Dec (n < v.base + v.count) → ((n < length (orders h)) × (¬ Out h n) × (¬ Acknowledged h n) × (¬ Withdrawn h n)) ⊎ Withdrawn h n
      in_dropped n ge lt (yes a) = let w = inside h v k z o e n (omega arith) a in inl (w.within, w.not_out, w.not_acknowledged, w.not_withdrawn)
      in_dropped n ge lt (no a) = inr (k.in_drop n (omega arith) lt)

  module _ (off : v.out ≡ false) (some : v.at < v.count) (few : v.count ≤ length v.shown) (x : ℕ) (more : x ≡ min 255 (get_or v.shown v.at 0 + 1)) (keeps : List Kept) (s : Slip) (i : Issued) (serial : i.serial ≡ v.first + v.base + v.at) where
    pub issue_couples : Coupled (h ▹ issue keeps (Ok (s, i))) (with_out v (set v.shown v.at x))
    issue_couples = record {
      number_is = k.number_is;
      first_is = k.first_is;
      total_is = k.total_is;
      latest_is = k.latest_is;
      out_in = λ n e. (refl, omega (arith, k.first_is));
      in_out = λ _. omega (arith, k.first_is);
      ack_in = k.ack_in;
      drop_in = k.drop_in;
      in_drop = k.in_drop;
      done = λ n lt w. k.done n lt (record { within = w.within; not_out = free h v k z off n; not_acknowledged = w.not_acknowledged; not_withdrawn = w.not_withdrawn });
      fresh = λ n ge.
          let t : eqb i.serial (first_of h + n) ≡ false = ne_eqb _ _ (omega (arith, k.first_is, z.counted)) in
          rw t (k.fresh n ge);
      shown_is = λ j lt jc. shown_is_lem j jc (ℕ_discrete j v.at);
      order_is = k.order_is;
      balance = k.balance;
    }
      where
        shown_is_lem : (j : ℕ) → j < v.count → Dec (j ≡ v.at) → get_or (set v.shown v.at x) j 0 ≡ min 255 (cond (eqb i.serial (first_of h + (v.base + j))) (shown h (v.base + j) + 1) (shown h (v.base + j)))
        shown_is_lem j jc (yes e) =
            let t : eqb i.serial (first_of h + (v.base + j)) ≡ true = eq-eqb _ _ (omega (arith, k.first_is)) in
            let q : get_or v.shown j 0 ≡ min 255 (shown h (v.base + j)) = k.shown_is j some jc in
            let w : get_or v.shown j 0 ≡ get_or v.shown v.at 0 = ap (λ (y : ℕ). get_or v.shown y 0) e in
            let g : get_or (set v.shown v.at x) j 0 ≡ x = ap (λ (y : ℕ). get_or (set v.shown v.at x) y 0) e ∙ get_or-set_same v.shown v.at x 0 (omega arith) in
            rw t (omega (arith, g, q, w, more))
        shown_is_lem j jc (no ne) =
            let t : eqb i.serial (first_of h + (v.base + j)) ≡ false = ne_eqb _ _ (λ e. ne (omega (arith, k.first_is))) in
            rw t (get_or-set_other v.shown v.at j x 0 ne ∙ k.shown_is j some jc)

    pub issue_shows : keeps ≡ kept_in (with_out v (set v.shown v.at x)) → i.recipe ≡ (order_at v v.at).recipe → i.first ≡ (order_at v v.at).first → i.words ≡ (order_at v v.at).words → i.earlier ≡ get_or v.shown v.at 0 → s.number ≡ v.number → s.serial ≡ v.first + v.base + v.at → Shows h keeps s i
    issue_shows is recipe start words earlier number same =
        let o = k.order_is v.at some some in
        let sum : serial_of h (v.base + v.at) ≡ v.first + v.base + v.at = omega (arith, k.first_is) in record {
          free = free h v k z off;
          n = v.base + v.at;
          next = first h v k z off some;
          serial = serial ∙ sym sum;
          recipe = recipe ∙ ap (λ y. y.recipe) o;
          first = start ∙ ap (λ y. y.first) o;
          words = words ∙ ap (λ y. y.words) o;
          earlier = earlier ∙ k.shown_is v.at some some;
          whole = rw (sum, is) (ap (option_map (λ (y : Kept). y.order)) (kept_under (with_out v (set v.shown v.at x)) v.at some some) ∙ ap Some o);
          slip = record { number = number ∙ sym k.number_is; serial = same ∙ sym sum };
        }
