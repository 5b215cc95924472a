-- What waits, is out and is kept, by the state that the history led to.
use Rattle.std.proofs.Common.{◌≡◌, ℕ, zero, suc, ◌+◌, ◌-◌, ◌<◌, ◌≤◌, min, Bool, true, false, cond, ◌⊎◌, length, get_or, is_some, Some, Option, sym, refl, ap, ◌∙◌, subst, inl, inr, arith}
use native.Mathlib.Decide.{dec_lt}
use Rattle.console.specs.Keeps.{View, order_at}
use Rattle.console.specs.History.{Event, History, ◌▹◌, Deed, deed, nothing, orders_by, no_accepted, Counted, none, one, skip, Waits, Out, Idle, Busy, IsKept, Free, First, orders}
use Rattle.console.specs.Right.{Outs, Told, Withdraws}
use Rattle.console.specs.State.{Coupled}

-- of the numbers below n, those from lo to hi have P, and no others
pub between : (P : ℕ → Type 0) (lo hi : ℕ) → ((n : ℕ) → n < lo → ¬ P n) → ((n : ℕ) → lo ≤ n → n < hi → P n) → ((n : ℕ) → hi ≤ n → ¬ P n) → (n : ℕ) → Counted P n (min n hi - lo)
between P lo hi below inside above zero = subst (Counted P 0) (omega arith) none
between P lo hi below inside above (suc n) =
    let before : Counted P n (min n hi - lo) = between P lo hi below inside above n in
    let step : Dec (n < lo) → Dec (n < hi) → Counted P (suc n) (min (suc n) hi - lo) =
    elim [
      | yes a ↦ λ d. subst (Counted P (suc n)) (omega arith) (skip (below n a) before)
      | no a ↦ elim [
        | yes b ↦ subst (Counted P (suc n)) (omega arith) (one (inside n (omega arith) b) before)
        | no b ↦ subst (Counted P (suc n)) (omega arith) (skip (above n (omega arith)) before)
      ]
    ] in
    step (dec_lt n lo) (dec_lt n hi)

-- a call that did nothing leaves the tie as it was
pub nothing_couples : (h : History) (v : View) (e : Event) → deed e ≡ nothing → Coupled h v → Coupled (h ▹ e) v
nothing_couples h v e q k = record {
  number_is = k.number_is;
  first_is = k.first_is;
  total_is = rw q k.total_is;
  latest_is = rw q k.latest_is;
  out_in = rw q k.out_in;
  in_out = rw q k.in_out;
  ack_in = rw q k.ack_in;
  drop_in = rw q k.drop_in;
  in_drop = rw q k.in_drop;
  done = λ n lt w. k.done n lt (record { within = rw q at w.within; not_out = rw q at w.not_out; not_acknowledged = rw q at w.not_acknowledged; not_withdrawn = rw q at w.not_withdrawn });
  fresh = rw q k.fresh;
  shown_is = rw q k.shown_is;
  order_is = subst (λ (d : Deed). (i : ℕ) → v.at < v.count → i < v.count → order_at v i ≡ (get_or (orders_by d (orders h)) (v.base + i) no_accepted).order) (sym q) k.order_is;
  balance = rw q k.balance;
}

-- what always holds of a console's parts
pub record Sane (v : View) : Type 0 where
  pub reached : v.at ≤ v.count
  pub counted : v.base + v.count ≤ v.total
  pub shows : v.out ≡ true → v.at < v.count

-- the order that is out is among the rows
pub out_fits : (v : View) → Sane v → v.at + cond v.out 1 0 ≤ v.count
out_fits v z = go v.out refl
  where
    go : (b : Bool) → v.out ≡ b → v.at + cond b 1 0 ≤ v.count
    go true t = let lt = z.shows t in omega arith
    go false f = omega (arith, z.reached)

module _ (h : History) (v : View) (k : Coupled h v) (z : Sane v) where
  pub gone : (n : ℕ) → v.base + v.count ≤ n → ¬ Waits h n
  gone n ge w = w.not_withdrawn (k.in_drop n ge (omega (arith, k.total_is, w.within)))

  pub inside : (o : ℕ) → o ≡ cond v.out 1 0 → (n : ℕ) → v.base + (v.at + o) ≤ n → n < v.base + v.count → Waits h n
  inside o e n lo hi = record {
    within = omega (arith, k.total_is, z.counted);
    not_out = λ x. out v.out (k.out_in n x).0 e (k.out_in n x).1;
    not_acknowledged = λ x. let y = k.ack_in n x in omega arith;
    not_withdrawn = λ x. let y = (k.drop_in n x).1 in drop y;
  }
    where
      out : (b : Bool) → b ≡ true → o ≡ cond b 1 0 → n ≡ v.base + v.at → ⊥
      out true t q s = omega arith
      out false t q s = cc

      drop : (n < v.base) ⊎ (v.base + v.count ≤ n) → ⊥
      drop (inl a) = omega arith
      drop (inr a) = omega arith

  pub below : (o : ℕ) → o ≡ cond v.out 1 0 → (n : ℕ) → n < v.base + (v.at + o) → ¬ Waits h n
  below o e n lt = busy v.out refl e
    where
      busy : (b : Bool) → v.out ≡ b → o ≡ cond b 1 0 → ¬ Waits h n
      busy true t q w = step (dec_lt n (v.base + v.at))
        where
          step : Dec (n < v.base + v.at) → ⊥
          step (yes a) = k.done n a w
          step (no a) =
              let same : v.base + v.at ≡ n = omega arith in
              w.not_out (subst (Out h) same (k.in_out t))
      busy false t q w = k.done n (omega arith) w

  -- what waits lies between the order that is out, or the first not done, and the end of the line
  pub waiting : (o : ℕ) → o ≡ cond v.out 1 0 → Counted (Waits h) (length (orders h)) (v.count - (v.at + o))
  waiting o e =
      let most : min (length (orders h)) (v.base + v.count) - (v.base + (v.at + o)) ≡ v.count - (v.at + o) = omega (arith, k.total_is, z.counted) in
      subst (Counted (Waits h) (length (orders h))) most
      (between (Waits h) (v.base + (v.at + o)) (v.base + v.count) (below o e) (inside o e) gone (length (orders h)))

  pub waiting_out : v.out ≡ true → (m : ℕ) → m ≡ v.count - (v.at + 1) → Counted (Waits h) (length (orders h)) m
  waiting_out t m e = rw e (waiting 1 (rw t refl))

  pub waiting_free : v.out ≡ false → (m : ℕ) → m ≡ v.count - v.at → Counted (Waits h) (length (orders h)) m
  waiting_free t m e =
      let q : m ≡ v.count - (v.at + 0) = omega arith in
      rw q (waiting 0 (rw t refl))

  pub idle : v.count ≤ v.at → Idle h
  idle end n = (λ o. let lt = z.shows (k.out_in n o).0 in omega arith, λ w. go (dec_lt n (v.base + v.at)) w)
    where
      go : Dec (n < v.base + v.at) → ¬ Waits h n
      go (yes a) w = k.done n a w
      go (no a) w = gone n (omega arith) w

  pub free : v.out ≡ false → Free h
  free f n o = let y : v.out ≡ true = (k.out_in n o).0 in cc

  -- the order at `at` is out, or else the first that waits
  pub first : v.out ≡ false → v.at < v.count → First h (v.base + v.at)
  first f lt = record {
    waits = inside 0 (rw f refl) (v.base + v.at) (omega arith) (omega arith);
    least = λ m less. k.done m less;
  }

  pub busy : v.at < v.count → Busy h
  busy lt = (v.base + v.at, go v.out refl)
    where
      go : (b : Bool) → v.out ≡ b → Out h (v.base + v.at) ⊎ Waits h (v.base + v.at)
      go true t = inl (k.in_out t)
      go false f = inr (first f lt).waits

  pub busy_at : Busy h → v.at < v.count
  busy_at b = go (dec_lt v.at v.count)
    where
      never : ⊥ → v.at < v.count
      never x = absurd x

      not_idle : (n : ℕ) → Out h n ⊎ Waits h n → Idle h → ⊥
      not_idle n (inl o) i = (i n).0 o
      not_idle n (inr w) i = (i n).1 w

      go : Dec (v.at < v.count) → v.at < v.count
      go (yes a) = a
      go (no a) = never (not_idle b.0 b.1 (idle (omega arith)))

  -- the kept orders are the rows of the line
  pub kept_row : (i : ℕ) → v.at < v.count → i < v.count → IsKept h (v.base + i)
  kept_row i lt ic = record {
    busy = busy lt;
    from = omega (arith, k.latest_is);
    within = omega (arith, k.total_is, z.counted);
    not_withdrawn = λ x. drop (k.drop_in (v.base + i) x).1;
  }
    where
      drop : (v.base + i < v.base) ⊎ (v.base + v.count ≤ v.base + i) → ⊥
      drop (inl a) = omega arith
      drop (inr a) = omega arith

  pub row_is_kept : (n : ℕ) → IsKept h n → (v.at < v.count) × (v.base ≤ n) × (n < v.base + v.count)
  row_is_kept n q = (busy_at q.busy, omega (arith, k.latest_is, q.from), go (dec_lt n (v.base + v.count)))
    where
      never : ⊥ → n < v.base + v.count
      never x = absurd x

      go : Dec (n < v.base + v.count) → n < v.base + v.count
      go (yes a) = a
      go (no a) = never (q.not_withdrawn (k.in_drop n (omega arith) (omega (arith, k.total_is, q.within))))

  -- how many are out, by the state
  pub outs : {o : ℕ} → Outs h o → o ≡ cond v.out 1 0
  outs (Outs.one n x) = rw (k.out_in n x).0 refl
  outs (Outs.none f) = go v.out refl
    where
      go : (b : Bool) → v.out ≡ b → ◌≡◌ {A = ℕ} 0 (cond b 1 0)
      go true t = absurd (f (v.base + v.at) (k.in_out t))
      go false t = refl

  -- status's answer
  pub tells : (m : ℕ) (out : Option ℕ) → m ≡ v.count - (v.at + cond v.out 1 0) → is_some out ≡ v.out → ((serial : ℕ) → out ≡ Some serial → serial ≡ v.first + v.base + v.at) → Told h (record { waiting = m; out = out })
  tells m out e is shows =
      let o : ℕ = cond v.out 1 0 in
      let fits : v.at + o ≤ v.count = out_fits v z in record {
        waiting = rw e (waiting o refl);
        out = λ serial q. (v.base + v.at, k.in_out (sym is ∙ ap is_some q), shows serial q ∙ omega (arith, k.first_is));
        none = λ q. free (sym is ∙ ap is_some q);
        balance = rw is (omega (arith, k.total_is, k.balance));
      }

  -- withdraw's answer
  pub withdraws : (o m : ℕ) → o ≡ cond v.out 1 0 → v.at + o ≤ v.count → m ≡ v.count - (v.at + o) → Withdraws h m
  withdraws o m e le q = record {
    waited = rw q (waiting o e);
    balance = λ out x.
        let same : out ≡ o = outs x ∙ sym e in
        omega (arith, k.total_is, k.balance);
  }
