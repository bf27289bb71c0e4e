-- What the receivers of a select received, from what each of them did.
use Rattle.std.proofs.Common.{◌≡◌, ◌≢◌, ◌⊎◌, ℕ, zero, suc, ◌+◌, ◌<◌, ◌≤◌, List, [], ◌∷◌, length, set, get_or, refl, ap, sym, subst, inl, inr, ⊎_elim, arith}
use Rattle.cordyceps_shared.specs.Shares.{whole}
use Rattle.cordyceps_queue.specs.Shared.Calls.{PartyOf}
use Rattle.cordyceps_channel.specs.declared.errors.TryRecvError.{TryRecvError}
use Rattle.cordyceps_channel.specs.declared.errors.TryRecvError.TheVariants as why
use Rattle.cordyceps_channel.specs.Channels.{Receives, FindsNone}
use Rattle.cordyceps_channel.specs.Selects.{At, Each, EachReceives, only, ReceivesAt, ReceivesNothing, SelectsNone, AreOver, worst, Finds, InRow, HasOpen, RowFindsNone}
use Rattle.cordyceps_channel.proofs.Received.{receives_none, receives_then}
use Rattle.cordyceps_channel.proofs.Waiting.{finds_none, finds_later}

module _ {E : Type 0} where
  -- ---- of each receiver
  pub each_same : (P : ℕ → PartyOf E → PartyOf E → Type 0) (us : List (PartyOf E)) → ((n : ℕ) (u : PartyOf E) → P n u u) → Each P us us
  each_same P [] h = tt
  each_same P (u ∷ us) h = (h 0 u, each_same (λ n. P (suc n)) us (λ n v. h (suc n) v))

  pub each_as : (P Q : ℕ → PartyOf E → PartyOf E → Type 0) (us ws : List (PartyOf E)) → ((n : ℕ) (u w : PartyOf E) → P n u w → Q n u w) → Each P us ws → Each Q us ws
  each_as P Q [] [] h a = tt
  each_as P Q [] (w ∷ ws) h a = absurd a
  each_as P Q (u ∷ us) [] h a = absurd a
  each_as P Q (u ∷ us) (w ∷ ws) h a = (h 0 u w a.0, each_as (λ n. P (suc n)) (λ n. Q (suc n)) us ws (λ n v x. h (suc n) v x) a.1)

  pub each_then : (P Q R : ℕ → PartyOf E → PartyOf E → Type 0) (us vs ws : List (PartyOf E)) → ((n : ℕ) (u v w : PartyOf E) → P n u v → Q n v w → R n u w) → Each P us vs → Each Q vs ws → Each R us ws
  each_then P Q R [] [] [] h a b = tt
  each_then P Q R [] [] (w ∷ ws) h a b = absurd b
  each_then P Q R [] (v ∷ vs) ws h a b = absurd a
  each_then P Q R (u ∷ us) [] ws h a b = absurd a
  each_then P Q R (u ∷ us) (v ∷ vs) [] h a b = absurd b
  each_then P Q R (u ∷ us) (v ∷ vs) (w ∷ ws) h a b = (h 0 u v w a.0 b.0, each_then (λ n. P (suc n)) (λ n. Q (suc n)) (λ n. R (suc n)) us vs ws (λ n x y z. h (suc n) x y z) a.1 b.1)

  pub as_many : (P : ℕ → PartyOf E → PartyOf E → Type 0) (us ws : List (PartyOf E)) → Each P us ws → length us ≡ length ws
  as_many P [] [] h = refl
  as_many P [] (w ∷ ws) h = absurd h
  as_many P (u ∷ us) [] h = absurd h
  as_many P (u ∷ us) (w ∷ ws) h = ap suc (as_many (λ n. P (suc n)) us ws h.1)

  -- each number is below that of the receivers
  each_below : (P : ℕ → PartyOf E → PartyOf E → Type 0) (us ws : List (PartyOf E)) → Each P us ws → Each (λ n u w. (n < length us) × P n u w) us ws
  each_below P [] [] h = tt
  each_below P [] (w ∷ ws) h = absurd h
  each_below P (u ∷ us) [] h = absurd h
  each_below P (u ∷ us) (w ∷ ws) h =
      let more = each_below (λ n. P (suc n)) us ws h.1 in (
        (omega arith, h.0),
        each_as (λ n v x. (n < length us) × P (suc n) v x) (λ n v x. (suc n < suc (length us)) × P (suc n) v x) us ws (λ n v x t. (omega (arith, t.0), t.1)) more,
      )

  -- receiver i went on from v to w
  pub each_set : (P Q : ℕ → PartyOf E → PartyOf E → Type 0) (us vs : List (PartyOf E)) (i : ℕ) (v w : PartyOf E) → Each P us vs → i < length vs → get_or vs i v ≡ v
      → ((n : ℕ) (u x : PartyOf E) → n ≢ i → P n u x → Q n u x) → ((u : PartyOf E) → P i u v → Q i u w) → Each Q us (set vs i w)
  each_set P Q [] [] i v w a there is else here = absurd (omega (arith, there))
  each_set P Q [] (x ∷ xs) i v w a there is else here = absurd a
  each_set P Q (u ∷ us) [] i v w a there is else here = absurd a
  each_set P Q (u ∷ us) (x ∷ xs) zero v w a there is else here = (
    here u (subst (λ z. P 0 u z) is a.0),
    each_as (λ n. P (suc n)) (λ n. Q (suc n)) us xs (λ n y z. else (suc n) y z (λ e. omega (arith, e))) a.1,
  )
  each_set P Q (u ∷ us) (x ∷ xs) (suc i) v w a there is else here = (
    else 0 u x (λ e. omega (arith, e)) a.0,
    each_set (λ n. P (suc n)) (λ n. Q (suc n)) us xs i v w a.1 (omega (arith, there)) is (λ n y z ne. else (suc n) y z (λ e. ne (omega (arith, e)))) here,
  )

  -- what holds of one receiver still does, where it is as it was, or where it is another that went on
  at_still : (P : ℕ → PartyOf E → PartyOf E → Type 0) (Q : PartyOf E → Type 0) (n : ℕ) (vs ws : List (PartyOf E)) → Each P vs ws → ((v w : PartyOf E) → P n v w → Q v → Q w) → At n Q vs → At n Q ws
  at_still P Q n [] ws a h q = absurd q
  at_still P Q n (v ∷ vs) [] a h q = absurd a
  at_still P Q zero (v ∷ vs) (w ∷ ws) a h q = h v w a.0 q
  at_still P Q (suc n) (v ∷ vs) (w ∷ ws) a h q = at_still (λ k. P (suc k)) Q n vs ws a.1 h q

  at_else : (Q : PartyOf E → Type 0) (n i : ℕ) (vs : List (PartyOf E)) (w : PartyOf E) → n ≢ i → At n Q vs → At n Q (set vs i w)
  at_else Q n i [] w ne q = absurd q
  at_else Q zero zero (v ∷ vs) w ne q = absurd (ne refl)
  at_else Q zero (suc i) (v ∷ vs) w ne q = q
  at_else Q (suc n) zero (v ∷ vs) w ne q = q
  at_else Q (suc n) (suc i) (v ∷ vs) w ne q = at_else Q n i vs w (λ e. ne (ap suc e)) q

  at_here : (Q : PartyOf E → Type 0) (i : ℕ) (vs : List (PartyOf E)) (w : PartyOf E) → i < length vs → Q w → At i Q (set vs i w)
  at_here Q i [] w there q = absurd (omega (arith, there))
  at_here Q zero (v ∷ vs) w there q = q
  at_here Q (suc i) (v ∷ vs) w there q = at_here Q i vs w (omega (arith, there)) q

  -- ---- elements
  pub none_received : (us : List (PartyOf E)) → ReceivesNothing us us
  none_received us = each_same (λ n. Receives []) us (λ n u. receives_none u)

  only_here : (i : ℕ) (e : E) → e ∷ [] ≡ only i e i
  only_here zero e = refl
  only_here (suc i) e = only_here i e

  only_else : (i : ℕ) (e : E) (n : ℕ) → n ≢ i → [] ≡ only i e n
  only_else zero e zero ne = absurd (ne refl)
  only_else zero e (suc n) ne = refl
  only_else (suc i) e zero ne = refl
  only_else (suc i) e (suc n) ne = only_else i e n (λ s. ne (ap suc s))

  -- one more receiver was asked, and received e
  pub then_one : (us vs : List (PartyOf E)) (i : ℕ) (e : E) (v w : PartyOf E) → ReceivesNothing us vs → i < length vs → get_or vs i v ≡ v → Receives (e ∷ []) v w → ReceivesAt i e us (set vs i w)
  then_one us vs i e v w h there is r = record {
    there = omega (arith, as_many (λ n. Receives []) us vs h, there);
    each = each_set (λ n. Receives []) (λ n. Receives (only i e n)) us vs i v w h there is (λ n u x ne a. subst (λ l. Receives l u x) (only_else i e n ne) a)
        (λ u a. subst (λ l. Receives l u w) (only_here i e) (receives_then u v w [] (e ∷ []) a r));
  }

  -- ---- what a call says, of a call before it
  none_then : (f : ℕ → List E) (us vs ws : List (PartyOf E)) → ReceivesNothing us vs → EachReceives f vs ws → EachReceives f us ws
  none_then f us vs ws a b = each_then (λ n. Receives []) (λ n. Receives (f n)) (λ n. Receives (f n)) us vs ws (λ n u v w. receives_then u v w [] (f n)) a b

  pub found_later : (i : ℕ) (e : E) (us vs ws : List (PartyOf E)) → ReceivesNothing us vs → ReceivesAt i e vs ws → ReceivesAt i e us ws
  found_later i e us vs ws none h = record { there = omega (arith, as_many (λ n. Receives []) us vs none, h.there); each = none_then (only i e) us vs ws none h.each }

  pub nothing_later : (us vs ws : List (PartyOf E)) → ReceivesNothing us vs → ReceivesNothing vs ws → ReceivesNothing us ws
  nothing_later us vs ws none h = none_then (λ n. []) us vs ws none h

  pub none_later : (y : TryRecvError) (us vs ws : List (PartyOf E)) → ReceivesNothing us vs → SelectsNone y vs ws → SelectsNone y us ws
  none_later why.Empty us vs ws none h = record {
    each = each_then (λ n. Receives []) (λ n u w. (y : TryRecvError) × FindsNone y u w) (λ n u w. (y : TryRecvError) × FindsNone y u w) us vs ws (λ n u v w a b. (b.0, finds_later b.0 u v w a b.1)) none h.each;
    index = h.index;
    others = h.others;
  }
  none_later why.Disconnected us vs ws none h = (nothing_later us vs ws none h.0, h.1)

  nothing_selected : (y : TryRecvError) (us ws : List (PartyOf E)) → SelectsNone y us ws → ReceivesNothing us ws
  nothing_selected why.Empty us ws h = each_as (λ n u w. (y : TryRecvError) × FindsNone y u w) (λ n. Receives []) us ws (λ n u w a. finds_none a.0 u w a.1) h.each
  nothing_selected why.Disconnected us ws h = h.0

  pub selects_empty : (y : TryRecvError) (us vs ws : List (PartyOf E)) → ReceivesNothing us vs → SelectsNone y vs ws → ReceivesNothing us ws
  selects_empty y us vs ws none h = nothing_later us vs ws none (nothing_selected y vs ws h)

  pub selects_as : (y z : TryRecvError) (us vs ws : List (PartyOf E)) → y ≡ z → ReceivesNothing us vs → SelectsNone y vs ws → SelectsNone z us ws
  selects_as y z us vs ws is none h = none_later z us vs ws none (subst (λ x. SelectsNone x vs ws) is h)

  -- ---- rows
  finds_one : (y z : TryRecvError) (u w : PartyOf E) → FindsNone z u w → Finds (worst y z) u w
  finds_one why.Disconnected why.Disconnected u w h = h
  finds_one why.Disconnected why.Empty u w h = (why.Empty, h)
  finds_one why.Empty z u w h = (z, h)

  finds_worse : (y z : TryRecvError) (u w : PartyOf E) → Finds y u w → Finds (worst y z) u w
  finds_worse why.Disconnected why.Disconnected u w h = h
  finds_worse why.Disconnected why.Empty u w h = (why.Disconnected, h)
  finds_worse why.Empty z u w h = h

  finds_found : (y : TryRecvError) (u w : PartyOf E) → Finds y u w → (z : TryRecvError) × FindsNone z u w
  finds_found why.Disconnected u w h = (why.Disconnected, h)
  finds_found why.Empty u w h = h

  finds_last : (y z : TryRecvError) (u w : PartyOf E) → Finds z u w → Finds (worst y z) u w
  finds_last why.Disconnected z u w h = h
  finds_last why.Empty z u w h = finds_found z u w h

  pub row_begins : (first : ℕ) (us : List (PartyOf E)) → RowFindsNone why.Disconnected first first us us
  row_begins first us = record { each = each_same (InRow why.Disconnected first first) us (λ n u. inr record { outside = either_side n; same = refl }); others = tt }
    where
      either_side : (n : ℕ) → (n < first) ⊎ (first ≤ n)
      either_side n = search arith

  pub row_nothing : (y : TryRecvError) (first end : ℕ) (us ws : List (PartyOf E)) → RowFindsNone y first end us ws → ReceivesNothing us ws
  row_nothing y first end us ws r = each_as (InRow y first end) (λ n. Receives []) us ws
      (λ n u w p. ⊎_elim (λ a. let t = finds_found y u w a.found in finds_none t.0 u w t.1) (λ l. subst (λ z. Receives [] u z) (sym l.same) (receives_none u)) p) r.each

  -- one more receiver was asked, and found none
  pub row_goes_on : (y z : TryRecvError) (first i : ℕ) (us vs : List (PartyOf E)) (v w : PartyOf E) → RowFindsNone y first i us vs → first ≤ i → i < length vs → get_or vs i v ≡ v → FindsNone z v w
      → RowFindsNone (worst y z) first (i + 1) us (set vs i w)
  row_goes_on y z first i us vs v w r from there is found = record {
    each = each_set (InRow y first i) (InRow (worst y z) first (i + 1)) us vs i v w r.each there is else here;
    others = others y z r.others found;
  }
    where
      else : (n : ℕ) (u x : PartyOf E) → n ≢ i → InRow y first i n u x → InRow (worst y z) first (i + 1) n u x
      else n u x ne p = ⊎_elim (λ a. inl record { from = a.from; below = omega (arith, a.below); found = finds_worse y z u x a.found })
          (λ l. inr record { outside = ⊎_elim (λ b. inl b) (λ b. inr (omega (arith, b, ne))) l.outside; same = l.same }) p

      here : (u : PartyOf E) → InRow y first i i u v → InRow (worst y z) first (i + 1) i u w
      here u p = ⊎_elim (λ a. absurd (omega (arith, a.below)))
          (λ l. inl record { from = from; below = omega arith; found = finds_one y z u w (subst (λ (x : PartyOf E). FindsNone z x w) l.same found) }) p

      others : (y z : TryRecvError) → HasOpen y first i vs → FindsNone z v w → HasOpen (worst y z) first (i + 1) (set vs i w)
      others why.Disconnected why.Disconnected h f = tt
      others why.Disconnected why.Empty h f = (i, record { from = from; below = omega arith; others = at_here (λ x. x.share ≢ whole) i vs w there f.others })
      others why.Empty z h f =
          let n = h.0 in
          let o = h.1 in (
            n,
            record { from = o.from; below = omega (arith, o.below); others = at_else (λ x. x.share ≢ whole) n i vs w (λ e. omega (arith, e, o.below)) o.others },
          )

  -- two rows, which have all receivers
  module _ (y z : TryRecvError) (turn : ℕ) (us vs ws : List (PartyOf E)) (r : RowFindsNone y turn (length us) us vs) (q : RowFindsNone z 0 turn vs ws) where
    all_asked : Each (λ n. Finds (worst y z)) us ws
    all_asked = each_then (λ n u v. (n < length us) × InRow y turn (length us) n u v) (InRow z 0 turn) (λ n. Finds (worst y z)) us vs ws
        (λ n u v w a b. ⊎_elim
        (λ s. ⊎_elim (λ t. absurd (omega (arith, s.from, t.below))) (λ l. subst (λ x. Finds (worst y z) u x) (sym l.same) (finds_worse y z u v s.found)) b)
        (λ k. ⊎_elim (λ t. finds_last y z u w (subst (λ (x : PartyOf E). Finds z x w) k.same t.found)) (λ l. absurd (neither n a.0 k.outside l.outside)) b) a.1)
        (each_below (InRow y turn (length us)) us vs r.each) q.each
      where
        neither : (n : ℕ) → n < length us → (n < turn) ⊎ (length us ≤ n) → (n < 0) ⊎ (turn ≤ n) → ⊥
        neither n below left right = ⊎_elim (λ b. ⊎_elim (λ d. omega (arith, d)) (λ d. omega (arith, b, d)) right) (λ b. omega (arith, b, below)) left

    -- the first row is as it was in the second
    first_open : HasOpen why.Empty turn (length us) vs → (n : ℕ) × At n (λ x. x.share ≢ whole) ws
    first_open h =
        let o = h.1 in
        (h.0, at_still (InRow z 0 turn) (λ x. x.share ≢ whole) h.0 vs ws q.each (λ v w p ne. ⊎_elim (λ a. absurd (omega (arith, a.below, o.from))) (λ l. subst (λ (x : PartyOf E). x.share ≢ whole) (sym l.same) ne) p) o.others)

  are_over : (us ws : List (PartyOf E)) → Each (λ n. FindsNone why.Disconnected) us ws → ReceivesNothing us ws × AreOver ws
  are_over [] [] h = (tt, tt)
  are_over [] (w ∷ ws) h = absurd h
  are_over (u ∷ us) [] h = absurd h
  are_over (u ∷ us) (w ∷ ws) h = let t = are_over us ws h.1 in ((h.0.0, t.0), (h.0.1, t.1))

  pub both_rows : (y z : TryRecvError) (turn : ℕ) (us vs ws : List (PartyOf E)) → RowFindsNone y turn (length us) us vs → RowFindsNone z 0 turn vs ws → SelectsNone (worst y z) us ws
  both_rows why.Disconnected why.Disconnected turn us vs ws r q = are_over us ws (all_asked why.Disconnected why.Disconnected turn us vs ws r q)
  both_rows why.Disconnected why.Empty turn us vs ws r q = record {
    each = all_asked why.Disconnected why.Empty turn us vs ws r q;
    index = q.others.0;
    others = q.others.1.others;
  }
  both_rows why.Empty z turn us vs ws r q =
      let o = first_open why.Empty z turn us vs ws r q r.others in
      record { each = all_asked why.Empty z turn us vs ws r q; index = o.0; others = o.1 }
