-- What a select received from all of its channels, and what it learned of one.
use Rattle.std.proofs.Common.{◌≡◌, ℕ, zero, suc, ◌<◌, List, [], ◌∷◌, ◌++◌, length, set, get_or, refl, ap, sym, ◌∙◌, subst, append_assoc, arith}
use Rattle.std.specs.Prelude.{Result, Ok, Err, IfOk}
use Rattle.std.proofs.lemmas.List.{append-nil}
use Rattle.cordyceps_shared.specs.Histories.{plain}
use Rattle.cordyceps_shared.specs.Knowing.{IsPrefixOf}
use Rattle.cordyceps_shared.specs.Shares.{Name}
use Rattle.cordyceps_queue.specs.History.{Event}
use Rattle.cordyceps_queue.specs.Shared.Calls.{PartyOf}
use Rattle.cordyceps_channel.specs.declared.select.Selected.{Selected}
use Rattle.cordyceps_channel.specs.Channels.{Receives, IsOver, AreAmong, sent, received}
use Rattle.cordyceps_channel.specs.Selects.{At, EachReceives, only, came_from, Selects, LearnsAt, ReceivesNothing, AreOver}
use Rattle.cordyceps_channel.proofs.Among.{sent_among}
use Rattle.cordyceps_channel.proofs.Received.{receives_none, receives_then}
use Rattle.cordyceps_channel.proofs.Selecting.{none_received, each_then}

module _ {E : Type 0} where
  pub at_below : (n : ℕ) (P : PartyOf E → Type 0) (us : List (PartyOf E)) → At n P us → n < length us
  at_below n P [] h = absurd h
  at_below zero P (u ∷ us) h = omega arith
  at_below (suc n) P (u ∷ us) h = omega (arith, at_below n P us h)

  pub at_get : (n : ℕ) (P : PartyOf E → Type 0) (us : List (PartyOf E)) (d : PartyOf E) → At n P us → P (get_or us n d)
  at_get n P [] d h = absurd h
  at_get zero P (u ∷ us) d h = h
  at_get (suc n) P (u ∷ us) d h = at_get n P us d h

  -- ---- a receipt
  pub learned_at : (i : ℕ) (h : List (Event Name E)) (us : List (PartyOf E)) (v w : PartyOf E) → i < length us → get_or us i v ≡ v → Receives [] v w → IsPrefixOf h (plain w.seen) → LearnsAt i h us (set us i w)
  learned_at i h [] v w there is r told = absurd (omega (arith, there))
  learned_at zero h (u ∷ us) v w there is r told = (record { received = subst (λ (z : PartyOf E). Receives [] z w) (sym is) r; told = told }, refl)
  learned_at (suc i) h (u ∷ us) v w there is r told = (refl, learned_at i h us v w (omega (arith, there)) is r told)

  learned_none : (i : ℕ) (h : List (Event Name E)) (us ws : List (PartyOf E)) → LearnsAt i h us ws → ReceivesNothing us ws
  learned_none i h [] ws l = absurd l
  learned_none i h (u ∷ us) [] l = absurd l
  learned_none zero h (u ∷ us) (w ∷ ws) l = (l.0.received, subst (λ (zs : List (PartyOf E)). ReceivesNothing us zs) (sym l.1) (none_received us))
  learned_none (suc i) h (u ∷ us) (w ∷ ws) l = (subst (λ (z : PartyOf E). Receives [] u z) (sym l.0) (receives_none u), learned_none i h us ws l.1)

  -- ---- what each receiver received in two calls
  receives_each : (f g k : ℕ → List E) (us vs ws : List (PartyOf E)) → ((n : ℕ) → f n ++ g n ≡ k n) → EachReceives f us vs → EachReceives g vs ws → EachReceives k us ws
  receives_each f g k us vs ws e a b = each_then (λ n. Receives (f n)) (λ n. Receives (g n)) (λ n. Receives (k n)) us vs ws (λ n u v w r q. subst (λ es. Receives es u w) (e n) (receives_then u v w (f n) (g n) r q)) a b

  -- ---- all elements
  one_more : (n : ℕ) (xs : List (Selected E)) (x : Selected E) → came_from n xs ++ only x.index x.value n ≡ came_from n (xs ++ x ∷ [])
  one_more n [] x = sym (append-nil (only x.index x.value n))
  one_more n (y ∷ ys) x = append_assoc (only y.index y.value n) (came_from n ys) (only x.index x.value n) ∙ ap (λ l. only y.index y.value n ++ l) (one_more n ys x)

  pub selected_none : (us : List (PartyOf E)) → Selects [] us us
  selected_none us = none_received us

  pub selected_more : (xs : List (Selected E)) (x : Selected E) (us vs ws : List (PartyOf E)) → Selects xs us vs → EachReceives (only x.index x.value) vs ws → Selects (xs ++ x ∷ []) us ws
  selected_more xs x us vs ws a b = receives_each (λ n. came_from n xs) (only x.index x.value) (λ n. came_from n (xs ++ x ∷ [])) us vs ws (λ n. one_more n xs x) a b

  pub selected_last : (xs : List (Selected E)) (us vs ws : List (PartyOf E)) → Selects xs us vs → ReceivesNothing vs ws → Selects xs us ws
  selected_last xs us vs ws a b = receives_each (λ n. came_from n xs) (λ n. []) (λ n. came_from n xs) us vs ws (λ n. append-nil (came_from n xs)) a b

  pub all_selected : {X A : Type 0} (items : X → List (Selected E)) (r : Result X A) (i : ℕ) (h : List (Event Name E)) (us vs ws : List (PartyOf E)) → LearnsAt i h us vs
      → IfOk r (λ x. Selects (items x) vs ws × AreOver ws) → IfOk r (λ x. Selects (items x) us ws × AreOver ws)
  all_selected items (Ok x) i h us vs ws l s = (
    receives_each (λ n. []) (λ n. came_from n (items x)) (λ n. came_from n (items x)) us vs ws (λ n. refl) (learned_none i h us vs l) s.0,
    s.1,
  )
  all_selected items (Err e) i h us vs ws l s = s

  -- what is said of the receiver that learned a receipt, and received the rest
  pick : (f : ℕ → List E) (h : List (Event Name E)) (Q : PartyOf E → Type 0) (i : ℕ) (us vs ws : List (PartyOf E)) → LearnsAt i h us vs → EachReceives f vs ws → AreOver ws
      → ((v w : PartyOf E) (es : List E) → IsPrefixOf h (plain v.seen) → Receives es v w → IsOver w → Q w) → At i Q ws
  pick f h Q i [] vs ws a b o q = absurd a
  pick f h Q i (u ∷ us) [] ws a b o q = absurd a
  pick f h Q i (u ∷ us) (v ∷ vs) [] a b o q = absurd b
  pick f h Q zero (u ∷ us) (v ∷ vs) (w ∷ ws) a b o q = q v w (f 0) a.0.told b.0 o.0
  pick f h Q (suc i) (u ∷ us) (v ∷ vs) (w ∷ ws) a b o q = pick (λ n. f (suc n)) h Q i us vs ws a.1 b.1 o.1 q

  pub order_selected : {X A : Type 0} (items : X → List (Selected E)) (r : Result X A) (i : ℕ) (s : PartyOf E) (us vs ws : List (PartyOf E)) → LearnsAt i (plain s.seen) us vs
      → IfOk r (λ x. Selects (items x) vs ws × AreOver ws) → IfOk r (λ _. At i (λ w. AreAmong (sent s) (received w)) ws)
  order_selected items (Ok x) i s us vs ws l h = pick (λ n. came_from n (items x)) (plain s.seen) (λ w. AreAmong (sent s) (received w)) i us vs ws l h.0 h.1
      (λ v w es told r over.
      let all = r.seen.1 ∙ (ap (λ l. l ++ r.seen.0) told.1 ∙ append_assoc (plain s.seen) told.0 r.seen.0) in
      subst (λ l. AreAmong (sent s) l) (sym over.all) (sent_among s (plain w.seen) (told.0 ++ r.seen.0, all)))
  order_selected items (Err e) i s us vs ws l h = h
