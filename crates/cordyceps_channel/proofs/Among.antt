-- That what a sender sent is among what came in, in its order.
use Rattle.std.proofs.Common.{◌≡◌, Bool, true, false, ◌≤◌, List, [], ◌∷◌, ◌++◌, length, cond, refl, ap, ◌∙◌, subst, sym, append_assoc, inl, inr, ⊎_elim, arith}
use Rattle.std.specs.Prelude.{Result, Ok, Err, IfOk}
use Rattle.std.proofs.lemmas.List.{length-append}
use Rattle.std.proofs.lemmas.List.Concat.{flat_map-append}
use Rattle.cordyceps_shared.specs.Histories.{plain, own, others}
use Rattle.cordyceps_shared.specs.Interleaving.{Interleaves}
use Rattle.cordyceps_shared.specs.Knowing.{IsPrefixOf}
use Rattle.cordyceps_shared.specs.Shares.{Name}
use Rattle.cordyceps_queue.specs.History.{Event, comes, came}
use Rattle.cordyceps_queue.specs.Shared.Calls.{PartyOf}
use Rattle.cordyceps_channel.specs.Channels.{AreAmong, Sends, Receives, TellsReceiver, IsOver, sent, received}
use Rattle.cordyceps_channel.proofs.Received.{receives_then, moves_sent}

module _ {E : Type 0} where
  none_of : (zs : List E) → Interleaves [] zs zs
  none_of [] = (refl, refl)
  none_of (z ∷ zs) = inr (zs, refl, none_of zs)

  -- items that come before both stay in front of these
  mine_first : (front xs ys zs : List E) → Interleaves xs ys zs → Interleaves (front ++ xs) ys (front ++ zs)
  mine_first [] xs ys zs h = h
  mine_first (a ∷ front) xs ys zs h = inl (front ++ xs, refl, mine_first front xs ys zs h)

  others_first : (front xs ys zs : List E) → Interleaves xs ys zs → Interleaves xs (front ++ ys) (front ++ zs)
  others_first [] xs ys zs h = h
  others_first (a ∷ front) xs ys zs h = inr (front ++ ys, refl, others_first front xs ys zs h)

  -- what comes in later is of others
  then_others : (xs ys zs more : List E) → Interleaves xs ys zs → Interleaves xs (ys ++ more) (zs ++ more)
  then_others xs ys [] more h = subst (λ l. Interleaves l (ys ++ more) more) (sym h.0) (subst (λ l. Interleaves [] (l ++ more) more) (sym h.1) (none_of more))
  then_others xs ys (z ∷ zs) more h = ⊎_elim
      (λ t. let (rest, is, then) = t in inl (rest, is, then_others rest ys zs more then))
      (λ t. let (rest, is, then) = t in inr (rest ++ more, ap (λ l. l ++ more) is, then_others xs rest zs more then)) h

  -- what came by events with a mark, and by the others
  pub own_split : (xs : List (Bool × Event Name E)) → Interleaves (came (own xs)) (came (others xs)) (came (plain xs))
  own_split [] = (refl, refl)
  own_split (x ∷ xs) = marked x.0 (own_split xs)
    where
      marked : (b : Bool) → Interleaves (came (own xs)) (came (others xs)) (came (plain xs)) → Interleaves (came (cond b (x.1 ∷ own xs) (own xs))) (came (cond b (others xs) (x.1 ∷ others xs))) (comes x.1 ++ came (plain xs))
      marked true h = mine_first (comes x.1) (came (own xs)) (came (others xs)) (came (plain xs)) h
      marked false h = others_first (comes x.1) (came (own xs)) (came (others xs)) (came (plain xs)) h

  own_among : (xs : List (Bool × Event Name E)) → AreAmong (came (own xs)) (came (plain xs))
  own_among xs = (came (others xs), own_split xs)

  -- who has seen all that a sender had seen finds what it sent among all that came in
  pub sent_among : (u : PartyOf E) (h : List (Event Name E)) → IsPrefixOf (plain u.seen) h → AreAmong (sent u) (came h)
  sent_among u h told =
      let mine = own_among u.seen in
      let all : came h ≡ came (plain u.seen) ++ came told.0 = ap came told.1 ∙ flat_map-append comes (plain u.seen) told.0 in
      (mine.0 ++ came told.0, subst (λ l. Interleaves (sent u) (mine.0 ++ came told.0) l) (sym all) (then_others (sent u) mine.0 (came (plain u.seen)) (came told.0) mine.1))

  -- ---- what a call says that receives all, of a call before it
  pub all_received : {X A : Type 0} (items : X → List E) (r : Result X A) (u v w : PartyOf E) → Receives [] u v → IfOk r (λ x. Receives (items x) v w × IsOver w) → IfOk r (λ x. Receives (items x) u w × IsOver w)
  all_received items (Ok x) u v w before h = (receives_then u v w [] (items x) before h.0, h.1)
  all_received items (Err e) u v w before h = h

  -- a sender of which the receiver knew all, before it received the rest
  pub order_kept : {X A : Type 0} (items : X → List E) (r : Result X A) (u v w : PartyOf E) → IsPrefixOf (plain u.seen) (plain v.seen) → IfOk r (λ x. Receives (items x) v w × IsOver w) → IfOk r (λ _. AreAmong (sent u) (received w))
  order_kept items (Ok x) u v w told h =
      let later = h.0.seen in
      let all = later.1 ∙ (ap (λ l. l ++ later.0) told.1 ∙ append_assoc (plain u.seen) told.0 later.0) in
      subst (λ l. AreAmong (sent u) l) (sym h.1.all) (sent_among u (plain w.seen) (told.0 ++ later.0, all))
  order_kept items (Err e) u v w told h = h

  no_more : (xs ys zs : List E) → Interleaves xs ys zs → length xs ≤ length zs
  no_more xs ys [] h = subst (λ l. length l ≤ 0) (sym h.0) (omega arith)
  no_more xs ys (z ∷ zs) h = ⊎_elim
      (λ t. let (rest, is, then) = t in omega (arith, ap length is, no_more rest ys zs then))
      (λ t. let (rest, is, then) = t in omega (arith, no_more xs rest zs then)) h

  -- a sender that sent an element knows of more than a receiver has received that received nothing
  pub tells_of : (e : E) (u v w : PartyOf E) → Sends e u w → received v ≡ [] → TellsReceiver (plain w.seen) v
  tells_of e u v w m none =
      let mine = own_among w.seen in
      let few : length (sent w) ≤ length (came (plain w.seen)) = no_more (sent w) mine.0 (came (plain w.seen)) mine.1 in
      omega (arith, few, ap length (moves_sent u w (e ∷ []) m), length-append (sent u) (e ∷ []), ap length none)
