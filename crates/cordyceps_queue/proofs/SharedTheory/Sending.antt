-- A call after others of which it is known what they put in and took out, and what is received of what others send.
use Rattle.std.proofs.Common.{◌≡◌, ℕ, List, [], ◌∷◌, ◌++◌, map, subst}
use Rattle.std.specs.Prelude.{Result}
use Rattle.std.proofs.lemmas.List.{append-nil}
use Rattle.atomic_table.specs.Seated.{TableId}
use Rattle.cordyceps_shared.specs.Histories.{plain}
use Rattle.cordyceps_shared.specs.Sending.{Delivers, Splits}
use Rattle.cordyceps_shared.specs.Shares.{whole}
use Rattle.cordyceps_shared.specs.Standings.{new_party, Absorbs}
use Rattle.cordyceps_shared.proofs.Moving.{moves_then}
use Rattle.cordyceps_shared.proofs.Sending as parties
use Rattle.cordyceps_queue.specs.declared.cores.steps.TryDequeueError.{TryDequeueError}
use Rattle.cordyceps_queue.specs.History.{held}
use Rattle.cordyceps_queue.specs.Shared.Batches.{TakesLinked}
use Rattle.cordyceps_queue.specs.Shared.Calls.{PartyOf, Legal, same_name, Enqueues, EnqueuesRefilled, Dequeues}
use Rattle.cordyceps_queue.specs.Shared.Moves.{put_by, got_by, Moves, got_by_try}
use Rattle.cordyceps_queue.specs.Shared.Sending.{Sends}
use Rattle.cordyceps_queue.proofs.SharedTheory.PartyMoves.{all_kept, moves_enqueue, moves_refilled, moves_dequeue, moves_linked}

module _ {E A : Type 0} (f : E → A) where
  pub then_enqueues : {s g : List A} {u v : PartyOf E} (e : E) (w : PartyOf E) → Moves f s g u v → Enqueues e v w → Moves f (s ++ f e ∷ []) g u w
  then_enqueues {s} {g} {u} {v} e w before c = subst (λ z. Moves f (s ++ f e ∷ []) z u w) (append-nil g)
      (moves_then (put_by f) (got_by f) s g (f e ∷ []) [] u v w before (moves_enqueue f e v w c))

  -- an enqueue that may have taken rooms of the pool first
  pub then_refilled : {s g : List A} {u v : PartyOf E} (e : E) (w : PartyOf E) → Moves f s g u v → EnqueuesRefilled e v w → Moves f (s ++ f e ∷ []) g u w
  then_refilled {s} {g} {u} {v} e w before c = subst (λ z. Moves f (s ++ f e ∷ []) z u w) (append-nil g)
      (moves_then (put_by f) (got_by f) s g (f e ∷ []) [] u v w before (moves_refilled f e v w c))

  -- what moved nothing
  pub then_nothing : {s g : List A} {u v : PartyOf E} (w : PartyOf E) → Moves f s g u v → Moves f [] [] v w → Moves f s g u w
  then_nothing {s} {g} {u} {v} w before c = subst (λ (z : List A × List A). Moves f z.0 z.1 u w) (λ i. (append-nil s i, append-nil g i))
      (moves_then (put_by f) (got_by f) s g [] [] u v w before c)

  pub then_dequeues : {s g : List A} {u v : PartyOf E} (r : Result E TryDequeueError) (w : PartyOf E) → Moves f s g u v → Dequeues r v w
      → Moves f s (g ++ got_by_try f r) u w
  then_dequeues {s} {g} {u} {v} r w before c = subst (λ z. Moves f z (g ++ got_by_try f r) u w) (append-nil s)
      (moves_then (put_by f) (got_by f) s g [] (got_by_try f r) u v w before (moves_dequeue f r v w c))

  pub then_linked : {s g : List A} {u v : PartyOf E} (max : ℕ) (es : List E) (w : PartyOf E) → Moves f s g u v → TakesLinked max es v w
      → Moves f s (g ++ map f es) u w
  then_linked {s} {g} {u} {v} max es w before c = subst (λ z. Moves f z (g ++ map f es) u w) (append-nil s)
      (moves_then (put_by f) (got_by f) s g [] (map f es) u v w before (moves_linked f max es v w c))

  -- the party of a new queue gave rooms to another, which sent lists, and received meanwhile. Taken in again, it is whole, and what
  -- it received, and then what is held, is what was sent
  pub delivered : {k n : ℕ} {id : TableId} {u kept other v o w : PartyOf E} {got : List A} {lists : List (List A)} → u ≡ new_party id k
      → Splits n u kept other → Moves f [] got kept v → Sends f lists other o → Absorbs (λ h. Legal h) v o w
      → (w.table ≡ id) × (w.share ≡ whole) × Delivers lists (got ++ map f (held (plain w.seen)))
  delivered new split mine theirs m =
      parties.delivered (λ h. map f (held h)) (λ h legal. all_kept f same_name h legal) new split mine theirs m
