-- What each call makes of a party's rooms, and that none is lost.
use Rattle.std.proofs.Common.{ℕ, List, [], ◌∷◌, map, true, inl, inr, arith}
use Rattle.std.proofs.lemmas.List.{length-map}
use Rattle.std.specs.Prelude.{◌⊎◌, Result, Ok, Err}
use Rattle.cordyceps_shared.specs.Histories.{plain}
use Rattle.cordyceps_shared.proofs.Balancing.{balances_then, balances_given, balances_whole}
use Rattle.cordyceps_queue.specs.declared.cores.steps.TryDequeueError.{TryDequeueError}
use Rattle.cordyceps_queue.specs.declared.cores.steps.TryDequeueError.TheVariants as error
use Rattle.cordyceps_queue.specs.History.{held}
use Rattle.cordyceps_queue.specs.Laws.{CallsBalance, NoRoomIsLost}
use Rattle.cordyceps_queue.specs.Shared.Batches.{TakesLinked}
use Rattle.cordyceps_queue.specs.Shared.Calls.{PartyOf, Legal, same_name, Enqueues, EnqueuesRefilled, Refills, Dequeues, Consumes, TakesRight, FindsBusy, GivesRight}
use Rattle.cordyceps_queue.specs.Shared.Moves.{Balances, put_by, got_by, got_by_try}
use Rattle.cordyceps_queue.proofs.SharedTheory.PartyMoves.{all_kept, moves_enqueue, moves_refilled, moves_refill, moves_dequeue, moves_consume, moves_right, moves_linked}

module _ {E A : Type 0} (f : E → A) where
  pub balances_enqueue : (e : E) (u w : PartyOf E) → Enqueues e u w → Balances f (f e ∷ []) [] 0 0 u w
  balances_enqueue e u w c = record { moves = moves_enqueue f e u w c; rooms = omega (arith, c.1) }

  -- one that may have taken rooms of the pool first
  pub balances_refilled : (e : E) (u w : PartyOf E) (c : EnqueuesRefilled e u w) → Balances f (f e ∷ []) [] c.1.0 0 u w
  balances_refilled e u w c = record { moves = moves_refilled f e u w c; rooms = let (taken, more, untouched) = c.1 in omega (arith, more) }

  pub balances_refill : (n : ℕ) (u w : PartyOf E) → Refills n u w → Balances f [] [] n 0 u w
  balances_refill n u w c = record { moves = moves_refill f n u w c; rooms = omega (arith, c.1) }

  pub balances_dequeue : (r : Result E TryDequeueError) (u w : PartyOf E) → Dequeues r u w → Balances f [] (got_by_try f r) 0 0 u w
  balances_dequeue (Ok e) u w c = record { moves = moves_dequeue f (Ok e) u w c; rooms = omega (arith, c.1) }
  balances_dequeue (Err error.Empty) u w c = record { moves = moves_dequeue f (Err error.Empty) u w c; rooms = omega (arith, c.1) }
  balances_dequeue (Err error.Inconsistent) u w c = record { moves = moves_dequeue f (Err error.Inconsistent) u w c; rooms = omega (arith, c.rooms) }
  balances_dequeue (Err error.Busy) u w c = record { moves = moves_dequeue f (Err error.Busy) u w c; rooms = omega (arith, c.1) }

  pub balances_consume : (r : Result E TryDequeueError) (u w : PartyOf E) → Consumes r u w → Balances f [] (got_by_try f r) 0 0 u w
  balances_consume (Ok e) u w c = record { moves = moves_consume f (Ok e) u w c; rooms = omega (arith, c.1) }
  balances_consume (Err error.Empty) u w c = record { moves = moves_consume f (Err error.Empty) u w c; rooms = omega (arith, c.1) }
  balances_consume (Err error.Inconsistent) u w c = record { moves = moves_consume f (Err error.Inconsistent) u w c; rooms = omega (arith, c.rooms) }
  balances_consume (Err error.Busy) u w c = absurd c

  pub balances_right : (u w : PartyOf E) → TakesRight u w ⊎ (FindsBusy u w ⊎ GivesRight u w) → Balances f [] [] 0 0 u w
  balances_right u w (inl c) = record { moves = moves_right f u w (inl c); rooms = omega (arith, c.1) }
  balances_right u w (inr (inl c)) = record { moves = moves_right f u w (inr (inl c)); rooms = omega (arith, c.1) }
  balances_right u w (inr (inr c)) = record { moves = moves_right f u w (inr (inr c)); rooms = omega (arith, c.1) }

  pub balances_linked : (max : ℕ) (es : List E) (u w : PartyOf E) → TakesLinked max es u w → Balances f [] (map f es) 0 0 u w
  balances_linked max es u w t = record { moves = moves_linked f max es u w t; rooms = omega (arith, t.rooms, length-map es f) }

-- ---- all calls, and a party whose events are all its own
module _ {E : Type 0} where
  pub calls_balance : CallsBalance E
  calls_balance = record {
    enqueue = balances_enqueue (λ x. x);
    dequeue = balances_dequeue (λ x. x);
    consume = balances_consume (λ x. x);
    refill = balances_refill (λ x. x);
    give_back = λ n u w room gave. balances_given (put_by (λ x. x)) (got_by (λ x. x)) n true u w room gave;
    in_turn = balances_then (put_by (λ x. x)) (got_by (λ x. x));
  }

  pub no_room_is_lost : NoRoomIsLost E
  no_room_is_lost k id w sent got drawn given b legal alone =
      let left = held (plain w.seen) in
      let all = balances_whole (put_by (λ x. x)) (got_by (λ x. x)) (λ h. Legal h) (λ h. map (λ x. x) (held h)) (λ h l. all_kept (λ x. x) same_name h l) k id w sent got drawn given b legal alone in
      let as_many = length-map left (λ x. x) in
      omega (arith, all, as_many)
