-- What each call makes of a party's rooms, and that none is lost.
use Rattle.std.proofs.Common.{ℕ, List, [], ◌∷◌, map, reverse, Bool, true, subst, arith}
use Rattle.std.proofs.lemmas.List.{map-id, length-map, length-reverse}
use Rattle.cordyceps_shared.specs.Histories.{plain}
use Rattle.cordyceps_shared.proofs.Balancing.{balances_then, balances_given, balances_whole}
use Rattle.cordyceps_stack.specs.History.{held, Legal}
use Rattle.cordyceps_stack.specs.Laws.{CallsBalance, NoRoomIsLost}
use Rattle.cordyceps_stack.specs.Shared.Calls.{PartyOf, PushesAt, PushesAllAt, PushesRefilled, Misses, MissesRefilled, Takes, Refills}
use Rattle.cordyceps_stack.specs.Shared.Moves.{Balances, put_by, got_by}
use Rattle.cordyceps_stack.proofs.SharedTheory.PartyMoves.{all_kept, moves_push, moves_push_all, moves_miss, moves_refilled, moves_miss_refilled, moves_refill, moves_take}

module _ {E A : Type 0} (f : E → A) where
  pub balances_push : (n : ℕ) (e : E) (first : Bool) (u w : PartyOf E) → PushesAt n e first u w → Balances f (f e ∷ []) [] 0 0 u w
  balances_push n e first u w c = record { moves = moves_push f n e first u w c; rooms = let (adds, ends, less) = c in omega (arith, less) }

  pub balances_push_all : (n : ℕ) (es : List E) (first : Bool) (u w : PartyOf E) → PushesAllAt n es first u w → Balances f (map f (reverse es)) [] 0 0 u w
  balances_push_all n es first u w c = record {
    moves = moves_push_all f n es first u w c;
    rooms = let (adds, ends, less) = c in omega (arith, less, length-map (reverse es) f, length-reverse es);
  }

  pub balances_miss : (u w : PartyOf E) → Misses u w → Balances f [] [] 0 0 u w
  balances_miss u w c = record { moves = moves_miss f u w c; rooms = let (adds, overtaken, same) = c in omega (arith, same) }

  -- tries that may have taken rooms of the pool first
  pub balances_refilled : (e : E) (first : Bool) (u w : PartyOf E) (c : PushesRefilled e first u w) → Balances f (f e ∷ []) [] c.taken 0 u w
  balances_refilled e first u w c = record { moves = moves_refilled f e first u w c; rooms = omega (arith, c.rooms) }

  pub balances_miss_refilled : (u w : PartyOf E) (c : MissesRefilled u w) → Balances f [] [] c.taken 0 u w
  balances_miss_refilled u w c = record { moves = moves_miss_refilled f u w c; rooms = omega (arith, c.rooms) }

  pub balances_refill : (n : ℕ) (u w : PartyOf E) → Refills n u w → Balances f [] [] n 0 u w
  balances_refill n u w c = record { moves = moves_refill f n u w c; rooms = omega (arith, c.1) }

  pub balances_take : (batch : List E) (u w : PartyOf E) → Takes batch u w → Balances f [] (map f (reverse batch)) 0 0 u w
  balances_take batch u w c = record {
    moves = moves_take f batch u w c;
    rooms = omega (arith, c.1, length-map (reverse batch) f, length-reverse batch);
  }

-- ---- all calls, and a party whose events are all its own
module _ {E : Type 0} where
  pub calls_balance : CallsBalance E
  calls_balance = record {
    push = balances_push (λ x. x);
    push_all = λ n es first u w c. subst (λ z. Balances (λ x. x) z [] 0 0 u w) (map-id (reverse es)) (balances_push_all (λ x. x) n es first u w c);
    miss = balances_miss (λ x. x);
    take_all = λ batch u w c. subst (λ z. Balances (λ x. x) [] z 0 0 u w) (map-id (reverse batch)) (balances_take (λ x. x) batch u w c);
    refill = balances_refill (λ x. x);
    give_back = λ n u w room gave. balances_given (put_by (λ x. x)) (got_by (λ x. x)) n true u w room gave;
    in_turn = balances_then (put_by (λ x. x)) (got_by (λ x. x));
  }

  pub no_room_is_lost : NoRoomIsLost E
  no_room_is_lost k id w sent got drawn given b legal alone =
      let left = held (plain w.seen) in
      let all = balances_whole (put_by (λ x. x)) (got_by (λ x. x)) (λ h. Legal h) (λ h. map (λ x. x) (held h)) (λ h l. all_kept (λ x. x) h l) k id w sent got drawn given b legal alone in
      let as_many = length-map left (λ x. x) in
      omega (arith, all, as_many)
