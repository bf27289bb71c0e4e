-- How the rooms of a party of a transfer stack add up over its calls, and what a party finds that knows of elements.
use Rattle.std.specs.Prelude.{◌≡◌, ◌⊎◌, ℕ, ◌+◌, ◌≤◌, List, [], ◌∷◌, ◌++◌, length, reverse, Bool, true}
use Rattle.atomic_table.specs.Seated.{TableId}
use Rattle.cordyceps_shared.specs.Histories.{plain, AllOwn}
use Rattle.cordyceps_shared.specs.Shares.{Name}
use Rattle.cordyceps_shared.specs.Standings.{new_party, GivesBack}
use Rattle.cordyceps_stack.specs.History.{Event, held, Legal}
use Rattle.cordyceps_stack.specs.Shared.Calls.{PartyOf, PushesAt, PushesAllAt, Misses, Takes, Looks, Refills}
use Rattle.cordyceps_stack.specs.Shared.Moves.{Balances}
use Rattle.cordyceps_stack.specs.Shared.Receipts.{Learns, TellsOfMore, AllTaken, OthersTook}

-- what each call makes of a party's rooms
pub record CallsBalance (E : Type 0) : Type 0 where
  pub push : (n : ℕ) (e : E) (first : Bool) (u w : PartyOf E) → PushesAt n e first u w →
      Balances (λ x. x) (e ∷ []) [] 0 0 u w
  pub push_all : (n : ℕ) (es : List E) (first : Bool) (u w : PartyOf E) → PushesAllAt n es first u w →
      Balances (λ x. x) (reverse es) [] 0 0 u w
  pub miss : (u w : PartyOf E) → Misses u w → Balances (λ x. x) [] [] 0 0 u w
  pub take_all : (batch : List E) (u w : PartyOf E) → Takes batch u w → Balances (λ x. x) [] (reverse batch) 0 0 u w
  pub refill : (n : ℕ) (u w : PartyOf E) → Refills n u w → Balances (λ x. x) [] [] n 0 u w
  pub give_back : (n : ℕ) (u w : PartyOf E) → n ≤ u.rooms → GivesBack n true u w → Balances (λ x. x) [] [] 0 n u w
  pub in_turn : (s g t h : List E) (d r e q : ℕ) (u v w : PartyOf E) → Balances (λ x. x) s g d r u v →
      Balances (λ x. x) t h e q v w → Balances (λ x. x) (s ++ t) (g ++ h) (d + e) (r + q) u w

-- after any calls by the party of a new stack of k rooms, if each event is its own: its rooms, those of the elements that
-- are held, and those that it gave to the pool are k and those that it drew from there
abbrev pub NoRoomIsLost : Type 0 → Type 0
NoRoomIsLost E =
    (k : ℕ) (id : TableId) (w : PartyOf E) (sent got : List E) (drawn given : ℕ) →
    Balances (λ x. x) sent got drawn given (new_party id k) w → Legal (plain w.seen) → AllOwn w.seen →
    w.rooms + length (held (plain w.seen)) + given ≡ k + drawn

-- a party that looked and found nothing, or that took all that was held: all that had been pushed by what it had seen
-- has been taken
abbrev pub EmptyMeansGone : Type 0 → Type 0
EmptyMeansGone E =
    (u w : PartyOf E) → Looks true u w ⊎ ((batch : List E) × Takes batch u w) → AllTaken (plain u.seen) w

-- a party that learns a history by which more was pushed than it has seen taken: where it then finds nothing, or takes
-- nothing, others took some since
abbrev pub ToldFinds : Type 0 → Type 0
ToldFinds E =
    (h : List (Event Name E)) (u v w : PartyOf E) → TellsOfMore h u → Learns h u v →
    Looks true v w ⊎ Takes [] v w → OthersTook u w
