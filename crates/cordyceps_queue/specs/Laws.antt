-- What every legal history says, and that histories say the same read from either end.
use Rattle.std.specs.Prelude.{◌≡◌, ℕ, suc, ◌+◌, ◌≤◌, ◌⊎◌, List, [], ◌∷◌, ◌++◌, length, map, flat_map, reverse, Bool, true}
use Rattle.std.specs.Prelude.{Result, Some, Err, ◌↔◌}
use Rattle.atomic_table.specs.Seated.{TableId}
use Rattle.cordyceps_shared.specs.Histories.{plain, AllOwn}
use Rattle.cordyceps_shared.specs.Knowing.{IsPrefixOf}
use Rattle.cordyceps_shared.specs.Shares.{Name, IsOf, IsShare}
use Rattle.cordyceps_shared.specs.Standings.{name_of, new_party, GivesBack}
use Rattle.cordyceps_queue.specs.declared.cores.steps.TryDequeueError.{TryDequeueError}
use Rattle.cordyceps_queue.specs.declared.cores.steps.TryDequeueError.TheVariants as error
use Rattle.cordyceps_queue.specs.Shared.Calls.{PartyOf, Legal, NonePending, NoneHolds, Adds, Dequeues, Consumes}
use Rattle.cordyceps_queue.specs.Shared.Calls.{Enqueues, Refills, AtLast}
use Rattle.cordyceps_queue.specs.Shared.Moves.{Balances, got_by_try}
use Rattle.cordyceps_queue.specs.Shared.Receipts.{Learns, TellsOfMore}
use Rattle.cordyceps_queue.specs.History as told
use Rattle.cordyceps_queue.specs.History.{Event, Take, Busy, Empty, actor, comes, came, went, held, holder}
use Rattle.cordyceps_queue.specs.History.{count_of, is_take, is_free}
use Rattle.cordyceps_queue.specs.Past as past
use Rattle.cordyceps_queue.specs.Bells.{IsQuiet, clears, OwesRing, HeldAreOwed}

-- legal by the conditions on every prefix, or event by event
abbrev pub LegalBothWays : (P E : Type 0) → Type 0
LegalBothWays P E = (same : Discrete P) (h : List (Event P E)) → told.IsLegal same h ↔ past.IsLegalReversed (reverse h)

-- blocked by counts of events, or by the place of an open swap
abbrev pub BlockedBothWays : (P E : Type 0) → Type 0
BlockedBothWays P E =
    (same : Discrete P) (h : List (Event P E)) → told.IsLegal same h →
    told.IsBlocked same h ↔ past.IsBlockedReversed (reverse h)

abbrev pub WasBlockedBothWays : (P E : Type 0) → Type 0
WasBlockedBothWays P E =
    (same : Discrete P) (h : List (Event P E)) (q : P) → told.IsLegal same h →
    told.WasBlocked same q h ↔ past.WasBlockedReversed q (reverse h)

-- this element before the others, if it is so
abbrev pub first_if : {A E : Type 0} → Dec A → E → List E → List E
first_if (yes a) e es = e ∷ es
first_if (no n) e es = es

module _ {P E : Type 0} where
  -- the elements that came in, each with the party that put it in
  abbrev pub sends_in : List (Event P E) → List (P × E)
  sends_in h = flat_map (λ x. map (λ e. (actor x, e)) (comes x)) h

module _ {P E : Type 0} (same : Discrete P) where
  -- those of them that one party put in
  abbrev pub sent_by : P → List (P × E) → List E
  sent_by q [] = []
  sent_by q (x ∷ xs) = first_if (same q x.0) x.1 (sent_by q xs)

  -- the elements that one party put in, in its order
  abbrev pub put_in_by : P → List (Event P E) → List E
  put_in_by q h = sent_by q (sends_in h)

  -- what came out was put in by these parties, and what is held by those: of each party, what came out, in the order in
  -- which it did, and then what is held, is what that party put in, in its order
  pub record LeaveInOrder (h : List (Event P E)) : Type 0 where
    pub left : List (P × E)
    pub rest : List (P × E)
    pub gone : map (λ x. x.1) left ≡ went h
    pub kept : map (λ x. x.1) rest ≡ held h
    pub all : left ++ rest ≡ sends_in h
    pub each : (q : P) → sent_by q left ++ sent_by q rest ≡ put_in_by q h

  -- how often the party took the right, and how often it gave it back
  abbrev pub takes_by : P → List (Event P E) → ℕ
  takes_by q h = count_of same is_take q h

  abbrev pub frees_by : P → List (Event P E) → ℕ
  frees_by q h = count_of same is_free q h

  -- it took the right once more than it gave it back
  abbrev pub HasRight : P → List (Event P E) → Type 0
  HasRight q h = suc (frees_by q h) ≡ takes_by q h

  -- who took the right once more than it gave it back is the holder, which is one party or none, and each other party
  -- gave it back as often as it took it
  pub record OneHasRight (h : List (Event P E)) : Type 0 where
    pub counts : (q : P) → HasRight q h ⊎ (frees_by q h ≡ takes_by q h)
    pub holds : (q : P) → HasRight q h ↔ (holder h ≡ Some q)
    pub one : (p q : P) → HasRight p h → HasRight q h → p ≡ q

-- in each prefix of a legal history
abbrev pub ProducersInOrder : (P E : Type 0) → Type 0
ProducersInOrder P E =
    (same : Discrete P) (h past later : List (Event P E)) → told.IsLegal same h → h ≡ past ++ later →
    LeaveInOrder same past

abbrev pub OneHolder : (P E : Type 0) → Type 0
OneHolder P E =
    (same : Discrete P) (h past later : List (Event P E)) → told.IsLegal same h → h ≡ past ++ later →
    OneHasRight same past

-- just before the event by which the party found the right taken, another had it: its name is none of the party's
pub record FoundTaken {E : Type 0} (u w : PartyOf E) : Type 0 where
  pub past : List (Bool × Event Name E)
  pub later : List (Bool × Event Name E)
  pub is : w.seen ≡ past ++ (true, Busy (name_of u)) ∷ later
  pub by : Name
  pub holds : holder (plain past) ≡ Some by
  pub another : IsOf u.share by → ⊥

-- a party of which no name has the right, and which finds it taken
abbrev pub BusyIsAnothers : Type 0 → Type 0
BusyIsAnothers E =
    (u w : PartyOf E) → Legal (plain u.seen) → NoneHolds u.share (plain u.seen) → Adds u (Busy (name_of u) ∷ []) w →
    FoundTaken u w

-- a party of which no name is pending, and of which a try was blocked: it was so by a name that is none of the party's
abbrev pub BlockedIsAnothers : Type 0 → Type 0
BlockedIsAnothers E =
    (u w : PartyOf E) → Legal (plain u.seen) → NonePending u.share (plain u.seen) →
    (d : Dequeues (Err error.Inconsistent) u w) → IsOf u.share d.prefix.blocked.by → ⊥

-- and the same of a consumer's try
abbrev pub BlockedTryIsAnothers : Type 0 → Type 0
BlockedTryIsAnothers E =
    (u w : PartyOf E) → Legal (plain u.seen) → NonePending u.share (plain u.seen) →
    (d : Consumes (Err error.Inconsistent) u w) → IsOf u.share d.prefix.blocked.by → ⊥

-- what each call makes of a party's rooms
pub record CallsBalance (E : Type 0) : Type 0 where
  pub enqueue : (e : E) (u w : PartyOf E) → Enqueues e u w → Balances (λ x. x) (e ∷ []) [] 0 0 u w
  pub dequeue : (r : Result E TryDequeueError) (u w : PartyOf E) → Dequeues r u w →
      Balances (λ x. x) [] (got_by_try (λ x. x) r) 0 0 u w
  pub consume : (r : Result E TryDequeueError) (u w : PartyOf E) → Consumes r u w →
      Balances (λ x. x) [] (got_by_try (λ x. x) r) 0 0 u w
  pub refill : (n : ℕ) (u w : PartyOf E) → Refills n u w → Balances (λ x. x) [] [] n 0 u w
  pub give_back : (n : ℕ) (u w : PartyOf E) → n ≤ u.rooms → GivesBack n true u w → Balances (λ x. x) [] [] 0 n u w
  pub in_turn : (s g t h : List E) (d r e q : ℕ) (u v w : PartyOf E) → Balances (λ x. x) s g d r u v →
      Balances (λ x. x) t h e q v w → Balances (λ x. x) (s ++ t) (g ++ h) (d + e) (r + q) u w

-- after any calls by the party of a new queue of k rooms, if each event is its own: its rooms, those of the elements that
-- are held, and those that it gave to the pool are k and those that it drew from there
abbrev pub NoRoomIsLost : Type 0 → Type 0
NoRoomIsLost E =
    (k : ℕ) (id : TableId) (w : PartyOf E) (sent got : List E) (drawn given : ℕ) →
    Balances (λ x. x) sent got drawn given (new_party id k) w → Legal (plain w.seen) → AllOwn w.seen →
    w.rooms + length (held (plain w.seen)) + given ≡ k + drawn

-- a try of a party, or of a consumer, that found nothing: all that had come in by what the party had seen has gone out
abbrev pub EmptyMeansGone : Type 0 → Type 0
EmptyMeansGone E =
    (u w : PartyOf E) → Dequeues (Err error.Empty) u w ⊎ Consumes (Err error.Empty) u w →
    IsPrefixOf (came (plain u.seen)) (went (plain w.seen))

-- a party that has the right, and has seen more elements come in than go out: its try does not find nothing
abbrev pub HolderFinds : Type 0 → Type 0
HolderFinds E =
    (u w : PartyOf E) → IsShare u.share → holder (plain u.seen) ≡ Some (name_of u) → TellsOfMore (plain u.seen) u →
    Consumes (Err error.Empty) u w → ⊥

-- a party that has the right, and learns a history by which more came in than it has seen go out: it does not find
-- nothing, however often it has to try
abbrev pub ToldFinds : Type 0 → Type 0
ToldFinds E =
    (h : List (Event Name E)) (u v w : PartyOf E) → IsShare u.share → holder (plain u.seen) ≡ Some (name_of u) →
    TellsOfMore h u → Learns h u v → AtLast (Consumes (Err error.Inconsistent)) (Consumes (Err error.Empty)) v w → ⊥

-- a look that found nothing, and then nobody cleared the bell, which is quiet: each party that put in an element that
-- is held has yet to ring
abbrev pub NoneFoundIsOwed : (P E : Type 0) → Type 0
NoneFoundIsOwed P E =
    (same : Discrete P) (h past later : List (Event P E)) (q : P) → told.IsLegal same h → h ≡ past ++ Empty q ∷ later →
    clears later ≡ 0 → IsQuiet h → HeldAreOwed same h

-- and if it was blocked, the party that blocked it has yet to ring
abbrev pub BlockerIsOwing : (P E : Type 0) → Type 0
BlockerIsOwing P E =
    (same : Discrete P) (h past later : List (Event P E)) → told.IsLegal same h → h ≡ past ++ later →
    (b : told.IsBlocked same past) → clears later ≡ 0 → IsQuiet h → OwesRing same b.by h
