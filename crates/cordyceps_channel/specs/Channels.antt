-- What the senders and the receiver of a channel promise.
use Rattle.std.specs.Prelude.{◌≡◌, ◌≢◌, ◌⊎◌, ◌<◌, ◌≤◌, ◌+◌, ◌/◌, min, ℕ, zero, suc, List, [], ◌∷◌, ◌++◌, length, map}
use Rattle.std.specs.Prelude.{Bool, true, false, Err, All, AllPairs}
use Rattle.atomic_table.specs.Seated.{TableId}
use Rattle.cordyceps_base.specs.declared.shared.TheConstants.{MAX_ROOMS}
use Rattle.cordyceps_shared.specs.Histories.{plain, own}
use Rattle.cordyceps_shared.specs.Acting.{Acts}
use Rattle.cordyceps_shared.specs.Knowing.{IsPrefixOf, Under}
use Rattle.cordyceps_shared.specs.Sending.{Delivers}
use Rattle.cordyceps_shared.specs.Shares.{Name, whole, keeps_half, gives_half}
use Rattle.cordyceps_shared.specs.Standings.{name_of}
use Rattle.cordyceps_queue.specs.History.{Event, actor, came, went}
use Rattle.cordyceps_queue.specs.declared.cores.steps.TryDequeueError.{TryDequeueError}
use Rattle.cordyceps_shared.specs.Interleaving.{Interleaves}
use Rattle.cordyceps_queue.specs.Shared.Calls.{PartyOf, Legal, FindsFull, FindsBusy, Consumes, capacity}
use Rattle.cordyceps_queue.specs.Shared.Moves.{Moves}
use Rattle.cordyceps_queue.specs.Shared.Receipts.{ReceiptOf}
use Rattle.cordyceps_channel.specs.declared.errors.RecvTimeoutError.{RecvTimeoutError}
use Rattle.cordyceps_channel.specs.declared.errors.RecvTimeoutError.TheVariants as in_time
use Rattle.cordyceps_channel.specs.declared.errors.TryRecvError.{TryRecvError}
use Rattle.cordyceps_channel.specs.declared.errors.TryRecvError.TheVariants as nothing
use Rattle.cordyceps_channel.specs.declared.errors.TrySendError.{TrySendError}
use Rattle.cordyceps_channel.specs.declared.errors.TrySendError.TheVariants as unsent
use Rattle.std.specs.declared.snapshot.Snapshot.{Snapshot}
use Rattle.cordyceps_channel.specs.Places.{PlaceOf}

-- the share that is left after n halves were given up, the first to the receiver
abbrev pub left_after : ℕ → List Name
left_after zero = keeps_half whole
left_after (suc n) = keeps_half (left_after n)

-- the share of the receiver's party, which is whole when all senders have ended
abbrev pub last_share : Bool → List Name
last_share true = whole
last_share false = gives_half whole

-- how many rooms the queue of a channel with n rooms has: an eighth more, which the receiver may keep
abbrev pub rooms_under : ℕ → ℕ
rooms_under n = min (n + n / 8) MAX_ROOMS

-- what a contract sees of a new channel: the table of its queue, the number of its senders, and its receiver's party
pub record FreshOf (E : Type 0) : Type 0 where
  pub table : TableId
  pub senders : ℕ
  pub receiver : PartyOf E

module _ {E : Type 0} where
  -- the elements that a party put in, and those that it took out, each in this order
  abbrev pub sent : PartyOf E → List E
  sent u = came (own u.seen)

  abbrev pub received : PartyOf E → List E
  received u = went (own u.seen)

  -- a history tells of more elements that came in than a party has received
  abbrev pub TellsReceiver : List (Event Name E) → PartyOf E → Type 0
  TellsReceiver told w = length (received w) < length (came told)

  -- from u to w the sender sent e, and nothing else; it sent nothing
  abbrev pub Sends : E → PartyOf E → PartyOf E → Type 0
  Sends e u w = Moves (λ x. x) (e ∷ []) [] u w

  abbrev pub SendsNothing : PartyOf E → PartyOf E → Type 0
  SendsNothing u w = Moves (λ x. x) [] [] u w

  -- e comes back: the sender had no room, and found none in the pool; or the receiver had ended, and nothing was done
  abbrev pub HasBack : E → TrySendError E → PartyOf E → PartyOf E → Type 0
  HasBack e (unsent.Full back) u w = (back ≡ e) × FindsFull u w
  HasBack e (unsent.Disconnected back) u w = (back ≡ e) × (w ≡ u)

  -- from u to w the receiver received these elements, in this order, and has seen more
  pub record Receives (es : List E) (u w : PartyOf E) : Type 0 where
    pub table : w.table ≡ u.table
    pub elements : received w ≡ received u ++ es
    pub seen : IsPrefixOf (plain u.seen) (plain w.seen)

  -- all senders have ended, and the receiver received each element that was ever sent, in the order in which they came
  -- in. The history that it has seen is legal
  pub record IsOver (w : PartyOf E) : Type 0 where
    pub alone : w.share ≡ whole
    pub legal : Legal (plain w.seen)
    pub all : received w ≡ came (plain w.seen)

  -- the receiver received nothing, and has the same share
  pub record Stays (u w : PartyOf E) : Type 0 where
    pub receives : Receives [] u w
    pub share : w.share ≡ u.share

  -- a try got no element: another party had the right to dequeue, nothing was held, or the oldest element or the one
  -- after it was not linked yet
  abbrev pub GetsNone : PartyOf E → PartyOf E → Type 0
  GetsNone u w = FindsBusy u w ⊎ ((why : TryDequeueError) × Consumes (Err why) u w)

  -- from u to w the receiver received these elements, and its last try, which it made then, got none
  pub record RunsOut (es : List E) (u w : PartyOf E) : Type 0 where
    pub before : PartyOf E
    pub after : PartyOf E
    pub receives : Receives es u before
    pub tries : GetsNone before after
    pub stays : Stays after w

  -- the receiver tried, and received nothing
  abbrev pub Misses : PartyOf E → PartyOf E → Type 0
  Misses u w = RunsOut [] u w

  -- the receiver tried, and received nothing; and its party is not whole, as it is when all senders have ended
  pub record FindsEmpty (u w : PartyOf E) : Type 0 where
    pub misses : Misses u w
    pub others : w.share ≢ whole

  -- these are among those, in this order
  abbrev pub AreAmong : List E → List E → Type 0
  AreAmong xs ys = (others : List E) × Interleaves xs others ys

  -- these lists are among those items, each in its order, and no item counts for two of them
  abbrev pub AllAmong : List (List E) → List E → Type 0
  AllAmong lists all = (others : List E) × Delivers (lists ++ others ∷ []) all

  -- no two of these parties act under the same name, so no event is of two of them
  abbrev pub AreApart : List (PartyOf E) → Type 0
  AreApart us = AllPairs (λ u v. name_of u ≢ name_of v) us

  -- each event of the party's own carries its name
  abbrev pub IsNamed : PartyOf E → Type 0
  IsNamed u = Under actor (name_of u) (own u.seen)

  -- the receiver received a batch: at least one element, and at most so many, of which f tells these items. If they are
  -- fewer, its last try got none
  pub record ReceivesBatch {A : Type 0} (f : E → A) (max : ℕ) (batch : List A) (u w : PartyOf E) : Type 0 where
    pub elements : List E
    pub items : batch ≡ map f elements
    pub some : elements ≢ []
    pub few : length elements ≤ max
    pub receives : Receives elements u w
    pub stops : (length elements ≡ max) ⊎ RunsOut elements u w

  -- the receiver received elements of which f tells the same as of these, in this order
  abbrev pub ReceivesAs : {A : Type 0} → (E → A) → List E → PartyOf E → PartyOf E → Type 0
  ReceivesAs f items u w = (es : List E) × (map f items ≡ map f es) × Receives es u w

  -- the receiver received nothing, though it tried, and, if the channel is disconnected, it is over
  abbrev pub FindsNone : TryRecvError → PartyOf E → PartyOf E → Type 0
  FindsNone nothing.Empty u w = FindsEmpty u w
  FindsNone nothing.Disconnected u w = Receives [] u w × IsOver w

  abbrev pub FindsNoneInTime : RecvTimeoutError → PartyOf E → PartyOf E → Type 0
  FindsNoneInTime in_time.Timeout u w = FindsEmpty u w
  FindsNoneInTime in_time.Disconnected u w = Receives [] u w × IsOver w

  -- the first sender u and the receiver w of a new channel with n rooms
  pub record IsChannel (n : ℕ) (u w : PartyOf E) : Type 0 where
    pub table : w.table ≡ u.table
    pub rooms : capacity u.table ≡ rooms_under n
    pub unsent : sent u ≡ []
    pub none : received w ≡ []

  -- the senders us, so many, and the receiver w of a new channel with n rooms
  pub record HaveChannel (n many : ℕ) (us : List (PartyOf E)) (w : PartyOf E) : Type 0 where
    pub count : length us ≡ many
    pub each : All (λ u. IsChannel n u w) us
    pub apart : AreApart us
    pub none : received w ≡ []

  -- ---- inside a channel
  -- the party did nothing, but may have seen more
  abbrev pub DoesNothing : PartyOf E → PartyOf E → Type 0
  DoesNothing u w = Acts u [] w

  -- the party is one that was split off the party u, and it has taken nothing out
  pub record ComesBack (u p : PartyOf E) : Type 0 where
    pub table : p.table ≡ u.table
    pub share : p.share ≡ gives_half u.share
    pub none : received p ≡ []
    pub named : IsNamed p

  -- a receipt of the sender with this party, when it ended
  pub record IsClosed (receipt : ReceiptOf E) (p : PartyOf E) : Type 0 where
    pub table : receipt.table ≡ p.table
    pub told : receipt.told ≡ plain p.seen
    pub named : IsNamed p

  -- the place, of the queue with table z, of the party that has the half that was given up after n others
  pub record IsHome (z : TableId) (n : ℕ) (home : PlaceOf (Snapshot (PartyOf E))) : Type 0 where
    pub table : home.key.value.table ≡ z
    pub share : home.key.value.share ≡ left_after n
    pub free : home.took ≡ false

  -- they are the places of those after n others
  abbrev pub AreHomes : TableId → ℕ → List (PlaceOf (Snapshot (PartyOf E))) → Type 0
  AreHomes z n [] = Unit {0}
  AreHomes z n (home ∷ more) = IsHome z n home × AreHomes z (suc n) more

  -- the party has what is left of its share after one was split off for each place, and has taken nothing out
  pub record IsRegister (z : TableId) (u : PartyOf E) (homes : List (PlaceOf (Snapshot (PartyOf E)))) : Type 0 where
    pub table : u.table ≡ z
    pub share : u.share ≡ left_after (length homes)
    pub none : received u ≡ []
    pub places : AreHomes z 0 homes

  -- the parties of the register and of the receiver, of a new queue with table z and n rooms
  pub record AreParties (n : ℕ) (z : TableId) (u w : PartyOf E) : Type 0 where
    pub rooms : capacity z ≡ n
    pub register : IsRegister z u []
    pub table : w.table ≡ z
    pub share : w.share ≡ gives_half whole
    pub unseen : w.seen ≡ []
    pub roomless : (u.rooms ≡ 0) × (w.rooms ≡ 0)

  -- the party of a sender, and the place, of the queue with table z, that it comes back to, after n others
  pub record IsOpened (z : TableId) (n : ℕ) (p : PartyOf E) (home : PlaceOf (Snapshot (PartyOf E))) : Type 0 where
    pub table : home.key.value.table ≡ z
    pub share : home.key.value.share ≡ left_after n
    pub took : home.took ≡ true
    pub back : ComesBack home.key.value p

  -- the handle is of the register of the queue with table z
  pub record HasRegister (z : TableId) (taken : Bool) (register : PlaceOf (Snapshot (PartyOf E))) : Type 0 where
    pub table : register.key.value.table ≡ z
    pub took : register.took ≡ taken

  -- sender n of the queue with table z: its handle of the register, its party, and the place that this comes back to
  pub record IsSender (z : TableId) (n : ℕ) (place : PlaceOf (Snapshot (PartyOf E))) (p : PartyOf E)
      (home : PlaceOf (Snapshot (PartyOf E))) : Type 0 where
    pub table : p.table ≡ z
    pub register : HasRegister z false place
    pub opened : IsOpened z n p home

  -- its handle of the register, which is not there yet, the register, and the receiver's party
  pub record IsFresh (z : TableId) (place : PlaceOf (Snapshot (PartyOf E))) (u : PartyOf E)
      (homes : List (PlaceOf (Snapshot (PartyOf E)))) (w : PartyOf E) : Type 0 where
    pub handle : HasRegister z true place
    pub register : IsRegister z u homes
    pub table : w.table ≡ z
    pub share : w.share ≡ gives_half whole

  -- it has no sender and n rooms, and nothing was received
  pub record IsEmptyChannel (n : ℕ) (f : FreshOf E) : Type 0 where
    pub rooms : capacity f.table ≡ rooms_under n
    pub senders : f.senders ≡ 0
    pub none : received f.receiver ≡ []

  -- the party of sender n of a new channel, whose queue has the table z
  pub record IsNewSender (z : TableId) (n : ℕ) (u : PartyOf E) : Type 0 where
    pub table : u.table ≡ z
    pub share : u.share ≡ gives_half (left_after n)
    pub unsent : sent u ≡ []

  abbrev pub AreNewSenders : TableId → ℕ → List (PartyOf E) → Type 0
  AreNewSenders z n [] = Unit {0}
  AreNewSenders z n (u ∷ us) = IsNewSender z n u × AreNewSenders z (suc n) us

  -- a receiver's party, and its handle of the register
  pub record IsReceiver (z : TableId) (place : PlaceOf (Snapshot (PartyOf E))) (is_last : Bool) (p : PartyOf E) : Type 0
    where
      pub table : p.table ≡ z
      pub register : HasRegister z is_last place
      pub share : p.share ≡ last_share is_last
