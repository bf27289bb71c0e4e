-- What a select promises, which receives from several channels.
use Rattle.std.specs.Prelude.{◌≡◌, ◌≢◌, ◌⊎◌, ◌<◌, ◌≤◌, ℕ, zero, suc, List, [], ◌∷◌, ◌++◌, length}
use Rattle.cordyceps_shared.specs.Histories.{plain}
use Rattle.cordyceps_shared.specs.Knowing.{IsPrefixOf}
use Rattle.cordyceps_shared.specs.Shares.{Name, whole}
use Rattle.cordyceps_queue.specs.History.{Event}
use Rattle.cordyceps_queue.specs.Shared.Calls.{PartyOf}
use Rattle.cordyceps_channel.specs.declared.errors.RecvTimeoutError.{RecvTimeoutError}
use Rattle.cordyceps_channel.specs.declared.errors.RecvTimeoutError.TheVariants as in_time
use Rattle.cordyceps_channel.specs.declared.errors.TryRecvError.{TryRecvError}
use Rattle.cordyceps_channel.specs.declared.errors.TryRecvError.TheVariants as nothing
use Rattle.cordyceps_channel.specs.declared.select.Selected.{Selected}
use Rattle.cordyceps_channel.specs.Channels.{Receives, FindsNone, IsOver}

module _ {E : Type 0} where
  -- the lists are as long, and P n holds of the parties before and after of receiver n, for each n
  abbrev pub Each : (ℕ → PartyOf E → PartyOf E → Type 0) → List (PartyOf E) → List (PartyOf E) → Type 0
  Each P [] [] = Unit {0}
  Each P [] (w ∷ ws) = ⊥
  Each P (u ∷ us) [] = ⊥
  Each P (u ∷ us) (w ∷ ws) = P 0 u w × Each (λ n. P (suc n)) us ws

  -- from us to ws receiver n received the elements f n, for each n
  abbrev pub EachReceives : (ℕ → List E) → List (PartyOf E) → List (PartyOf E) → Type 0
  EachReceives f us ws = Each (λ n. Receives (f n)) us ws

  -- e at i, and nothing elsewhere
  abbrev pub only : ℕ → E → ℕ → List E
  only zero e zero = e ∷ []
  only zero e (suc n) = []
  only (suc i) e zero = []
  only (suc i) e (suc n) = only i e n

  -- from us to ws receiver i received e, and the others received nothing
  pub record ReceivesAt (i : ℕ) (e : E) (us ws : List (PartyOf E)) : Type 0 where
    pub there : i < length us
    pub each : EachReceives (only i e) us ws

  -- P holds of the party of receiver n, which is there
  abbrev pub At : ℕ → (PartyOf E → Type 0) → List (PartyOf E) → Type 0
  At n P [] = ⊥
  At zero P (u ∷ us) = P u
  At (suc n) P (u ∷ us) = At n P us

  -- what came from channel n among elements that were received, in their order
  abbrev pub came_from : ℕ → List (Selected E) → List E
  came_from n [] = []
  came_from n (x ∷ xs) = only x.index x.value n ++ came_from n xs

  -- from us to ws each receiver received those of these elements that are of its channel, in this order, and no others
  abbrev pub Selects : List (Selected E) → List (PartyOf E) → List (PartyOf E) → Type 0
  Selects all us ws = EachReceives (λ n. came_from n all) us ws

  -- the receiver received nothing, and what it has seen begins with the history h
  pub record Learned (h : List (Event Name E)) (u w : PartyOf E) : Type 0 where
    pub received : Receives [] u w
    pub told : IsPrefixOf h (plain w.seen)

  -- from us to ws receiver i learned the history h; the others are as they were
  abbrev pub LearnsAt : ℕ → List (Event Name E) → List (PartyOf E) → List (PartyOf E) → Type 0
  LearnsAt i h [] ws = ⊥
  LearnsAt i h (u ∷ us) [] = ⊥
  LearnsAt zero h (u ∷ us) (w ∷ ws) = Learned h u w × (ws ≡ us)
  LearnsAt (suc i) h (u ∷ us) (w ∷ ws) = (w ≡ u) × LearnsAt i h us ws

  -- no receiver received anything
  abbrev pub ReceivesNothing : List (PartyOf E) → List (PartyOf E) → Type 0
  ReceivesNothing us ws = EachReceives (λ n. []) us ws

  -- the channels of all these receivers are over
  abbrev pub AreOver : List (PartyOf E) → Type 0
  AreOver [] = Unit {0}
  AreOver (w ∷ ws) = IsOver w × AreOver ws

  -- each receiver tried, and received nothing, or its channel is over; and there is one whose party is not whole, as it
  -- is when all senders have ended
  pub record SelectsEmpty (us ws : List (PartyOf E)) : Type 0 where
    pub each : Each (λ n u w. (why : TryRecvError) × FindsNone why u w) us ws
    pub index : ℕ
    pub others : At index (λ w. w.share ≢ whole) ws

  -- nothing was received, and, if the select is disconnected, all its channels are over
  abbrev pub SelectsNone : TryRecvError → List (PartyOf E) → List (PartyOf E) → Type 0
  SelectsNone nothing.Empty us ws = SelectsEmpty us ws
  SelectsNone nothing.Disconnected us ws = ReceivesNothing us ws × AreOver ws

  abbrev pub SelectsNoneInTime : RecvTimeoutError → List (PartyOf E) → List (PartyOf E) → Type 0
  SelectsNoneInTime in_time.Timeout us ws = SelectsEmpty us ws
  SelectsNoneInTime in_time.Disconnected us ws = ReceivesNothing us ws × AreOver ws

-- ---- inside a select
-- the worst of two answers: that all is over, only where both say so
abbrev pub worst : TryRecvError → TryRecvError → TryRecvError
worst nothing.Disconnected why = why
worst nothing.Empty why = nothing.Empty

module _ {E : Type 0} where
  -- what a receiver found, where this is the worst answer of a row
  abbrev pub Finds : TryRecvError → PartyOf E → PartyOf E → Type 0
  Finds nothing.Disconnected u w = FindsNone nothing.Disconnected u w
  Finds nothing.Empty u w = (why : TryRecvError) × FindsNone why u w

  -- receiver n is one of those from the first on, and before the end, and was asked
  pub record IsAsked (why : TryRecvError) (first end n : ℕ) (u w : PartyOf E) : Type 0 where
    pub from : first ≤ n
    pub below : n < end
    pub found : Finds why u w

  -- it is none of them, and is as it was
  pub record IsLeft (first end n : ℕ) (u w : PartyOf E) : Type 0 where
    pub outside : (n < first) ⊎ (end ≤ n)
    pub same : w ≡ u

  abbrev pub InRow : TryRecvError → ℕ → ℕ → ℕ → PartyOf E → PartyOf E → Type 0
  InRow why first end n u w = IsAsked why first end n u w ⊎ IsLeft first end n u w

  -- receiver n of the row has a party that is not whole
  pub record IsOpenAt (first end n : ℕ) (ws : List (PartyOf E)) : Type 0 where
    pub from : first ≤ n
    pub below : n < end
    pub others : At n (λ w. w.share ≢ whole) ws

  abbrev pub HasOpen : TryRecvError → ℕ → ℕ → List (PartyOf E) → Type 0
  HasOpen nothing.Disconnected first end ws = Unit {0}
  HasOpen nothing.Empty first end ws = (n : ℕ) × IsOpenAt first end n ws

  -- the receivers of the row were asked, and found none, which this is the worst answer of; the others are as they were
  pub record RowFindsNone (why : TryRecvError) (first end : ℕ) (us ws : List (PartyOf E)) : Type 0 where
    pub each : Each (InRow why first end) us ws
    pub others : HasOpen why first end ws
