-- What a call did that waited, from what its tries did.
use Rattle.std.proofs.Common.{◌≡◌, [], subst, sym}
use Rattle.cordyceps_queue.specs.Shared.Calls.{PartyOf, FindsFull}
use Rattle.cordyceps_queue.proofs.SharedTheory.PartyMoves.{moves_refill}
use Rattle.cordyceps_channel.specs.declared.errors.TrySendError.{TrySendError}
use Rattle.cordyceps_channel.specs.declared.errors.TrySendError.TheVariants as unsent
use Rattle.cordyceps_channel.specs.declared.errors.TryRecvError.{TryRecvError}
use Rattle.cordyceps_channel.specs.declared.errors.TryRecvError.TheVariants as received
use Rattle.cordyceps_channel.specs.Channels.{SendsNothing, HasBack, Receives, FindsEmpty, FindsNone, IsOver}
use Rattle.cordyceps_channel.proofs.Missing.{runs_receives, runs_later}
use Rattle.cordyceps_channel.proofs.Received.{nothing, receives_then}

module _ {E : Type 0} where
  pub back_full : (e value : E) (why : TrySendError E) (u w : PartyOf E) → why ≡ unsent.Full value → HasBack e why u w → (value ≡ e) × SendsNothing u w
  back_full e value why u w is h =
      let t : (value ≡ e) × FindsFull u w = subst (λ (y : TrySendError E). HasBack e y u w) is h in
      (t.0, moves_refill (λ x. x) 0 u w t.1.0)

  pub back_ended : (e value : E) (why : TrySendError E) (u w : PartyOf E) → why ≡ unsent.Disconnected value → HasBack e why u w → (value ≡ e) × SendsNothing u w
  back_ended e value why u w is h =
      let t : (value ≡ e) × (w ≡ u) = subst (λ (y : TrySendError E). HasBack e y u w) is h in
      (t.0, subst (λ (v : PartyOf E). SendsNothing u v) (sym t.1) (nothing u))

  pub finds_empty : (y : TryRecvError) (u w : PartyOf E) → y ≡ received.Empty → FindsNone y u w → FindsEmpty u w
  finds_empty y u w is h = subst (λ (x : TryRecvError). FindsNone x u w) is h

  pub finds_over : (y : TryRecvError) (u w : PartyOf E) → y ≡ received.Disconnected → FindsNone y u w → Receives [] u w × IsOver w
  finds_over y u w is h = subst (λ (x : TryRecvError). FindsNone x u w) is h

  pub finds_none : (y : TryRecvError) (u w : PartyOf E) → FindsNone y u w → Receives [] u w
  finds_none received.Empty u w h = runs_receives [] u w h.misses
  finds_none received.Disconnected u w h = h.0

  pub finds_later : (y : TryRecvError) (u v w : PartyOf E) → Receives [] u v → FindsNone y v w → FindsNone y u w
  finds_later received.Empty u v w before h = record { misses = runs_later [] [] u v w before h.misses; others = h.others }
  finds_later received.Disconnected u v w before h = (receives_then u v w [] [] before h.0, h.1)
