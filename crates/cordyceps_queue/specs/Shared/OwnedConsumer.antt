-- What a contract sees of a consumer that shares the ownership of its queue.
use Rattle.cordyceps_queue.specs.Shared.Calls.{QueueOf, PartyOf}

-- its queue, and its party
pub record OwnedOf (E : Type 0) : Type 0 where
  pub queue : QueueOf E
  pub party : PartyOf E
