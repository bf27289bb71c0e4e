use Rattle.std.proofs.Common.{[], ◌∷◌, subst}
use Rattle.cordyceps.specs.Elements.Element.{Element}
use Rattle.cordyceps.proofs.Queues.PartyMoves.{moves_waited}
use Rattle.cordyceps_shared_uses.specs.declared.timers.Timer.{Timer}
use Rattle.cordyceps_shared_uses.specs.declared.scheduler.work.Work.{Work}
use Rattle.cordyceps_shared_uses.specs.Names.{name_of}
use Rattle.cordyceps_shared_uses.specs.Ways.{Sent}
use Rattle.cordyceps_shared_uses.proofs.scheduler.threads.send.Goals as goal

pub returns : goal.returns
returns g c =
    subst (λ (e : Element (Timer Work)). Sent (name_of e ∷ []) c.args.party.now c.enqueue_waiting.new.party) c.into_kind.ensures
    (moves_waited name_of c.into_kind.result c.args.party.now c.enqueue_waiting.new.party c.enqueue_waiting.ensures.answer)
