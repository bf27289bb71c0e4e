use Rattle.std.proofs.Common.{[], ◌∷◌, sym, ap, ◌∙◌, subst}
use Rattle.std.specs.Prelude.{Ok, Err}
use Rattle.cordyceps_queue.specs.Shared.Calls.{Consumes}
use Rattle.cordyceps_queue.proofs.SharedTheory.PartyMoves.{moves_consume}
use Rattle.cordyceps_channel.specs.Channels.{Receives}
use Rattle.cordyceps_channel.proofs.Missing.{misses_held}
use Rattle.cordyceps_channel.proofs.Received.{moves_receives, receives_then}
use Rattle.cordyceps_channel.proofs.Ending.{over, certain}
use Rattle.cordyceps_channel.proofs.Taking.{consumer_party, some_case, none_case}
use Rattle.cordyceps_channel.proofs.taker.Taker.try_dequeue.Goals as goal
use Rattle.cordyceps_channel.proofs.taker.Taker.try_dequeue.Goals.{in-Ok, in-Err}

pub returns-clause-answer : goal.returns-clause-answer
returns-clause-answer g c =
    let u = c.in-Some.consumer.party in
    let w = c.try_dequeue.new.self.party in
    let held = c.hold.ensures.stays in
    let same = sym (consumer_party _ c.self.inside.resting c.in-Some.consumer c.in-Some.is) ∙ ap (λ v. v.party) c.self.view_is in
    elim c.match-try_dequeue.branch [
      | in-Ok k ↦
          let e = k.in-Ok.handle in
          let took = moves_receives u w (e ∷ []) (moves_consume (λ x. x) (Ok e) u w k.in-Ok.ensures.answer) in
          some_case _ _ c.match-try_dequeue.result e k.result-is
          (receives_then c.args.self.now.party c.hold.new.self.party w [] (e ∷ []) held.receives (subst (λ v. Receives (e ∷ []) v w) same took))
      | in-Err k ↦
          let why = k.in-Err._why in
          let missed = misses_held why c.args.self.now.party c.hold.new.self.party w held.receives (subst (λ v. Consumes (Err why) v w) same k.in-Err.ensures.answer) in
          none_case _ _ c.match-try_dequeue.result k.result-is (
            missed,
            λ is.
                let alone = ap (λ v. v.share) same ∙ (held.share ∙ is) in over u w why alone k.in-Err.ensures.answer (certain g.row.T-Handle.Denot why (k.in-Err.ensures.whole alone)),
          )
    ]
