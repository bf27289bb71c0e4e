use Rattle.std.proofs.Common.{sym, ap, ◌∙◌, subst}
use Rattle.std.specs.Prelude.{Err}
use Rattle.cordyceps_queue.specs.Shared.Calls.{Consumes}
use Rattle.cordyceps_channel.specs.Channels.{ReceivesBatch}
use Rattle.cordyceps_channel.proofs.Missing.{misses_held, takes_receives, batch_then}
use Rattle.cordyceps_channel.proofs.Ending.{over}
use Rattle.cordyceps_channel.proofs.Taking.{consumer_party, some_case, none_case}
use Rattle.cordyceps_channel.proofs.taker.Taker.take.Goals as goal
use Rattle.cordyceps_channel.proofs.taker.Taker.take.Goals.{in-Ok, in-Err}

pub returns-clause-answer : goal.returns-clause-answer
returns-clause-answer g c =
    let u = c.in-Some.consumer.party in
    let w = c.take_linked.new.self.party in
    let held = c.hold.ensures.stays in
    let same = sym (consumer_party _ c.self.inside.resting c.in-Some.consumer c.in-Some.is) ∙ ap (λ v. v.party) c.self.view_is in
    elim c.match-take_linked.branch [
      | in-Ok k ↦
          let (es, items, takes) = k.in-Ok.ensures.answer in
          let took = takes_receives g.T.Linked.element c.args.max k.in-Ok.batch es u w items takes in
          some_case _ _ c.match-take_linked.result k.in-Ok.batch k.result-is
          (batch_then g.T.Linked.element c.args.max k.in-Ok.batch c.args.self.now.party c.hold.new.self.party w held.receives (subst (λ v. ReceivesBatch g.T.Linked.element c.args.max k.in-Ok.batch v w) same took))
      | in-Err k ↦
          let why = k.in-Err._why in
          let missed = misses_held why c.args.self.now.party c.hold.new.self.party w held.receives (subst (λ v. Consumes (Err why) v w) same k.in-Err.ensures.answer) in
          none_case _ _ c.match-take_linked.result k.result-is (
            missed,
            λ is. let alone = ap (λ v. v.share) same ∙ (held.share ∙ is) in over u w why alone k.in-Err.ensures.answer (k.in-Err.ensures.whole alone),
          )
    ]
