use Rattle.std.proofs.Common.{◌≡◌, [], ◌∙◌, ap, rules, subst, true}
use Rattle.cordyceps_channel.specs.Channels.{Receives, ReceivesBatch}
use Rattle.cordyceps_channel.specs.declared.errors.TryRecvError.TheVariants.{Disconnected}
use Rattle.cordyceps_channel.proofs.Missing.{batch_stays, batch_then, runs_receives}
use Rattle.cordyceps_channel.proofs.Received.{receives_then}
use Rattle.cordyceps_channel.proofs.Taking.{ok_case, err_case}
use Rattle.cordyceps_channel.proofs.receiver.Receiver.try_recv_batch.Goals as goal
use Rattle.cordyceps_channel.proofs.receiver.Receiver.try_recv_batch.Goals.{in-Some-take, in-None}

pub returns-in-Some : goal.returns-in-Some
returns-in-Some g c =
    let f = g.T.Linked.element in
    let max = c.args.max in
    let batch = c.in-Some.batch in
    let v = c.take.new.self.party in
    batch_stays f max batch c.args.self.now v c.free_batch.new.self (subst (λ q. ReceivesBatch f max batch q v) c.self.view_is c.in-Some.ensures.answer) c.free_batch.ensures

pub returns : goal.returns
returns g c =
    let f = g.T.Linked.element in
    let max = c.args.max in
    let u = c.args.self.now in
    let x = c.take.new.self.party in
    let v = c.is_end.new.self in
    let w = c.take-2.new.self.party in
    let p = c.self-2.inside.taker.party in
    let first = subst (λ q. Receives [] q x) c.self.view_is (runs_receives [] c.self.inside.taker.party x c.in_default.ensures.answer.0) in
    let before = receives_then u x v [] [] first c.is_end.ensures.received in
    let ended : c.is_end.result ≡ true = search rules in
    elim c.match-take-2.branch [
      | in-Some-take k ↦
          let batch = k.in-Some-take.batch in
          ok_case _ _ c.match-take-2.result batch k.result-is (batch_then f max batch u v w before (subst (λ q. ReceivesBatch f max batch q w) c.self-2.view_is k.in-Some-take.ensures.answer))
      | in-None k ↦
          let answer = k.in-None.ensures.answer in
          err_case _ _ c.match-take-2.result Disconnected k.result-is (
            receives_then u v w [] [] before (subst (λ q. Receives [] q w) c.self-2.view_is (runs_receives [] p w answer.0)),
            answer.1 (ap (λ q. q.share) c.self-2.view_is ∙ c.is_end.ensures.last ended),
          )
    ]
