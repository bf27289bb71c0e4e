use Rattle.std.proofs.Common.{◌≡◌, [], ◌∷◌, ◌∙◌, ap, rules, subst, true}
use Rattle.cordyceps_channel.specs.Channels.{Receives}
use Rattle.cordyceps_channel.specs.declared.errors.TryRecvError.TheVariants.{Disconnected}
use Rattle.cordyceps_channel.proofs.Missing.{runs_receives}
use Rattle.cordyceps_channel.proofs.Received.{receives_then}
use Rattle.cordyceps_channel.proofs.Taking.{ok_case, err_case}
use Rattle.cordyceps_channel.proofs.receiver.Receiver.try_recv.Goals as goal
use Rattle.cordyceps_channel.proofs.receiver.Receiver.try_recv.Goals.{in-Some-try_dequeue, in-None}

pub returns : goal.returns
returns g c =
    let u = c.args.self.now in
    let x = c.try_dequeue.new.self.party in
    let v = c.is_end.new.self in
    let w = c.try_dequeue-2.new.self.party in
    let p = c.self-2.inside.taker.party in
    let first = subst (λ q. Receives [] q x) c.self.view_is (runs_receives [] c.self.inside.taker.party x c.in_default.ensures.answer.0) in
    let before = receives_then u x v [] [] first c.is_end.ensures.received in
    let ended : c.is_end.result ≡ true = search rules in
    elim c.match-try_dequeue-2.branch [
      | in-Some-try_dequeue k ↦
          let e = k.in-Some-try_dequeue.handle in
          ok_case _ _ c.match-try_dequeue-2.result e k.result-is (receives_then u v w [] (e ∷ []) before (subst (λ q. Receives (e ∷ []) q w) c.self-2.view_is k.in-Some-try_dequeue.ensures.answer))
      | in-None k ↦
          let answer = k.in-None.ensures.answer in
          err_case _ _ c.match-try_dequeue-2.result Disconnected k.result-is (
            receives_then u v w [] [] before (subst (λ q. Receives [] q w) c.self-2.view_is (runs_receives [] p w answer.0)),
            answer.1 (ap (λ q. q.share) c.self-2.view_is ∙ c.is_end.ensures.last ended),
          )
    ]
