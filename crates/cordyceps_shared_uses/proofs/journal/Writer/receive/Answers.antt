use Rattle.std.proofs.Common.{refl, subst, ◌∷◌, []}
use Rattle.std.specs.Prelude.{is_ok}
use Rattle.cordyceps.proofs.Channels.Waiting.{finds_none}
use Rattle.cordyceps.specs.Channels.Channels.{Receives}
use Rattle.cordyceps_shared_uses.proofs.Journaling.{batch_later}
use Rattle.cordyceps_shared_uses.proofs.journal.Writer.receive.Goals as goal

pub returns-in-Err-Empty-clause-flushes : goal.returns-in-Err-Empty-clause-flushes
returns-in-Err-Empty-clause-flushes g c = (is_ok c.flush-flushed.result ∷ [], (c.flush-flushed.new.self, c.flush-flushed.ensures.asked, refl))

pub returns-in-Err-Empty-clause-received : goal.returns-in-Err-Empty-clause-received
returns-in-Err-Empty-clause-received g c =
    let e = c.in-Err-Empty in
    let v = c.try_recv_batch.new.self in
    let before = subst (λ u. Receives [] u v) c.self.view_is (finds_none e.field-0 c.self.inside.receiver v e.ensures) in
    batch_later (λ e. e) c.args.max c.recv_batch.result c.args.self.now v c.recv_batch.new.self before c.recv_batch.ensures
