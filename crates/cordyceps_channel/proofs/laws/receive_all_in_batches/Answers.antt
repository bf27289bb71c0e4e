use Rattle.std.proofs.Common.{[], ◌++◌, map, sym, ap, ◌∙◌, subst}
use Rattle.std.proofs.lemmas.List.{append-nil, map-append}
use Rattle.cordyceps_channel.specs.Channels.{Receives}
use Rattle.cordyceps_channel.proofs.Received.{receives_none, receives_then}
use Rattle.cordyceps_channel.proofs.laws.receive_all_in_batches.Goals as goal

pub loop-init : goal.loop-init
loop-init g c = ([], ap (λ l. map g.T.Linked.element l) c.new-all.ensures.items, receives_none c.args.receiver.now)

pub loop-preserved : goal.loop-preserved
loop-preserved g c =
    let f = g.T.Linked.element in
    let (es, is, before) = c.loop.invariant in
    let b = c.in-Ok.ensures in (
      es ++ b.elements,
      c.in_ok-push_batch-in-Ok.ensures ∙ ((λ i. is i ++ b.items i) ∙ sym (map-append f es b.elements)),
      receives_then c.args.receiver.now c.loop.receiver c.recv_batch.new.self es b.elements before b.receives,
    )

pub returns-in-Err : goal.returns-in-Err
returns-in-Err g c =
    let (es, is, before) = c.loop.invariant in
    let u = c.args.receiver.now in
    let w = c.recv_batch.new.self in
    ((es, is, subst (λ l. Receives l u w) (append-nil es) (receives_then u c.loop.receiver w es [] before c.in-Err.ensures.0)), c.in-Err.ensures.1)
