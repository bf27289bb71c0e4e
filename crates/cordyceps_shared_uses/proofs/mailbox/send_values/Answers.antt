use Rattle.std.proofs.Common.{[], ◌∷◌, ◌++◌, take, sym, ap, ◌∙◌, subst}
use Rattle.std.proofs.lemmas.List.{take_more}
use Rattle.cordyceps.specs.Queues.Moves.{put_by, got_by, Moves}
use Rattle.cordyceps.proofs.Parties.Moving.{moves_none, moves_then}
use Rattle.cordyceps.proofs.Queues.PartyMoves.{moves_waited, moves_ring}
use Rattle.cordyceps.proofs.Queues.Sending.{then_nothing}
use Rattle.cordyceps_shared_uses.specs.Mailbox.{value_of}
use Rattle.cordyceps_shared_uses.proofs.mailbox.send_values.Goals as goal

pub loop-value-init : goal.loop-value-init
loop-value-init g c = moves_none (put_by value_of) (got_by value_of) c.args.party.now

pub enqueue_waiting-requires : goal.enqueue_waiting-requires
enqueue_waiting-requires g c = c.loop-value.invariant.acts.table ∙ c.requires

pub ring-requires : goal.ring-requires
ring-requires g c = c.enqueue_waiting.ensures.same.0 ∙ (c.loop-value.invariant.acts.table ∙ c.requires)

pub loop-value-preserved : goal.loop-value-preserved
loop-value-preserved g c =
    let values = c.args.values.now in
    let i = c.loop-value.value-index in
    let v = c.enqueue_waiting.new.party in
    let w = c.ring.new.party in
    let sent = moves_then (put_by value_of) (got_by value_of) (take i values) [] (value_of c.in_ok-letter.field-0 ∷ []) [] c.args.party.now c.loop-value.party v
    c.loop-value.invariant (moves_waited value_of c.in_ok-letter.field-0 c.loop-value.party v c.enqueue_waiting.ensures.answer) in
    subst (λ z. Moves value_of z [] c.args.party.now w) (ap (λ x. take i values ++ x ∷ []) c.in_ok-letter.ensures ∙ sym (take_more values i 0 c.loop-value-test.true))
    (then_nothing value_of w sent (moves_ring value_of v w c.ring.ensures))

pub returns-in_err-letter-clause-table : goal.returns-in_err-letter-clause-table
returns-in_err-letter-clause-table g c = c.loop-value.invariant.acts.table ∙ c.requires

pub returns-clause-table : goal.returns-clause-table
returns-clause-table g c = c.loop-value.invariant.acts.table ∙ c.requires
