use Rattle.std.proofs.Common.{◌++◌, ◌∷◌, [], List, map, refl, ap, sym, ◌∙◌, subst, append_assoc, append-nil}
use Rattle.cordyceps.specs.Elements.Element.{Element}
use Rattle.cordyceps.specs.Queues.Moves.{put_by, got_by, Moves}
use Rattle.cordyceps.proofs.Parties.Moving.{moves_none, moves_then}
use Rattle.cordyceps.proofs.Queues.PartyMoves.{moves_waited, moves_gave_all}
use Rattle.cordyceps.proofs.Queues.Sending.{then_nothing}
use Rattle.cordyceps_shared_uses.specs.declared.logger.Record.{Record}
use Rattle.cordyceps_shared_uses.specs.Logger.{record_of}
use Rattle.cordyceps_shared_uses.proofs.logger.send_all.Goals as goal

pub loop-record-init : goal.loop-record-init
loop-record-init g c = ([], refl, moves_none (put_by record_of) (got_by record_of) c.args.party)

pub enqueue_waiting-requires : goal.enqueue_waiting-requires
enqueue_waiting-requires g c = let (_, _, moves) = c.loop-record.invariant in moves.acts.table ∙ c.requires

pub loop-record-preserved : goal.loop-record-preserved
loop-record-preserved g c =
    let (sent, all, moves) = c.loop-record.invariant in
    let next = c.in-Some.ensures in
    let one = record_of c.in-Some.record ∷ [] in
    let w = c.enqueue_waiting.new.party in (
      sent ++ one,
      all ∙ (ap (λ (z : List (Element Record)). sent ++ map record_of z) next ∙ sym (append_assoc sent one (map record_of c.pop_front.new.self))),
      subst (λ (e : Element Record). Moves record_of (sent ++ record_of e ∷ []) [] c.args.party w) c.into_kind.ensures
          (moves_then (put_by record_of) (got_by record_of) sent [] (record_of c.into_kind.result ∷ []) [] c.args.party c.loop-record.party w moves
          (moves_waited record_of c.into_kind.result c.loop-record.party w c.enqueue_waiting.ensures.answer)),
    )

pub give_all_back_waiting-requires : goal.give_all_back_waiting-requires
give_all_back_waiting-requires g c = let (_, _, moves) = c.loop-record.invariant in moves.acts.table ∙ c.requires

pub returns : goal.returns
returns g c =
    let (sent, all, moves) = c.loop-record.invariant in
    subst (λ (z : List Record). Moves record_of z [] c.args.party c.give_all_back_waiting.new.party)
    (sym (all ∙ (ap (λ (z : List (Element Record)). sent ++ map record_of z) c.in_default.ensures.0 ∙ append-nil sent)))
    (then_nothing record_of c.give_all_back_waiting.new.party moves
    (moves_gave_all record_of c.loop-record.party c.give_all_back_waiting.new.party c.give_all_back_waiting.ensures.answer))
