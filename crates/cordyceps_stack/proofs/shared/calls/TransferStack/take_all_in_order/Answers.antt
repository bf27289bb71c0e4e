use Rattle.std.proofs.Common.{◌∙◌, subst}
use Rattle.cordyceps_stack.specs.Shared.Parts.{standing}
use Rattle.cordyceps_stack.specs.Cores.Stages.{room_elements}
use Rattle.cordyceps_stack.specs.Shared.Plays.{to_hand_out}
use Rattle.cordyceps_stack.specs.Shared.Calls.{Takes}
use Rattle.cordyceps_stack.proofs.SharedTheory.CallsHold.{takes}
use Rattle.cordyceps_stack.proofs.shared.calls.TransferStack.take_all_in_order.Goals as goal

pub returns : goal.returns
returns g c =
    let batch = room_elements (to_hand_out c.take-first.new.seat.me.0.doing) in
    let t = takes c.party.inside.seat.table_id c.hand_out.new.seat.table_id _ _ c.party.inside.seat.me c.take-first.new.seat.me c.hand_out.new.seat.me c.take-first.ensures.took c.hand_out.ensures.seat (c.hand_out.ensures.table ∙ c.take-first.ensures.table) in
    (batch, c.hand_out.ensures.stack, subst (λ u. Takes batch u (standing c.hand_out.new.seat.table_id c.hand_out.new.seat.me.0)) c.party.view_is t)
