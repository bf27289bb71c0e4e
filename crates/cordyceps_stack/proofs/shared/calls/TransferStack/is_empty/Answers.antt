use Rattle.std.proofs.Common.{subst}
use Rattle.cordyceps_stack.specs.Shared.Parts.{standing}
use Rattle.cordyceps_stack.specs.Shared.Calls.{Looks}
use Rattle.cordyceps_stack.proofs.SharedTheory.CallsHold.{looks_once}
use Rattle.cordyceps_stack.proofs.shared.calls.TransferStack.is_empty.Goals as goal

pub returns : goal.returns
returns g c =
    let e = c.is_empty.ensures in
    let t = looks_once c.party.inside.seat.table_id c.is_empty.new.seat.table_id c.is_empty.result c.party.inside.seat.me c.is_empty.new.seat.me e.sees e.answer e.rest.1 e.table in
    subst (λ u. Looks c.is_empty.result u (standing c.is_empty.new.seat.table_id c.is_empty.new.seat.me.0)) c.party.view_is t
