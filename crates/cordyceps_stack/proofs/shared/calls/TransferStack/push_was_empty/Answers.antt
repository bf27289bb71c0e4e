use Rattle.std.proofs.Common.{suc, ap, ◌∙◌, subst}
use Rattle.cordyceps_stack.specs.Shared.Calls.{PushesAt}
use Rattle.cordyceps_stack.specs.Shared.Parts.{standing}
use Rattle.cordyceps_stack.proofs.SharedTheory.CallsHold.{pushes_at}
use Rattle.cordyceps_stack.proofs.shared.calls.TransferStack.push_was_empty.Goals as goal

pub returns-clause-pushed : goal.returns-clause-pushed
returns-clause-pushed g c =
    let e = c.push.ensures in
    let after = standing c.push.new.seat.table_id c.push.new.seat.me.0 in
    let tries = e.pushed.0 in
    let t = pushes_at c.party.inside.seat.table_id c.push.new.seat.table_id (suc tries) c.args.handle c.push.result c.party.inside.seat.me c.push.new.seat.me e.pushed.1 e.table in
    (tries, subst (λ u. PushesAt (suc tries) c.args.handle c.push.result u after) c.party.view_is t)

pub returns-clause-whole : goal.returns-clause-whole
returns-clause-whole g c is =
    let e = c.push.ensures in
    let after = standing c.push.new.seat.table_id c.push.new.seat.me.0 in
    let t = pushes_at c.party.inside.seat.table_id c.push.new.seat.table_id 1 c.args.handle c.push.result c.party.inside.seat.me c.push.new.seat.me (e.whole (ap (λ u. u.share) c.party.view_is ∙ is)) e.table in
    subst (λ u. PushesAt 1 c.args.handle c.push.result u after) c.party.view_is t
