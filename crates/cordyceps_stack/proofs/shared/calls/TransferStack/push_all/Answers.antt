use Rattle.std.proofs.Common.{suc, ap, ◌∙◌, subst}
use Rattle.cordyceps_stack.specs.Shared.Calls.{PushesAllAt}
use Rattle.cordyceps_stack.specs.Shared.Parts.{standing}
use Rattle.cordyceps_stack.proofs.SharedTheory.CallsHold.{pushes_all_at}
use Rattle.cordyceps_stack.proofs.shared.calls.TransferStack.push_all.Goals as goal

pub returns-clause-pushed : goal.returns-clause-pushed
returns-clause-pushed g c =
    let e = c.push_all.ensures in
    let after = standing c.push_all.new.seat.table_id c.push_all.new.seat.me.0 in
    let (pushed, all, tried) = e.pushed in
    let tries = tried.0 in
    let t = pushes_all_at c.party.inside.seat.table_id c.push_all.new.seat.table_id (suc tries) pushed c.push_all.result c.party.inside.seat.me c.push_all.new.seat.me tried.1 e.table in
    (pushed, all, (tries, subst (λ u. PushesAllAt (suc tries) pushed c.push_all.result u after) c.party.view_is t))

pub returns-clause-whole : goal.returns-clause-whole
returns-clause-whole g c is =
    let e = c.push_all.ensures in
    let after = standing c.push_all.new.seat.table_id c.push_all.new.seat.me.0 in
    let (pushed, all, has) = e.whole (ap (λ u. u.share) c.party.view_is ∙ is) in
    let t = pushes_all_at c.party.inside.seat.table_id c.push_all.new.seat.table_id 1 pushed c.push_all.result c.party.inside.seat.me c.push_all.new.seat.me has e.table in
    (pushed, all, subst (λ u. PushesAllAt 1 pushed c.push_all.result u after) c.party.view_is t)
