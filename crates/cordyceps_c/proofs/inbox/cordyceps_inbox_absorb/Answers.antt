use Rattle.std.proofs.Common.{refl, subst}
use Rattle.cordyceps_c_shared.specs.Inboxes.{TakesOver}
use Rattle.cordyceps_c_shared.specs.declared.inbox.Inbox.{Inbox}
use Rattle.cordyceps_c.proofs.inbox.cordyceps_inbox_absorb.Goals as goal

pub returns : goal.returns
returns c =
    let new = c.absorb.new.self in
    let over = subst (λ (i : Inbox). TakesOver i c.in-Some-take.absorbed.value new) c.deref_mut.ensures.value
    (subst (λ (k : Inbox). TakesOver c.deref_mut.result.now k new) c.into_inner.ensures c.absorb.ensures) in
    rw c.in-Some.ensures.taken
    (rw c.in-Some-take.ensures.taken (new, refl, c.put-2.ensures, c.take-2.ensures.none, over))
