use Rattle.std.proofs.Common.{inl, inr, refl, subst, sym, ap, ◌∙◌}
use Rattle.cordyceps_c_base.specs.Elements.{HoldsElement}
use Rattle.cordyceps_c_shared.specs.declared.inbox_handle.InboxHandle.{InboxHandle}
use Rattle.cordyceps_c.proofs.inbox.cordyceps_inbox_send_node.Goals as goal

pub inbox_mut-requires : goal.inbox_mut-requires
inbox_mut-requires c = let (x, is) = c.if-not-is_some.ensures.found in (x, ap (λ (h : InboxHandle). h.held) c.is_some.ensures.same ∙ is)

pub returns-in-Ok : goal.returns-in-Ok
returns-in-Ok c =
    let new = c.send_node-sent.new.self in let e = c.take_node.result in
    rw (ap (λ (h : InboxHandle). h.held) (sym c.is_some.ensures.same) ∙ c.inbox_mut.ensures.value)
    (new, e, refl, c.take_node.ensures.0, inl (refl, c.take_node.ensures.1, c.in-Ok.ensures))

pub returns-in-Err : goal.returns-in-Err
returns-in-Err c =
    let new = c.send_node-sent.new.self in let e = c.take_node.result in let (back, full) = c.in-Err.ensures in
    rw (ap (λ (h : InboxHandle). h.held) (sym c.is_some.ensures.same) ∙ c.inbox_mut.ensures.value)
    (new, e, refl, c.take_node.ensures.0, inr (refl, subst (HoldsElement c.put_node.new.self.held) back c.put_node.ensures, full))
