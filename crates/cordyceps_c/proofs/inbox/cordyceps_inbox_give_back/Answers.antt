use Rattle.std.proofs.Common.{refl, sym, ap, ◌∙◌}
use Rattle.cordyceps_c_shared.specs.declared.inbox_handle.InboxHandle.{InboxHandle}
use Rattle.cordyceps_c.proofs.inbox.cordyceps_inbox_give_back.Goals as goal

pub inbox_mut-requires : goal.inbox_mut-requires
inbox_mut-requires c = let (x, is) = c.if-not-is_some.ensures.found in (x, ap (λ (h : InboxHandle). h.held) c.is_some.ensures.same ∙ is)

pub returns : goal.returns
returns c =
    let gave = c.give_back-is_given in
    rw (ap (λ (h : InboxHandle). h.held) (sym c.is_some.ensures.same) ∙ c.inbox_mut.ensures.value)
    (gave.new.self, refl, gave.ensures)
