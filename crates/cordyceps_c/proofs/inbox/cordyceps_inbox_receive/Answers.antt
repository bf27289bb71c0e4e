use Rattle.std.proofs.Common.{Ok, Err, refl, ap, sym, ◌∙◌}
use Rattle.cordyceps_c_base.specs.declared.carried.Carried.{Carried}
use Rattle.cordyceps_c_shared.specs.declared.inbox_handle.InboxHandle.{InboxHandle}
use Rattle.cordyceps_c.proofs.inbox.cordyceps_inbox_receive.Goals as goal

pub inbox_mut-requires : goal.inbox_mut-requires
inbox_mut-requires c = let (x, is) = c.if-not-is_some.ensures.found in (x, ap (λ (h : InboxHandle). h.held) c.is_some.ensures.same ∙ is)

pub returns-in-Ok : goal.returns-in-Ok
returns-in-Ok c =
    let new = c.receive-tried.new.self in let told = c.in-Ok.ensures in
    rw (ap (λ (h : InboxHandle). h.held) (sym c.is_some.ensures.same) ∙ c.inbox_mut.ensures.value) (
      new,
      Ok c.in-Ok.letter,
      refl,
      refl,
      ap (λ (m : Carried). m.value) c.into_value.ensures,
      told.tried,
      told.whole,
    )

pub returns-in-Err : goal.returns-in-Err
returns-in-Err c =
    let new = c.receive-tried.new.self in let told = c.in-Err.ensures in
    rw (ap (λ (h : InboxHandle). h.held) (sym c.is_some.ensures.same) ∙ c.inbox_mut.ensures.value) (
      new,
      Err c.in-Err.why,
      refl,
      c.number_of.ensures,
      refl,
      told.tried,
      told.whole,
    )
