use Rattle.std.proofs.Common.{inl, inr, refl, sym, ◌∙◌, subst}
use Rattle.cordyceps_c_shared.specs.Inboxes.{SplitsOff, TakesOver}
use Rattle.cordyceps_c_shared.specs.declared.inbox.Inbox.{Inbox}
use Rattle.cordyceps_c_base.proofs.Answering.{on_either}
use Rattle.cordyceps_c.proofs.inbox.cordyceps_inbox_split.Goals as goal

pub returns-in-Some : goal.returns-in-Some
returns-in-Some c =
    let same = c.put.ensures ∙ sym c.in-Some.ensures.taken in
    on_either c.args.inbox.now.held (λ e. (refl, e, same)) (λ x e. (x, e, (same, inl refl)))

pub returns-in_default-split : goal.returns-in_default-split
returns-in_default-split c =
    rw c.in-Some-take.ensures.taken
    (c.split.new.self, c.put-in_default-split.ensures, (c.take.ensures.none ∙ sym c.in_default.ensures.taken, inl (c.in_default-split.ensures ∙ c.deref_mut.ensures.value)))

pub returns-in-Ok : goal.returns-in-Ok
returns-in-Ok c =
    let kept = c.split.new.self in let made = c.in-Ok.other.value in
    let off = subst (λ (i : Inbox). SplitsOff i kept made) c.deref_mut.ensures.value
    (subst (λ (k : Inbox). SplitsOff c.deref_mut.result.now kept k) (sym c.in-Ok.ensures.ok) c.in-Some-split.ensures) in
    rw c.in-Some-take.ensures.taken
    (kept, c.put-in-Ok-2.ensures, (made, c.in_default.ensures.taken, c.put-in-Ok.ensures, off))

pub returns-in-Err : goal.returns-in-Err
returns-in-Err c =
    let kept = c.split.new.self in let given = c.in-Err.field-0.value in let new = c.absorb.new.self in
    let off = subst (λ (i : Inbox). SplitsOff i kept given) c.deref_mut.ensures.value
    (subst (λ (k : Inbox). SplitsOff c.deref_mut.result.now kept k) (sym c.in-Err.ensures.value_returned) c.in-Some-split.ensures) in
    let over = subst (λ (i : Inbox). TakesOver i given new) c.deref_mut-in-Err.ensures.value c.absorb.ensures in
    rw c.in-Some-take.ensures.taken
    (new, c.put-in-Err.ensures, (c.take.ensures.none ∙ sym c.in_default.ensures.taken, inr (kept, given, off, over)))
