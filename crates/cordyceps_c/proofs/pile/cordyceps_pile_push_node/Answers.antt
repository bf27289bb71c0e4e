use Rattle.std.proofs.Common.{Err, refl, subst, sym, ap, ◌∙◌}
use Rattle.cordyceps_base.specs.Element.{Element}
use Rattle.cordyceps_stack.specs.declared.shared.push_error.TryPushError.{TryPushError}
use Rattle.cordyceps_c_base.specs.declared.carried.Carried.{Carried}
use Rattle.cordyceps_c_base.specs.Elements.{HoldsElement}
use Rattle.cordyceps_c_shared.specs.declared.pile.Pushed.TheVariants.{Done, Full, Busy}
use Rattle.cordyceps_c_shared.specs.Piles.{PushesNode}
use Rattle.cordyceps_c_shared.specs.declared.pile_handle.PileHandle.{PileHandle}
use Rattle.cordyceps_c.proofs.pile.cordyceps_pile_push_node.Goals as goal

pub pile_mut-requires : goal.pile_mut-requires
pile_mut-requires c = let (x, is) = c.if-not-is_some.ensures.found in (x, ap (λ (h : PileHandle). h.held) c.is_some.ensures.same ∙ is)

pub returns-in-Ok : goal.returns-in-Ok
returns-in-Ok c =
    let new = c.push_node-pushed.new.self in let e = c.take_node.result in let (stack, taken, pushes) = c.in-Ok.ensures in
    rw (ap (λ (h : PileHandle). h.held) (sym c.is_some.ensures.same) ∙ c.pile_mut.ensures.value)
    (new, e, Done, (λ w. cc), refl, c.take_node.ensures.0, refl, c.take_node.ensures.1, (stack, taken, (_, pushes)))

pub returns-in-Err-Full : goal.returns-in-Err-Full
returns-in-Err-Full c =
    let new = c.push_node-pushed.new.self in let e = c.take_node.result in let (stack, taken, told) = subst (λ (why : TryPushError (Element Carried)). PushesNode e (Err why) c.pile_mut.result.now new) c.in-Err-Full.field-0-is c.in-Err-Full.ensures in let (back, full) = told.0 in
    rw (ap (λ (h : PileHandle). h.held) (sym c.is_some.ensures.same) ∙ c.pile_mut.ensures.value)
    (new, e, Full, (λ w. cc), refl, c.take_node.ensures.0, refl, subst (HoldsElement c.put_node.new.self.held) back c.put_node.ensures, (stack, taken, (full, told.1)))

pub returns-in-Err-Contended : goal.returns-in-Err-Contended
returns-in-Err-Contended c =
    let new = c.push_node-pushed.new.self in let e = c.take_node.result in let (stack, taken, told) = subst (λ (why : TryPushError (Element Carried)). PushesNode e (Err why) c.pile_mut.result.now new) c.in-Err-Contended.field-0-is c.in-Err-Contended.ensures in let (back, misses) = told.0 in
    rw (ap (λ (h : PileHandle). h.held) (sym c.is_some.ensures.same) ∙ c.pile_mut.ensures.value)
    (new, e, Busy, (λ w. cc), refl, c.take_node.ensures.0, refl, subst (HoldsElement c.put_node-in-Err-Contended.new.self.held) back c.put_node-in-Err-Contended.ensures, (stack, taken, (misses, told.1)))
