use Rattle.std.proofs.Common.{Some, None, refl, ap, sym, ◌∙◌}
use Rattle.cordyceps_c_base.specs.declared.carried.Carried.{Carried}
use Rattle.cordyceps_c_shared.specs.declared.pile_handle.PileHandle.{PileHandle}
use Rattle.cordyceps_c.proofs.pile.cordyceps_pile_pop.Goals as goal

pub pile_mut-requires : goal.pile_mut-requires
pile_mut-requires c = let (x, is) = c.if-not-is_some.ensures.found in (x, ap (λ (h : PileHandle). h.held) c.is_some.ensures.same ∙ is)

pub returns-in-Some : goal.returns-in-Some
returns-in-Some c =
    let new = c.pop-popped.new.self in
    let pops = c.in-Some.ensures in
    rw (ap (λ (h : PileHandle). h.held) (sym c.is_some.ensures.same) ∙ c.pile_mut.ensures.value)
    (new, Some c.in-Some.sheet, refl, refl, ap (λ (m : Carried). m.value) c.into_value.ensures, pops)

pub returns-in-None : goal.returns-in-None
returns-in-None c =
    let new = c.pop-popped.new.self in
    rw (ap (λ (h : PileHandle). h.held) (sym c.is_some.ensures.same) ∙ c.pile_mut.ensures.value)
    (new, None, refl, refl, refl, c.in-None.ensures)
