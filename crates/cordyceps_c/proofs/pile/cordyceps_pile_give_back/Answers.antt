use Rattle.std.proofs.Common.{refl, sym, ap, ◌∙◌}
use Rattle.cordyceps_c_shared.specs.declared.pile_handle.PileHandle.{PileHandle}
use Rattle.cordyceps_c.proofs.pile.cordyceps_pile_give_back.Goals as goal

pub pile_mut-requires : goal.pile_mut-requires
pile_mut-requires c = let (x, is) = c.if-not-is_some.ensures.found in (x, ap (λ (h : PileHandle). h.held) c.is_some.ensures.same ∙ is)

pub returns : goal.returns
returns c =
    let gave = c.give_back-is_given in
    rw (ap (λ (h : PileHandle). h.held) (sym c.is_some.ensures.same) ∙ c.pile_mut.ensures.value)
    (gave.new.self, refl, gave.ensures)
