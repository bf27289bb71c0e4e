use Rattle.std.proofs.Common.{◌≡◌, Bool, true, false, Option, Some, None, MatchOption, is_some, refl, sym, ap, ◌∙◌}
use Rattle.cordyceps_base.specs.Element.{Element}
use Rattle.cordyceps_base.specs.declared.node.Block.{Block}
use Rattle.cordyceps_c_base.specs.declared.carried.Carried.{Carried}
use Rattle.cordyceps_c_base.specs.Elements.{HoldsElement}
use Rattle.cordyceps_c_shared.specs.Piles.{HoldsPopped}
use Rattle.cordyceps_c_shared.specs.declared.pile_handle.PileHandle.{PileHandle}
use Rattle.cordyceps_c.proofs.pile.cordyceps_pile_pop_node.Goals as goal

pub pile_mut-requires : goal.pile_mut-requires
pile_mut-requires c = let (x, is) = c.if-not-is_some.ensures.found in (x, ap (λ (h : PileHandle). h.held) c.is_some.ensures.same ∙ is)

-- the handle holds what was popped, and the answer says whether that is a node
holds : (o : Option (Element Carried)) (answer : Bool) (held : Option (Block Carried))
    → MatchOption o ((answer ≡ false) × (held ≡ None)) (λ e. (answer ≡ true) × HoldsElement held e) → (answer ≡ is_some o) × HoldsPopped held o
holds None answer held told = told
holds (Some e) answer held told = told

pub returns : goal.returns
returns c =
    let new = c.pop-popped.new.self in let popped = c.pop-popped.result in let out = holds popped c.put_found.result c.put_found.new.self.held c.put_found.ensures in
    rw (ap (λ (h : PileHandle). h.held) (sym c.is_some.ensures.same) ∙ c.pile_mut.ensures.value)
    (new, popped, refl, out.0, out.1, c.pop-popped.ensures)
