use Rattle.std.proofs.Common.{None, refl, sym, ap, subst}
use Rattle.cordyceps_base.specs.Nodes.{nodes_of}
use Rattle.cordyceps_base.specs.SingleChain.{IsParted, unless_null}
use Rattle.cordyceps_base.proofs.SingleChain.{link_testable}
use Rattle.cordyceps_base.proofs.single_chain.SingleChain.into_cursor.Goals as goal

pub not_null-requires : goal.not_null-requires
not_null-requires g c = link_testable c.self.inside.head c.self.inside.boxes.blocks c.self.invariant.led c.self.invariant.comparable

pub invariant_of-result : goal.invariant_of-result
invariant_of-result g c =
    let i = c.self.inside in
    subst (λ h. IsParted None c.null.result.ptr h i.tail.ptr c.empty.result.blocks i.boxes.blocks) (sym c.not_null.ensures)
    (subst (λ l. IsParted None c.null.result.ptr (unless_null i.head) i.tail.ptr l i.boxes.blocks) (sym c.empty.ensures) (record { front_led = refl; front_ends = tt; rest_led = c.self.invariant.led; ends = c.self.invariant.ends }))

pub returns : goal.returns
returns g c = (ap nodes_of c.empty.ensures, c.self.view_is)
