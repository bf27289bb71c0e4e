use Rattle.std.proofs.Common.{sym, subst, ◌∙◌}
use Rattle.core.specs.Option.{option_or}
use Rattle.cordyceps_base.specs.Boxes.{box_addresses}
use Rattle.cordyceps_base.specs.SingleChain.{IsLed, EndsAt}
use Rattle.cordyceps_base.specs.Spots.{AreNullComparable}
use Rattle.cordyceps_base.proofs.SingleChain.{closed, led_somewhere}
use Rattle.cordyceps_base.proofs.single_chain.Cursor.close.Goals as goal

pub or_nowhere-requires : goal.or_nowhere-requires
or_nowhere-requires g c =
    let i = c.self.inside in let is = c.null_comparable-boxes.ensures.0 ∙ c.join.ensures in
    let all = closed i.head i.at i.before.ptr i.tail.ptr i.front.blocks i.rest.blocks c.self.invariant in
    let led = subst (IsLed (option_or i.head i.at)) (sym is) all.0 in
    led_somewhere c.or.result c.null_comparable-boxes.result.blocks (subst (λ h. IsLed h c.null_comparable-boxes.result.blocks) (sym c.or.ensures) led) (subst (λ l. AreNullComparable (box_addresses l)) (sym c.null_comparable-boxes.ensures.0) c.null_comparable-boxes.ensures.1)

pub invariant_of-result : goal.invariant_of-result
invariant_of-result g c =
    let i = c.self.inside in let is = c.null_comparable-boxes.ensures.0 ∙ c.join.ensures in let all = closed i.head i.at i.before.ptr i.tail.ptr i.front.blocks i.rest.blocks c.self.invariant in
    let led = subst (IsLed (option_or i.head i.at)) (sym is) all.0 in record {
      led = subst (λ h. IsLed h c.null_comparable-boxes.result.blocks) (sym (c.or_nowhere.ensures ∙ c.or.ensures)) led;
      ends = subst (λ l. EndsAt l i.tail.ptr) (sym is) all.1;
      comparable = subst (λ l. AreNullComparable (box_addresses l)) (sym c.null_comparable-boxes.ensures.0) c.null_comparable-boxes.ensures.1;
    }
