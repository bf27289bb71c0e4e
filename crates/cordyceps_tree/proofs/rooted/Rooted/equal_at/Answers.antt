use Rattle.std.proofs.Common.{◌≡◌, sym, ap, ◌∙◌, subst}
use Rattle.std.specs.Ordering.{is_eq}
use Rattle.cordyceps_base.specs.BySpot.{HoldsAt}
use Rattle.cordyceps_tree.proofs.Bounds.{held_one, some_one}
use Rattle.cordyceps_tree.proofs.rooted.Rooted.equal_at.Goals as goal

pub returns-then-is_equal : goal.returns-then-is_equal
returns-then-is_equal g c = (
  c.in-Some.is,
  λ x cmp by holds.
      let w = c.get.result.now in let v = c.args.value.now in
      let same : x ≡ w = held_one c.args.self.now c.in-Some.at x w c.spots_are_distinct.ensures holds c.get.ensures in
      ap (λ z. is_eq (cmp v z)) same ∙ ap is_eq (sym (c.compare.ensures cmp by)) ∙ sym c.is_eq-is_equal.ensures ∙ c.if-is_equal.true,
)

pub returns-else-is_equal : goal.returns-else-is_equal
returns-else-is_equal g c = λ p e x cmp by holds.
    let w = c.get.result.now in let v = c.args.value.now in
    let at : c.in-Some.at ≡ p = some_one c.in-Some.at p (sym c.in-Some.is ∙ e) in
    let same : x ≡ w = held_one c.args.self.now c.in-Some.at x w c.spots_are_distinct.ensures (subst (λ q. HoldsAt c.args.self.now q x) (sym at) holds) c.get.ensures in
    ap (λ z. is_eq (cmp v z)) same ∙ ap is_eq (sym (c.compare.ensures cmp by)) ∙ sym c.is_eq-is_equal.ensures ∙ c.if-is_equal.false
