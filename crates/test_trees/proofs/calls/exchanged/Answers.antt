use Rattle.std.proofs.Common.{◌≡◌, ℕ, true, refl, sym, ap, ◌∙◌, subst}
use Rattle.std.specs.declared.cmp.Ordering.{Ordering}
use Rattle.std.specs.declared.cmp.Ordering.TheVariants.{Less, Equal, Greater}
use Rattle.std.specs.Ordering.{is_eq, nat_cmp, ordering_reverse}
use Rattle.std.proofs.lemmas.Cmp.{nat_cmp_total}
use Rattle.cordyceps_base.specs.Element.{Element}
use Rattle.cordyceps_base.specs.Nodes.{spots}
use Rattle.cordyceps_base.specs.Spots.{AreDistinct}
use Rattle.cordyceps_stable.proofs.Holding.{unique}
use Rattle.test_trees.proofs.calls.exchanged.Goals as goal

pub replace-old-requires-clause-equal : goal.replace-old-requires-clause-equal
replace-old-requires-clause-equal g c = λ cmp v by (b, id, a, is).
    let (d, number, z, has) = c.get-key.ensures in let key = c.get-key.result.now in
    let same = unique b a d z c.args.spot (record { id = id; value = v }) (record { id = number; value = key }) (sym is ∙ has) (subst (λ n. AreDistinct (spots n)) is c.spots_are_distinct.ensures) in
    let value : v ≡ key = ap (λ (e : Element ℕ). e.value) same.1 in
    (λ i. is_eq ((by i) (value i) (c.make.ensures i))) ∙ self key
  where
    go : (r : Ordering) → r ≡ ordering_reverse r → is_eq r ≡ true
    go Less e = absurd cc
    go Equal e = refl
    go Greater e = absurd cc

    self : (n : ℕ) → is_eq (nat_cmp n n) ≡ true
    self n = go (nat_cmp n n) (nat_cmp_total.antisymm n n)
