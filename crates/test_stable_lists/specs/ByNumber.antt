-- The order of values by a number of theirs is a total preorder.
use Rattle.std.specs.Prelude.{ℕ}
use Rattle.std.specs.Ordering.{nat_cmp}
use Rattle.std.specs.Cmp.{on_total}
use Rattle.std.proofs.lemmas.Cmp.{nat_cmp_total}
use Rattle.cordyceps_single.specs.Preorder.{IsPreorder, preorder_from_total}

pub by_number_lawful : {X : Type 0} (number : X → ℕ) → IsPreorder (λ x y. nat_cmp (number x) (number y))
by_number_lawful number = preorder_from_total (on_total number nat_cmp_total)
