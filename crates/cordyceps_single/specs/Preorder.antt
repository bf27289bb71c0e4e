-- The law of orders.
use Rattle.std.specs.Prelude.{◌≡◌, ℕ, false}
use Rattle.std.specs.declared.cmp.Ordering.{Ordering}
use Rattle.std.specs.Ordering.{is_gt, nat_cmp, ordering_reverse}
use Rattle.std.specs.Cmp.{IsTotalOrder, nat_cmp_total, on_total, upto}
use Rattle.cordyceps_single.specs.ByKey.{by_key}

-- a total preorder: `Less` one way is `Greater` the other way, `Equal` is so both ways, and 'not `Greater`' is
-- transitive
pub record IsPreorder {X : Type 0} (cmp : X → X → Ordering) : Type 0 where
  pub turns : (x y : X) → cmp x y ≡ ordering_reverse (cmp y x)
  pub trans : (x y z : X) → is_gt (cmp x y) ≡ false → is_gt (cmp y z) ≡ false → is_gt (cmp x z) ≡ false

-- a total order of std is one
pub preorder_from_total : {X : Type 0} {cmp : X → X → Ordering} → IsTotalOrder cmp → IsPreorder cmp
preorder_from_total o = record { turns = o.antisymm; trans = upto o }

-- so is the order by a key, where keys are in a total order, and that by a number of each value
pub by_key_lawful : {X K : Type 0} {cmp : K → K → Ordering} → IsTotalOrder cmp → (key : X → K)
    → IsPreorder (by_key cmp key)
by_key_lawful o key = preorder_from_total (on_total key o)

pub by_number_lawful : {X : Type 0} (number : X → ℕ) → IsPreorder (by_key nat_cmp number)
by_number_lawful number = by_key_lawful nat_cmp_total number
