-- Orders of the values of a map, as orders of its entries.
use Rattle.std.specs.Prelude.{◌≡◌}
use Rattle.std.specs.declared.cmp.Ordering.{Ordering}
use Rattle.cordyceps_single.specs.ByKey.{by_key}
use Rattle.cordyceps_single.specs.Preorder.{IsPreorder}
use Rattle.cordyceps_map.specs.declared.entry.Entry.{Entry}

-- cmp compares entries as the order compares their values
pub record ComparesByValue {O K V : Type 0} (compares_by : O → (V → V → Ordering) → Type 0) (order : O)
    (cmp : Entry K V → Entry K V → Ordering) : Type 0 where
  pub values : V → V → Ordering
  pub by : compares_by order values
  pub compares : cmp ≡ by_key values (λ e. e.value)

-- a total preorder of keys is one of what has the keys
pub preorder_on : {X Y : Type 0} {cmp : Y → Y → Ordering} → IsPreorder cmp → (key : X → Y) → IsPreorder (by_key cmp key)
preorder_on o key = record { turns = λ x y. o.turns (key x) (key y); trans = λ x y z. o.trans (key x) (key y) (key z) }
