-- A function that compares items by a number of each computes a total preorder.
use Rattle.std.proofs.Common.{◌≡◌, ℕ}
use Rattle.std.specs.Borrow.{Bor}
use denote.Param.Members.{Shared}
use Rattle.std.specs.Cmp.{on_total}
use Rattle.std.specs.Fn.{FnReturnsAtPair}
use Rattle.std.specs.Ordering.{nat_cmp}
use Rattle.std.specs.declared.cmp.Ordering.{Ordering}
use Rattle.std.proofs.lemmas.Cmp.{nat_cmp_total}
use Rattle.cordyceps_single.specs.ByFn.{Computes}
use Rattle.cordyceps_single.specs.Preorder.{preorder_from_total}
use Rattle.cordyceps_commands.specs.declared.item.Item.{Item}

pub computes_by : {F : Type 0} (key : Item → ℕ) (g : Shared F (Bor Item × (Bor Item × Unit {0})) Ordering) (f : F) →
    ((x y : Item) (r : Ordering) → FnReturnsAtPair g f x y r → r ≡ nat_cmp (key x) (key y)) → Computes g f (λ x y. nat_cmp (key x) (key y))
computes_by key g f answers = record { lawful = preorder_from_total (on_total key nat_cmp_total); answers = answers }
