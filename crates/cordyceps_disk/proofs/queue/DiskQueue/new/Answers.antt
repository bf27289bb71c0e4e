use Rattle.std.proofs.Common.{rules, ap, sym, subst}
use Rattle.cordyceps_disk.specs.Orders.{by_deadline}
use Rattle.cordyceps_disk.specs.Pairs.{Kept, ahead_of}
use Rattle.cordyceps_disk.proofs.Tickets.{none_kept}
use Rattle.cordyceps_disk.proofs.queue.DiskQueue.new.Goals as goal

pub invariant_of-result : goal.invariant_of-result
invariant_of-result g c =
    let lines = c.new_with_order-2.result.lines in
    let held = c.new_with_order-2.ensures.arrivals by_deadline in
    let none = c.new_with_order.ensures.nodes in (
      subst (λ r. Kept r lines) (sym none) (none_kept lines c.new_with_order-2.ensures.nodes held),
      sym (ap (ahead_of 0) none),
    )

pub returns : goal.returns
returns g c = search rules
