-- The orders by sector and by deadline, which are total preorders.
use Rattle.std.specs.declared.cmp.Ordering.{Ordering}
use Rattle.std.specs.Ordering.{nat_cmp}
use Rattle.std.specs.Cmp.{on_total, nat_cmp_total}
use Rattle.cordyceps.specs.Orders.Preorder.{IsPreorder, preorder_from_total}
use Rattle.cordyceps_disk.specs.declared.request.Ticket.{Ticket}
use Rattle.cordyceps_disk.specs.declared.request.Waiting.{Waiting}

abbrev pub by_sector : {P : Type 0} → Waiting P → Waiting P → Ordering
by_sector x y = nat_cmp x.request.sector y.request.sector

pub by_sector_lawful : {P : Type 0} → IsPreorder (by_sector {P = P})
by_sector_lawful {P} = preorder_from_total (on_total (λ (w : Waiting P). w.request.sector) nat_cmp_total)

abbrev pub by_deadline : Ticket → Ticket → Ordering
by_deadline x y = nat_cmp x.deadline y.deadline

pub by_deadline_lawful : IsPreorder by_deadline
by_deadline_lawful = preorder_from_total (on_total (λ (t : Ticket). t.deadline) nat_cmp_total)
