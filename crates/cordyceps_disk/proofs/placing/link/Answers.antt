use Rattle.std.proofs.Common.{◌≡◌, Some, refl, ap, sym, ◌∙◌, subst, arith}
use Rattle.cordyceps.specs.Spots.Heap.{Holds}
use Rattle.cordyceps_disk.specs.declared.request.Ticket.{Ticket}
use Rattle.cordyceps_disk.specs.Orders.{by_deadline}
use Rattle.cordyceps_disk.specs.Pairs.{Paired, deadline_of, due_of, spot_or, tickets_in}
use Rattle.cordyceps_disk.specs.Queue.{put_by}
use Rattle.cordyceps_disk.proofs.Linking.{changed_held, changed_put, left_held, nothing_left, request_put, same_ticket, ticket_told}
use Rattle.cordyceps_disk.proofs.Pairing.{put_due, put_paired}
use Rattle.cordyceps_disk.proofs.Tickets.{as_long, distinct}
use Rattle.cordyceps_disk.proofs.placing.link.Goals as goal

pub push-ticket-requires : goal.push-ticket-requires
push-ticket-requires g c =
    omega (arith, c.requires.fits, c.requires.kept.paired.length, as_long c.args.tickets.now.lines)

pub returns-in-Ok-new-clause-put : goal.returns-in-Ok-new-clause-put
returns-in-Ok-new-clause-put g c = (
  c.in-Ok-new.node,
  ap (λ n. n.value.request) c.in-Ok-new.ensures.made,
  request_put c.args.requests.now.nodes c.insert-at.new.self.nodes (c.insert-at.result, c.in-Ok-new.node)
      c.requires.kept.paired.by_sector (c.insert-at.ensures.arrangement _ c.args.requests.now.nodes refl),
)

-- the ticket once it was told, and where it is
pub told : (g : _) (c : goal.After-update g)
    → (c.update.ensures.changed.1 ≡ record { deadline = c.args.request.deadline; request = Some c.insert-at.result })
told g c =
    let (e, w, rest, returns, taken, _, again) = c.update.ensures.changed in
    let was = c.requires.kept.held in
    let came = c.push-ticket.ensures.arrivals _ (tickets_in c.args.tickets.now.lines) refl was in
    let same = same_ticket c.args.tickets.now.lines c.push-ticket.new.self.lines c.push-ticket.result c.in-Ok.ticket
    was came c.push-ticket.ensures.distinct c.update.new.self.lines e (record { id = e.id; value = w })
    (λ a h. again _ a refl h) in
    ticket_told c.in-Ok.ticket e w returns.shown.now returns.left.now c.args.request.deadline c.insert-at.result
    (sym same) (ap (λ n. n.value.deadline) c.in-Ok.ensures.made) returns.shows returns.leaves
    returns.met.0 returns.met.1

pub placed : (g : _) (c : goal.After-update g)
    → (tickets_in c.update.new.self.lines
    ≡ put_by deadline_of
    (c.push-ticket.result, record { id = c.update.ensures.changed.0.id; value = c.update.ensures.changed.1 })
    (tickets_in c.args.tickets.now.lines))
placed g c =
    let (e, w, rest, returns, taken, _, again) = c.update.ensures.changed in
    let was = c.requires.kept.held in
    let came = c.push-ticket.ensures.arrivals _ (tickets_in c.args.tickets.now.lines) refl was in
    changed_put c.args.tickets.now.lines c.push-ticket.new.self.lines c.push-ticket.result c.in-Ok.ticket
    was came c.push-ticket.ensures.distinct c.update.new.self.lines e (record { id = e.id; value = w })
    (λ a h. again _ a refl h)

pub held : (g : _) (c : goal.After-update g) → Holds by_deadline c.update.new.self.lines (tickets_in c.update.new.self.lines)
held g c =
    let (e, w, rest, returns, taken, _, again) = c.update.ensures.changed in
    let was = c.requires.kept.held in
    let came = c.push-ticket.ensures.arrivals _ (tickets_in c.args.tickets.now.lines) refl was in
    changed_held c.args.tickets.now.lines c.push-ticket.new.self.lines c.push-ticket.result c.in-Ok.ticket
    was came c.push-ticket.ensures.distinct c.update.new.self.lines e (record { id = e.id; value = w })
    (λ a h. again _ a refl h)

pub returns-in-Ok-new-clause-due : goal.returns-in-Ok-new-clause-due
returns-in-Ok-new-clause-due g c =
    let t = tickets_in c.args.tickets.now.lines in
    let e = c.update.ensures.changed.0 in
    let w = c.update.ensures.changed.1 in
    ap (λ s. due_of s) (placed g c)
    ∙ put_due (c.push-ticket.result, record { id = e.id; value = w }) t
    ∙ ap (λ (x : Ticket). put_by (λ d. d.0) (x.deadline, spot_or x.request) (due_of t)) (told g c)

pub returns-in-Ok-new-clause-kept : goal.returns-in-Ok-new-clause-kept
returns-in-Ok-new-clause-kept g c =
    let e = c.update.ensures.changed.0 in
    let w = c.update.ensures.changed.1 in
    let n = c.in-Ok-new.node in
    let made = c.in-Ok-new.ensures.made in
    let s = c.update.new.self.lines in
    let put = request_put c.args.requests.now.nodes c.insert-at.new.self.nodes (c.insert-at.result, n)
    c.requires.kept.paired.by_sector (c.insert-at.ensures.arrangement _ c.args.requests.now.nodes refl) in
    let dated = sym (ap (λ m. m.value.request.deadline) made) in
    let says = told g c ∙ ap (λ d. record { deadline = d; request = Some c.insert-at.result }) dated in
    record {
      paired = put_paired c.args.requests.now.nodes (tickets_in c.args.tickets.now.lines) c.requires.kept.paired
          c.insert-at.result c.push-ticket.result n (record { id = e.id; value = w })
          c.insert-at.new.self.nodes (tickets_in s) put (placed g c) (ap (λ m. m.value.ticket) made) says
          c.insert-at.ensures.distinct (distinct s c.update.ensures.distinct);
      held = held g c;
    }

pub returns-in-Err-clause-tickets_kept : goal.returns-in-Err-clause-tickets_kept
returns-in-Err-clause-tickets_kept g c =
    let was = c.requires.kept.held in
    let came = c.push-ticket.ensures.arrivals _ (tickets_in c.args.tickets.now.lines) refl was in
    nothing_left c.args.tickets.now.lines c.push-ticket.new.self.lines c.push-ticket.result c.in-Ok.ticket
    was came c.push-ticket.ensures.distinct c.remove.new.self.lines c.remove.result
    (λ a h. c.remove.ensures.arrivals _ a refl h)

pub returns-in-Err-clause-kept : goal.returns-in-Err-clause-kept
returns-in-Err-clause-kept g c =
    let was = c.requires.kept.held in
    let came = c.push-ticket.ensures.arrivals _ (tickets_in c.args.tickets.now.lines) refl was in
    let same = sym (returns-in-Err-clause-tickets_kept g c) in
    record {
      paired = subst (λ s. Paired c.args.requests.now.nodes s) same c.requires.kept.paired;
      held = left_held c.args.tickets.now.lines c.push-ticket.new.self.lines c.push-ticket.result c.in-Ok.ticket
          was came c.push-ticket.ensures.distinct c.remove.new.self.lines c.remove.result
          (λ a h. c.remove.ensures.arrivals _ a refl h);
    }
