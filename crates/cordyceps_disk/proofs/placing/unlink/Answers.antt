use Rattle.std.proofs.Common.{refl, ap, sym, ◌∙◌, subst}
use Rattle.cordyceps.specs.Spots.BySpot.{HasSpot}
use Rattle.cordyceps.specs.Spots.DoubleLines.{flat}
use Rattle.cordyceps_disk.specs.Pairs.{due_of, spot_or, tickets_in}
use Rattle.cordyceps_disk.specs.Queue.{IsOut}
use Rattle.cordyceps_disk.proofs.Pairing.{left_paired, taken_due, ticket_is, ticket_there}
use Rattle.cordyceps_disk.proofs.Tickets.{distinct, has, removed}
use Rattle.cordyceps_disk.proofs.placing.unlink.Goals as goal

pub remove-requires-2 : goal.remove-requires-2
remove-requires-2 g c =
    subst (λ w. HasSpot (flat c.args.tickets.now.lines) w.ticket) (sym c.into_value-request.ensures)
    (has c.args.tickets.now.lines c.remove.result.value.ticket
    (ticket_there c.args.requests.now.nodes (tickets_in c.args.tickets.now.lines) c.requires.kept.paired
    c.args.at c.remove.result c.remove.new.self.nodes c.remove.ensures.taken))

pub returns-clause-taken : goal.returns-clause-taken
returns-clause-taken g c =
    (c.remove.result, ap (λ w. w.request) (sym c.into_value-request.ensures), c.remove.ensures.taken)

pub returns-clause-due : goal.returns-clause-due
returns-clause-due g c =
    let t = tickets_in c.args.tickets.now.lines in
    let s = tickets_in c.remove-2.new.self.lines in
    let u = c.into_value-request.result.ticket in
    let at = ap (λ w. w.ticket) (sym c.into_value-request.ensures) in
    let (out, _) = removed c.args.tickets.now.lines c.remove-2.new.self.lines c.requires.kept.held
    u c.remove-2.result (λ a h. c.remove-2.ensures.arrivals _ a refl h) in
    let says = ticket_is c.args.requests.now.nodes t c.requires.kept.paired c.args.at u
    c.remove.result c.remove-2.result c.remove.new.self.nodes s c.remove.ensures.taken at out in
    subst (λ d. IsOut (due_of t) d (due_of s))
    (ap (λ v. (v.deadline, spot_or v.request)) says
    ∙ ap (λ w. (w.request.deadline, c.args.at)) (sym c.into_value-request.ensures))
    (taken_due t s u c.remove-2.result out)

pub returns-clause-kept : goal.returns-clause-kept
returns-clause-kept g c =
    let t = tickets_in c.args.tickets.now.lines in
    let s = tickets_in c.remove-2.new.self.lines in
    let u = c.into_value-request.result.ticket in
    let at = ap (λ w. w.ticket) (sym c.into_value-request.ensures) in
    let (out, held) = removed c.args.tickets.now.lines c.remove-2.new.self.lines c.requires.kept.held
    u c.remove-2.result (λ a h. c.remove-2.ensures.arrivals _ a refl h) in
    record {
      paired = left_paired c.args.requests.now.nodes t c.requires.kept.paired c.args.at u
          c.remove.result c.remove-2.result c.remove.new.self.nodes s c.remove.ensures.taken at out
          c.remove.ensures.distinct (distinct c.remove-2.new.self.lines c.remove-2.ensures.distinct);
      held = held;
    }
