use Rattle.std.proofs.Common.{◌≡◌, max, true, false, refl, ap, sym, ◌∙◌, subst}
use Rattle.cordyceps_c_base.proofs.Fitting.{changed_fits, there_is}
use Rattle.cordyceps_c_timers.specs.declared.timers.Timer.{Timer}
use Rattle.cordyceps_c_timers.specs.Timers.{Restarts, Running, due_of, slot_of, with_deadline}
use Rattle.cordyceps_c_timers.proofs.TimersSaid.{none_has, restarts, seen}
use Rattle.cordyceps_c_timers.proofs.timers.Timers.restart.Goals as goal

pub returns-in_default : goal.returns-in_default
returns-in_default c =
    let was = c.self.inside in
    subst (λ (t : Running). Restarts c.args.ticket c.args.deadline false t t) c.self.view_is
    (none_has was.queue.nodes was.queue.clock was.tickets c.args.ticket c.self.invariant c.in_default.ensures, refl)

pub update-requires-clause-there : goal.update-requires-clause-there
update-requires-clause-there c =
    let was = c.self.inside in there_is slot_of was.tickets was.queue.nodes c.args.ticket c.in-Some.spot c.self.invariant c.in-Some.ensures

pub invariant_of-self : goal.invariant_of-self
invariant_of-self c =
    let was = c.self.inside in let (e, w, rest, returns, taken, put, _) = c.update.ensures.changed in let (_, (_, (_, slot))) = returns.met in
    changed_fits slot_of was.tickets was.queue.nodes c.update.new.self.nodes rest c.in-Some.spot e (record { id = e.id; value = w }) c.self.invariant taken put refl
    (ap slot_of (sym returns.leaves) ∙ slot ∙ ap slot_of returns.shows)

pub returns : goal.returns
returns c =
    let was = c.self.inside in let new = c.update.new.self in let (e, w, rest, returns, taken, _, arrivals) = c.update.ensures.changed in
    let (due, (deadline, (payload, slot))) = returns.met in let left = sym returns.leaves in
    let new_due : due_of w ≡ max c.args.deadline was.queue.clock = ap due_of left ∙ due ∙ c.max-due.ensures ∙ ap (max c.args.deadline) c.now.ensures in
    let new_deadline : w.deadline ≡ c.args.deadline = ap (λ (t : Timer). t.deadline) left ∙ deadline in
    let is : record { id = e.id; value = w } ≡ with_deadline was.queue.clock c.args.deadline e =
    λ i. record {
      id = e.id;
      value = record {
        due = new_due i;
        deadline = new_deadline i;
        payload = (ap (λ (t : Timer). t.payload) left ∙ payload ∙ ap (λ (t : Timer). t.payload) returns.shows) i;
        slot = (ap slot_of left ∙ slot ∙ ap slot_of returns.shows) i;
      };
    } in
    subst (λ (t : Running). Restarts c.args.ticket c.args.deadline true t (seen new.nodes new.clock was.tickets)) c.self.view_is
    (restarts was.queue.nodes new.nodes was.queue.clock new.clock was.tickets c.in-Some.spot e (record { id = e.id; value = w }) rest c.args.ticket c.args.deadline c.self.invariant c.spots_are_distinct.ensures c.in-Some.ensures taken is c.update.ensures.now
    (λ a h. arrivals due_of a refl h))
