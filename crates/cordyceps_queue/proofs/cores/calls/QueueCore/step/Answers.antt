use Rattle.std.proofs.Common.{ap, subst, sym, ◌∙◌}
use Rattle.cordyceps_queue.specs.Cores.Machine.{Machine, after_step}
use Rattle.cordyceps_queue.specs.Cores.CoreMeets.{CoreMeets}
use Rattle.cordyceps_queue.proofs.CoreTheory.Refusals.{exact}
use Rattle.cordyceps_queue.proofs.CoreTheory.CoreKeeps.{core_steps, sound_step}
use Rattle.cordyceps_queue.proofs.cores.calls.QueueCore.step.Goals as goal

pub invariant_of-self : goal.invariant_of-self
invariant_of-self g c = rw (ap (λ o. o.0) c.act.ensures) (sound_step c.self.inside.machine c.args.party c.args.step c.self.invariant)

pub returns-clause-machine : goal.returns-clause-machine
returns-clause-machine g c = ap (λ o. o.0) c.act.ensures ∙ ap (λ (m : Machine g.row.E.Denot). (after_step m c.args.party c.args.step).0) c.self.view_is

pub returns-clause-answer : goal.returns-clause-answer
returns-clause-answer g c = ap (λ o. o.1) c.act.ensures ∙ ap (λ (m : Machine g.row.E.Denot). (after_step m c.args.party c.args.step).1) c.self.view_is

pub returns-clause-refused : goal.returns-clause-refused
returns-clause-refused g c = rw (ap (λ o. o.0) c.act.ensures, ap (λ o. o.1) c.act.ensures, ← c.self.view_is) (exact c.self.inside.machine c.args.party c.args.step c.self.invariant).1

pub returns-clause-accepted : goal.returns-clause-accepted
returns-clause-accepted g c = rw (ap (λ o. o.1) c.act.ensures, ← c.self.view_is) (exact c.self.inside.machine c.args.party c.args.step c.self.invariant).0

pub returns-clause-history : goal.returns-clause-history
returns-clause-history g c = λ h was. rw (ap (λ o. o.0) c.act.ensures, ap (λ o. o.1) c.act.ensures, ← c.self.view_is) (core_steps h c.self.inside.machine c.args.party c.args.step (subst (CoreMeets h) (sym c.self.view_is) was))
