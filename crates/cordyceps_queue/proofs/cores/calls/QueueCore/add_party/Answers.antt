use Rattle.std.proofs.Common.{◌≡◌, length, subst, sym}
use Rattle.cordyceps_queue.specs.Cores.CoreMeets.{CoreMeets}
use Rattle.cordyceps_queue.proofs.CoreTheory.CoreGrows.{party_tried}
use Rattle.cordyceps_queue.proofs.cores.calls.QueueCore.add_party.Goals as goal

pub invariant_of-self : goal.invariant_of-self
invariant_of-self g c =
    let m = c.self.inside.machine in
    (c.self.invariant.0, party_tried c.self.invariant.0 m c.add_party.new.self (λ n. n ≡ length m.parties) c.add_party.result c.add_party.ensures.ok c.add_party.ensures.err c.self.invariant.1)

pub returns-clause-history : goal.returns-clause-history
returns-clause-history g c = λ h was.
    let m = c.self.inside.machine in
    party_tried h m c.add_party.new.self (λ n. n ≡ length m.parties) c.add_party.result c.add_party.ensures.ok c.add_party.ensures.err (subst (CoreMeets h) (sym c.self.view_is) was)
