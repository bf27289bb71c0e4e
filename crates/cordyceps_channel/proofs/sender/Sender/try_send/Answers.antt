use Rattle.std.proofs.Common.{◌∙◌, [], ◌∷◌, refl, subst, sym}
use Rattle.cordyceps_shared.specs.Standings.{name_of}
use Rattle.cordyceps_shared.proofs.Acting.{acts_of}
use Rattle.cordyceps_queue.specs.History.{actor, Swap, Link}
use Rattle.cordyceps_queue.specs.Shared.Calls.{Legal}
use Rattle.cordyceps_queue.proofs.SharedTheory.Sending.{then_enqueues}
use Rattle.cordyceps_channel.specs.Channels.{SendsNothing}
use Rattle.cordyceps_channel.proofs.Registering.{still_opened}
use Rattle.cordyceps_channel.proofs.sender.Sender.try_send.Goals as goal

pub invariant_of-self : goal.invariant_of-self
invariant_of-self g c =
    let u = c.self-2.inside.party in
    let w = c.enqueue.new.party in
    let es = Swap (name_of u) c.args.handle ∷ Link (name_of u) ∷ [] in
    let a = acts_of actor (λ h. Legal h) u w es c.enqueue.ensures.0 in
    let i = c.self-2.invariant in
    record { table = a.table ∙ i.table; register = i.register; opened = still_opened _ _ u w es c.self-2.inside.home i.opened a (refl, (refl, tt)) refl }

pub returns : goal.returns
returns g c =
    let before = subst (λ v. SendsNothing c.args.self.now v) (sym c.self-2.view_is) c.has_room.ensures.sends in
    then_enqueues (λ x. x) c.args.handle c.enqueue.new.party before c.enqueue.ensures
