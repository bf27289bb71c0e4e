use Rattle.std.proofs.Common.{◌≡◌, ◌∙◌, [], refl, subst, arith}
use Rattle.cordyceps_shared.proofs.Acting.{acts_of}
use Rattle.cordyceps_queue.specs.History.{actor}
use Rattle.cordyceps_queue.specs.Shared.Calls.{Legal, Refills, FindsFull}
use Rattle.cordyceps_channel.proofs.Registering.{still_opened}
use Rattle.cordyceps_channel.proofs.sender.Sender.has_room.Goals as goal

pub invariant_of-self : goal.invariant_of-self
invariant_of-self g c =
    let u = c.self.inside.party in
    let w = c.refill_at_most-taken.new.party in
    let a = acts_of actor (λ h. Legal h) u w [] c.refill_at_most-taken.ensures.answer.0 in
    let i = c.self.invariant in
    record { table = a.table ∙ i.table; register = i.register; opened = still_opened _ _ u w [] c.self.inside.home i.opened a tt refl }

pub invariant_of-self-2 : goal.invariant_of-self-2
invariant_of-self-2 g c =
    let u = c.self.inside.party in
    let w = c.refill_at_most-taken.new.party in
    let a = acts_of actor (λ h. Legal h) u w [] c.refill_at_most-taken.ensures.answer.0 in
    let i = c.self.invariant in
    record { table = a.table ∙ i.table; register = i.register; opened = still_opened _ _ u w [] c.self.inside.home i.opened a tt refl }

pub returns-then-taken-eq0-clause-full : goal.returns-then-taken-eq0-clause-full
returns-then-taken-eq0-clause-full g c = λ _.
    let u = c.self.inside.party in
    let w = c.refill_at_most-taken.new.party in
    let none = subst (λ n. Refills n u w) c.if-taken-eq0.true c.refill_at_most-taken.ensures.answer in
    let rooms : u.rooms ≡ 0 = omega (arith, c.rooms.ensures.count, c.if-rooms-gt0.false) in
    subst (λ v. FindsFull v w) c.self.view_is (none, rooms)
