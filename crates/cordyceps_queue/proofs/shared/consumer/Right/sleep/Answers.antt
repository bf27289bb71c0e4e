use Rattle.std.proofs.Common.{◌≡◌, [], refl, ap, ◌∙◌, subst}
use Rattle.cordyceps_queue.specs.Shared.Bell.{Sleeps}
use Rattle.cordyceps_queue.specs.Shared.Parts.{standing}
use Rattle.cordyceps_queue.specs.Shared.Rule.{IsTable}
use Rattle.cordyceps_queue.proofs.SharedTheory.BellSeats.{hears_consuming, hears_use, hears_call}
use Rattle.cordyceps_queue.proofs.shared.consumer.Right.sleep.Goals as goal

pub invariant_of-self : goal.invariant_of-self
invariant_of-self g c =
    let m = c.self.inside.seat.me in
    let e = c.sleep.ensures in (
      hears_consuming _ _ _ m c.sleep.new.seat.me _ [] c.self.invariant.0 e.table e.hears (λ q. (refl, (refl, refl))),
      hears_use m c.sleep.new.seat.me c.self.inside.tail [] e.hears c.self.invariant.1,
    )

pub returns : goal.returns
returns g c =
    let k = c.sleep.new.seat.me in
    let e = c.sleep.ensures in
    let h = hears_call c.self.inside.seat.table_id c.sleep.new.seat.table_id c.self.inside.seat.me k [] e.table e.hears in
    subst (λ u. Sleeps c.sleep.result u (standing c.sleep.new.seat.table_id k.0)) c.self.view_is (h.0, h.1, e.quiet)

pub sleep-requires-clause-table : goal.sleep-requires-clause-table
sleep-requires-clause-table g c =
    let there : c.self.inside.seat.table_id ≡ c.args.words.now.table_id = ap (λ u. u.table) c.self.view_is ∙ c.requires in
    (there, subst (λ z. IsTable z) there c.self.invariant.0.table)

pub sleep-requires-clause-named : goal.sleep-requires-clause-named
sleep-requires-clause-named g c = c.self.invariant.0.holds.right.named
