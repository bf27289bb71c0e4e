use Rattle.std.proofs.Common.{OnOk, Some, sym, subst, nat_eq}
use Rattle.std.specs.HashMap.{get, Updates}
use Rattle.test_stable_lists.proofs.Finding.{finds_put}
use Rattle.test_stable_lists.proofs.clock_calls.Timers.push.Goals as goal

pub invariant_of-self : goal.invariant_of-self
invariant_of-self g c =
    let spots = c.self.inside.spots in let after = c.insert.new.self in let number = c.id-number.result in let spot = c.push-spot.result in
    let updated = subst (λ r. OnOk r (Updates nat_eq spots after number (Some spot))) c.made.ensures c.insert.ensures.updates in
    finds_put (get nat_eq spots) (get nat_eq after) c.self.inside.queue.nodes c.push-spot.new.self.nodes number spot c.args.node c.self.invariant (sym c.id-number.ensures) updated.0 c.push-spot.ensures.others
