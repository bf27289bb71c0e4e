use Rattle.std.proofs.Common.{OnOk, Some, sym, subst, nat_eq}
use Rattle.std.specs.HashMap.{get, Updates}
use Rattle.test_stable_lists.specs.Finding.{Finds}
use Rattle.test_stable_lists.proofs.Finding.{finds_put}
use Rattle.test_stable_lists.proofs.clock_calls.Timers.try_push.Goals as goal

pub invariant_of-self : goal.invariant_of-self
invariant_of-self g c =
    let spots = c.self.inside.spots in let after = c.insert.new.self in let number = c.id-number.result in let spot = c.in-Ok.spot in
    let updated = subst (λ r. OnOk r (Updates nat_eq spots after number (Some spot))) c.made.ensures c.insert.ensures.updates in
    let (put, clock, due) = c.in-Ok.ensures.pushed in
    finds_put (get nat_eq spots) (get nat_eq after) c.self.inside.queue.nodes c.try_push.new.self.nodes number spot c.args.node c.self.invariant (sym c.id-number.ensures) updated.0 put

pub invariant_of-self-in-Err : goal.invariant_of-self-in-Err
invariant_of-self-in-Err g c =
    let (back, same, why) = c.in-Err.ensures.pushed in
    subst (λ q. Finds (get nat_eq c.self.inside.spots) q.nodes) (sym same) c.self.invariant
