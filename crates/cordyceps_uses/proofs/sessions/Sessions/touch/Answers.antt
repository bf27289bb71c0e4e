use Rattle.std.proofs.Common.{ap, subst, ◌∙◌}
use Rattle.cordyceps.specs.Orders.Preorder.{by_number_lawful}
use Rattle.cordyceps.specs.Spots.BySpot.{HoldsAt}
use Rattle.cordyceps.specs.Spots.MapLends.{with_value_at}
use Rattle.cordyceps.specs.Spots.Threads.{without}
use Rattle.cordyceps.proofs.Spots.ValueIndexes.{index_of_all, index_of_unlinked, index_of_written}
use Rattle.cordyceps_uses.specs.declared.sessions.Session.{Session}
use Rattle.cordyceps_uses.proofs.Indexed.{entered, same_value}
use Rattle.cordyceps_uses.proofs.sessions.Sessions.touch.Goals as goal

pub unlink-requires-clause-in_list : goal.unlink-requires-clause-in_list
unlink-requires-clause-in_list c = let m = c.self.inside.map in index_of_all 1 m c.in-Some.at c.in-Some.ensures.there c.self.invariant.by_use

pub unlink-requires-2-clause-in_list : goal.unlink-requires-2-clause-in_list
unlink-requires-2-clause-in_list c = let m = c.self.inside.map in rw (c.unlink.ensures.others.lists 2 (λ e. absurd cc)) (index_of_all 2 m c.in-Some.at c.in-Some.ensures.there c.self.invariant.by_deadline)

pub invariant_of-self : goal.invariant_of-self
invariant_of-self c =
    let m = c.self.inside.map in let u = c.unlink-2.new.self in let at = c.in-Some.at in let a = c.lists_agree.ensures in let b = c.lists_agree-2.ensures in let t = c.self.invariant in
    let s : Session = record { seen = c.args.now; deadline = c.args.deadline; peer = c.value_at_mut-session.result.now.peer } in
    let first = c.unlink.ensures in let second = c.unlink-2.ensures in let nodes = second.nodes ∙ first.nodes in let x = c.link_in_order.ensures in let y = c.link_in_order-2.ensures in
    entered (with_value_at u at s) c.link_in_order.new.self c.link_in_order-2.new.self at
    (index_of_written (by_number_lawful (λ s. s.seen)) 1 u at s b (index_of_unlinked (by_number_lawful (λ s. s.seen)) 1 m at u a nodes (second.others.lists 1 (λ e. absurd cc) ∙ first.list) t.by_use))
    (index_of_written (by_number_lawful (λ s. s.deadline)) 2 u at s b (index_of_unlinked (by_number_lawful (λ s. s.deadline)) 2 m at u a nodes (second.list ∙ ap (without at) (first.others.lists 2 (λ e. absurd cc))) t.by_deadline))
    x.nodes x.list x.others.lists y.nodes y.list y.others.lists

pub returns-clause-touched : goal.returns-clause-touched
returns-clause-touched c = λ _. rw (← c.self.view_is) (
    let nodes = c.unlink-2.ensures.nodes ∙ c.unlink.ensures.nodes in let held = c.value_at_mut-session.ensures.value in let now = c.value_at_mut-session.result.now in record {
      spot = c.in-Some.at;
      session = now;
      found = c.in-Some.ensures.found;
      held = (held.0, subst (λ z. HoldsAt z c.in-Some.at (held.0, now)) nodes held.1);
      written = c.link_in_order-2.ensures.nodes ∙ c.link_in_order.ensures.nodes ∙ same_value c.unlink-2.new.self c.self.inside.map c.in-Some.at (record { seen = c.args.now; deadline = c.args.deadline; peer = now.peer }) nodes;
    })
