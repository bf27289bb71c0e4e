use Rattle.std.proofs.Common.{◌≡◌, List, [], map, Option, sym, subst, arith, rules}
use Rattle.std.proofs.lemmas.Grind.{common_steps}
use Rattle.std.proofs.lemmas.List.{nil_from_length}
use Rattle.std.specs.Prelude.{reverse}
use Rattle.cordyceps_base.specs.Element.{Element}
use Rattle.cordyceps_stack.specs.Shared.Calls.{Takes}
use Rattle.cordyceps_stack.specs.Shared.Inboxes.{InboxOf, IsFirstOut, ReceivesFrom}
use Rattle.cordyceps_stack.proofs.shared.inbox.Inbox.pop.Goals as goal

module _ {T H : Type 0} (element : H → Element T) where
  -- nothing was left, and the party took all that was shared
  received : (before after : InboxOf T H) (stack : List (Element T)) (batch : List H) (result : Option H) → before.taken ≡ [] → stack ≡ reverse (map element batch) → Takes batch before.party after.party
      → IsFirstOut element stack result after.taken → ReceivesFrom element before.taken before.party result after
  received before after stack batch result none same took first =
      subst (λ xs. ReceivesFrom element xs before.party result after) (sym none) (batch, took, subst (λ z. IsFirstOut element z result after.taken) same first)

pub returns-clause-popped : goal.returns-clause-popped
returns-clause-popped g c =
    let element = g.T.Linked.element in
    let (batch, same, took) = c.take_all_in_order.ensures in
    let none = nil_from_length c.self.inside.taken (first_of (search rules, grind (arith, common_steps))) in
    let after : InboxOf g.row.T.Denot g.row.T-Handle.Denot = record { taken = c.pop-2.new.self; party = c.take_all_in_order.new.party } in
    subst (λ before. ReceivesFrom element before.taken before.party c.pop-2.result after) c.self.view_is
    (received element (record { taken = c.self.inside.taken; party = c.self.inside.party }) after c.take_all_in_order.result batch c.pop-2.result none same took c.pop-2.ensures)
