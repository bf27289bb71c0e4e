use Rattle.std.proofs.Common.{ℕ, [], ◌++◌, List, map, ap, sym, ◌∙◌, subst}
use Rattle.std.proofs.lemmas.List.{map-id}
use Rattle.std.specs.Prelude.{IfSome}
use Rattle.cordyceps.specs.Elements.Element.{Element}
use Rattle.cordyceps.specs.Parties.Histories.{plain}
use Rattle.cordyceps.specs.Parties.Sending.{Delivers}
use Rattle.cordyceps.specs.Parties.Shares.{IsShare}
use Rattle.cordyceps.specs.Parties.Standings.{Standing}
use Rattle.cordyceps.proofs.Parties.Ordering.{whole_share}
use Rattle.cordyceps.specs.Queues.History.{held}
use Rattle.cordyceps.specs.Queues.Moves.{Moves}
use Rattle.cordyceps.proofs.Queues.Sending.{delivered}
use Rattle.cordyceps_shared_uses.specs.declared.mailbox.Message.{Message}
use Rattle.cordyceps_shared_uses.specs.Mailbox.{contents, value_of}
use Rattle.cordyceps_shared_uses.proofs.Apart.{apart, gave_new}
use Rattle.cordyceps_shared_uses.proofs.mailbox.deliver.Goals as goal

pub exchange-requires-clause-receiver : goal.exchange-requires-clause-receiver
exchange-requires-clause-receiver g c κs within =
    let new = gave_new c.in_ok-queue.queue.table c.args.rooms c.args.rooms c.give_back.result c.in_ok-queue.receiver c.give_back.new.party c.in_ok-queue.ensures.1 c.give_back.ensures.answer in
    let share = subst (λ (z : Standing _). IsShare z.share) (sym new.1) whole_share in
    let both = apart 0 c.give_back.new.party c.split-sender.new.party c.split-sender.result share c.split-sender.ensures in
    let table = ap (λ (z : Standing _). z.table) new.1 in
    both.kept_table ∙ table

pub exchange-requires-clause-sender : goal.exchange-requires-clause-sender
exchange-requires-clause-sender g c κs within =
    let new = gave_new c.in_ok-queue.queue.table c.args.rooms c.args.rooms c.give_back.result c.in_ok-queue.receiver c.give_back.new.party c.in_ok-queue.ensures.1 c.give_back.ensures.answer in
    let share = subst (λ (z : Standing _). IsShare z.share) (sym new.1) whole_share in
    let both = apart 0 c.give_back.new.party c.split-sender.new.party c.split-sender.result share c.split-sender.ensures in
    let table = ap (λ (z : Standing _). z.table) new.1 in
    (both.given_table ∙ table, both.given_share)

pub returns : goal.returns
returns g c =
    let new = gave_new c.in_ok-queue.queue.table c.args.rooms c.args.rooms c.give_back.result c.in_ok-queue.receiver c.give_back.new.party c.in_ok-queue.ensures.1 c.give_back.ensures.answer in
    let (table, share, delivers) = delivered value_of new.1 c.split-sender.ensures
    (subst (λ o. IfSome o (λ z. Moves value_of [] z.items c.split-sender.new.party c.in_ok-both.both.0.party)) c.in-Some.is c.in_ok-both.ensures.received) c.in_ok-both.ensures.sent
    c.absorb.ensures in
    record {
      delivers = subst (λ (z : List ℕ). Delivers (contents c.args.lists.now) z)
          (sym (◌∙◌ {A = List ℕ} c.in_ok-note_all.ensures (ap (λ (z : List (Element Message)). c.in-Some.messages.items ++ map value_of z)
          (◌∙◌ {A = List (Element Message)} c.close.ensures.elements (map-id (held (plain c.absorb.new.party.seen)))))))
          delivers;
    }
