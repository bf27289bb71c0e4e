use Rattle.std.proofs.Common.{true, false, subst}
use Rattle.cordyceps_c_shared.specs.Inboxes.{GivesRooms}
use Rattle.cordyceps_c_shared.specs.declared.inbox.Inbox.{Inbox}
use Rattle.cordyceps_c.proofs.inbox.cordyceps_inbox_free.Goals as goal

pub returns-then-not-give_back : goal.returns-then-not-give_back
returns-then-not-give_back c =
    rw c.in-Some.ensures.taken
    (c.give_back.new.self, subst (λ (i : Inbox). GivesRooms false i c.give_back.new.self) c.deref_mut.ensures.value c.if-not-give_back.ensures, c.put.ensures)

pub returns : goal.returns
returns c =
    rw c.in-Some.ensures.taken
    (c.give_back.new.self, subst (λ (i : Inbox). GivesRooms true i c.give_back.new.self) c.deref_mut.ensures.value c.if-not-give_back.ensures, c.take.ensures.none)
