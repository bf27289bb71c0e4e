use Rattle.std.proofs.Common.{true, false, subst}
use Rattle.cordyceps_c_shared.specs.Piles.{GivesRooms}
use Rattle.cordyceps_c_shared.specs.declared.pile.Pile.{Pile}
use Rattle.cordyceps_c.proofs.pile.cordyceps_pile_free.Goals as goal

pub returns-then-not-give_back : goal.returns-then-not-give_back
returns-then-not-give_back c =
    rw c.in-Some.ensures.taken
    (c.give_back.new.self, subst (λ (i : Pile). GivesRooms false i c.give_back.new.self) c.deref_mut.ensures.value c.if-not-give_back.ensures, c.put.ensures)

pub returns : goal.returns
returns c =
    rw c.in-Some.ensures.taken
    (c.give_back.new.self, subst (λ (i : Pile). GivesRooms true i c.give_back.new.self) c.deref_mut.ensures.value c.if-not-give_back.ensures, c.take.ensures.none)
