use Rattle.std.proofs.Common.{refl}
use Rattle.cordyceps.proofs.Spots.ValueIndexes.{index_of_least, index_of_none}
use Rattle.cordyceps_uses.proofs.Indexed.{left, held_out}
use Rattle.cordyceps_uses.proofs.sessions.Sessions.evict.Goals as goal

pub returns-in_err-at : goal.returns-in_err-at
returns-in_err-at c = rw (← c.self.view_is, c.from_residual.ensures) (refl, index_of_none 1 c.self.inside.map c.in_err-at.ensures.first c.self.invariant.by_use)

pub invariant_of-self : goal.invariant_of-self
invariant_of-self c = left c.self.inside.map c.remove_at.new.self c.in_ok-at.at c.remove_at.result c.lists_agree.ensures c.remove_at.ensures.taken c.remove_at.ensures.lists c.self.invariant

pub returns : goal.returns
returns c =
    let m = c.self.inside.map in let taken = c.remove_at.ensures.taken in
    rw (← c.self.view_is) ((c.in_ok-at.at, taken), index_of_least (λ s. s.seen) 1 m c.in_ok-at.at c.remove_at.result.value c.lists_agree.ensures c.in_ok-at.ensures.first c.self.invariant.by_use (held_out m c.remove_at.new.self c.in_ok-at.at c.remove_at.result taken))
