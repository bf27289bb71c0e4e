use Rattle.std.proofs.Common.{rules, ◌∙◌, ap}
use Rattle.cordyceps_shared_uses.specs.Accounts.{merged}
use Rattle.cordyceps_shared_uses.proofs.Accounting.{merges, both_backed, at_rest}
use Rattle.cordyceps_shared_uses.proofs.scheduler.accounts.Accounts.merge.Goals as goal

pub join_seat-requires : goal.join_seat-requires
join_seat-requires c =
    let r = c.requires.rest in
    (search rules, search rules, search rules, search rules, merges _ _ _ _ _ r.0.other r.1.other r.0.backed r.1.backed)

pub returns-clause-rest : goal.returns-clause-rest
returns-clause-rest c =
    let r = c.requires.rest in
    let v = merged c.args.seat.now.me.0 c.args.other.me.0 in
    at_rest _ v.mine (c.join_seat.ensures.2 ∙ ap (λ l. (v, l)) r.0.slots) (both_backed _ _ r.0.backed r.1.backed)
