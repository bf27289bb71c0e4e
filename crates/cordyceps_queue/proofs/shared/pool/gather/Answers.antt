use Rattle.std.proofs.Common.{length, refl, sym, subst, rules}
use Rattle.cordyceps_shared.specs.Places.{ItemAt}
use Rattle.cordyceps_shared.proofs.Places.{at_end}
use Rattle.cordyceps_queue.proofs.SharedTheory.PoolJoins.{near_back}
use Rattle.cordyceps_queue.proofs.SharedTheory.PoolKeeps.{gathers}
use Rattle.cordyceps_queue.proofs.SharedTheory.StepTells.{told}
use Rattle.cordyceps_queue.proofs.shared.pool.gather.Goals as goal

pub overflow_add-last : goal.overflow_add-last
overflow_add-last g c =
    let l = c.requires.last in
    let low = near_back _ _ c.requires.hand (length l.0) c.args.last (subst (λ z. ItemAt z (length l.0) c.args.last) (sym l.1) (at_end l.0 c.args.last)) in
    let t = c.requires.table in
    search rules

pub load-requires : goal.load-requires
load-requires g c =
    let r = c.requires.hand in
    let l = c.requires.last in
    let low = near_back _ _ r (length l.0) c.args.last (subst (λ z. ItemAt z (length l.0) c.args.last) (sym l.1) (at_end l.0 c.args.last)) in
    let t = c.requires.table in
    (search rules, search rules, gathers _ _ _ _ r.carries (near_back _ _ r) r.named r.joins)

pub returns-clause-gathered : goal.returns-clause-gathered
returns-clause-gathered g c =
    let l = c.requires.last in
    let t = (told c.load.ensures) l.0 c.args.last l.1 refl in
    λ i. (t.view_is i, t.hand i)

pub returns-clause-end : goal.returns-clause-end
returns-clause-end g c =
    let l = c.requires.last in
    let t = (told c.load.ensures) l.0 c.args.last l.1 refl in
    (c.free_link.ensures c.args.seat.now.me.0.to t.link.to t.link.bit t.link.is).0
