use Rattle.std.proofs.Common.{◌≡◌, ◌+◌, suc, sym, subst, rules, arith}
use Rattle.cordyceps_shared.specs.FreeChains.{Tracks}
use Rattle.cordyceps_shared.specs.declared.free.FreeRooms.{FreeRooms}
use Rattle.cordyceps_stack.specs.Shared.Slots.{all_vacant}
use Rattle.cordyceps_stack.proofs.SharedTheory.PartsJoin.{first_low, tracks_linked}
use Rattle.cordyceps_stack.proofs.SharedTheory.PoolJoins.{last_first, filled, filled_hand, filled_near, filled_joins, refilled, tracks_refilled, few_refilled}
use Rattle.cordyceps_stack.proofs.SharedTheory.StepTells.{told}
use Rattle.cordyceps_stack.proofs.SharedTheory.StepsKeep.{returns}
use Rattle.cordyceps_stack.proofs.shared.pool.refill.Goals as goal

pub link_to_first-requires : goal.link_to_first-requires
link_to_first-requires g c some_of =
    let low = first_low c.args.words.now.table_id.slots c.args.free.now c.args.seat.now.me.0.free c.requires.tracks c.requires.rest.near some_of in
    let many = c.requires.table.1.1 in
    omega arith

pub lead-requires-clause-vacant : goal.lead-requires-clause-vacant
lead-requires-clause-vacant g c =
    let h = c.take-found.ensures.finds.some_of c.if-found-eq0.false in
    let u = c.unpack-taken.ensures in
    (h.end, all_vacant h.before (suc h.last), last_first _ _ c.unpack-taken.result c.args.seat.now.me c.take-found.new.seat.me h u.0 u.1 c.requires.rest.empty)

pub load-requires : goal.load-requires
load-requires g c =
    let d = c.take-found.ensures.finds in
    let h = d.some_of c.if-found-eq0.false in
    let u = c.unpack-taken.ensures in
    let m = c.args.seat.now.me in
    let p = c.take-found.new.seat.me in
    let l = c.lead.new.seat.me in
    let t = c.turn.new.self.me in
    let slots = c.args.words.now.table_id.slots in
    let free : FreeRooms = record c.args.free.now { first = c.link_to_first.result } in
    let taken = c.unpack-taken.result in
    let led = c.lead.ensures.leads h.end (all_vacant h.before (suc h.last)) (last_first slots c.take-found.result taken m p h u.0 u.1 c.requires.rest.empty) in
    let f = filled slots c.take-found.result free.first taken m p l t d h u.0 u.1 led (told c.turn.ensures) in (
      search rules,
      search rules,
      returns _ _ _ t (filled_hand slots free.first taken m t f) (filled_near slots free.first taken m t f) (filled_joins slots free taken m t f (tracks_linked free.first c.args.free.now m.0.free c.link_to_first.ensures c.requires.tracks)),
    )

pub put_in_front-requires : goal.put_in_front-requires
put_in_front-requires g c =
    let d = c.take-found.ensures.finds in
    let h = d.some_of c.if-found-eq0.false in
    let u = c.unpack-taken.ensures in
    let m = c.args.seat.now.me in
    let p = c.take-found.new.seat.me in
    let slots = c.args.words.now.table_id.slots in
    let free : FreeRooms = record c.args.free.now { first = c.link_to_first.result } in
    let taken = c.unpack-taken.result in
    let led = c.lead.ensures.leads h.end (all_vacant h.before (suc h.last)) (last_first slots c.take-found.result taken m p h u.0 u.1 c.requires.rest.empty) in
    let f = filled slots c.take-found.result free.first taken m p c.lead.new.seat.me c.turn.new.self.me d h u.0 u.1 led (told c.turn.ensures) in
    let b = told c.load.ensures in
    let few = few_refilled slots free taken m c.turn.new.self.me c.load.new.seat.me f b.view_is (tracks_linked free.first c.args.free.now m.0.free c.link_to_first.ensures c.requires.tracks) b.few in
    let many = c.requires.table.1.1 in
    omega arith

pub returns-clause-refills : goal.returns-clause-refills
returns-clause-refills g c =
    let d = c.take-found.ensures.finds in
    let h = d.some_of c.if-found-eq0.false in
    let u = c.unpack-taken.ensures in
    let m = c.args.seat.now.me in
    let p = c.take-found.new.seat.me in
    let slots = c.args.words.now.table_id.slots in
    let taken = c.unpack-taken.result in
    let led = c.lead.ensures.leads h.end (all_vacant h.before (suc h.last)) (last_first slots c.take-found.result taken m p h u.0 u.1 c.requires.rest.empty) in
    let b = told c.load.ensures in
    refilled slots c.take-found.result c.link_to_first.result taken m p c.lead.new.seat.me c.turn.new.self.me c.load.new.seat.me c.requires.rest d h u.0 u.1 led (told c.turn.ensures) b.view_is b.hand

pub returns-clause-tracks : goal.returns-clause-tracks
returns-clause-tracks g c =
    let d = c.take-found.ensures.finds in
    let h = d.some_of c.if-found-eq0.false in
    let u = c.unpack-taken.ensures in
    let m = c.args.seat.now.me in
    let p = c.take-found.new.seat.me in
    let k = c.load.new.seat.me in
    let slots = c.args.words.now.table_id.slots in
    let free : FreeRooms = record c.args.free.now { first = c.link_to_first.result } in
    let taken = c.unpack-taken.result in
    let led = c.lead.ensures.leads h.end (all_vacant h.before (suc h.last)) (last_first slots c.take-found.result taken m p h u.0 u.1 c.requires.rest.empty) in
    let f = filled slots c.take-found.result free.first taken m p c.lead.new.seat.me c.turn.new.self.me d h u.0 u.1 led (told c.turn.ensures) in
    let all = tracks_refilled slots free taken m c.turn.new.self.me k f (told c.load.ensures).view_is (tracks_linked free.first c.args.free.now m.0.free c.link_to_first.ensures c.requires.tracks) in
    let front = c.put_in_front.ensures in
    let new = c.put_in_front.new.free in
    let same : record { first = taken.first; last = new.last; count = free.count + taken.count } ≡ new = λ i. record { first = sym front.first i; last = new.last; count = sym front.count i } in
    subst (λ z. Tracks z k.0.free) same (all new.last front.alone (λ some. front.last (omega (arith, some))))
