use Rattle.std.proofs.Common.{[], ◌∷◌, ◌++◌, map, length, refl, sym, ap, ◌∙◌, length-append, arith}
use Rattle.std.proofs.lemmas.List.{append-nil}
use Rattle.cordyceps_queue.proofs.SharedTheory.CloseTakesAll.{TakesOut, takes_first, takes_front, nothing_left}
use Rattle.cordyceps_queue.proofs.SharedTheory.TriesInTurn.{given_more}
use Rattle.cordyceps_queue.proofs.shared.calls.MpscQueue.drain.Goals as goal

pub loop-handle-smaller : goal.loop-handle-smaller
loop-handle-smaller g c =
    let first = takes_first c.loop-handle.party c.try_dequeue.new.party c.in-Ok.handle c.loop-handle.invariant.share c.in-Ok.ensures.answer in
    let n = ap length first in omega arith

pub loop-handle-init : goal.loop-handle-init
loop-handle-init g c = record {
  taken = record { items = []; are = c.new-elements.ensures; run = refl };
  table = refl;
  share = c.requires.whole;
  rooms = omega (arith, ap length c.new-elements.ensures);
}

pub loop-handle-preserved : goal.loop-handle-preserved
loop-handle-preserved g c =
    let i = c.loop-handle.invariant in
    let d = c.in-Ok.ensures.answer in
    let element = g.T.Linked.element in
    let old = c.loop-handle.elements in
    let more = c.put_last.ensures in record {
      taken = given_more TakesOut element old _ c.args.party.now c.loop-handle.party c.try_dequeue.new.party c.in-Ok.handle i.taken more d;
      table = d.0.1 ∙ i.table;
      share = d.0.0.share ∙ i.share;
      rooms = omega (arith, d.1, i.rooms, ap length more, length-append old (element c.in-Ok.handle ∷ []));
    }

pub returns : goal.returns
returns g c =
    let i = c.loop-handle.invariant in
    let e = c.in_default.ensures in
    let none = nothing_left c.loop-handle.party c.try_dequeue.new.party c.in_default.field-0 i.share e.answer (e.whole i.share) in
    let all = takes_front c.args.party.now c.loop-handle.party i.taken.items c.requires.whole i.taken.run in
    i.taken.are ∙ ap (map g.T.Linked.element) (sym (all ∙ (ap (λ xs. i.taken.items ++ xs) none ∙ append-nil i.taken.items)))
