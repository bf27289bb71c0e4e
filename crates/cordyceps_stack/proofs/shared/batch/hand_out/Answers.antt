use Rattle.std.proofs.Common.{not, eqb, ◌≡◌, ◌+◌, ◌-◌, ◌∷◌, [], ◌++◌, map, suc, refl, sym, ap, ◌∙◌, subst, arith, rules, add-one}
use Rattle.cordyceps_shared.specs.FreeChains.{Tracks, MayJoin}
use Rattle.cordyceps_shared.specs.Slots.{Near}
use Rattle.cordyceps_stack.specs.Cores.Stages.{room_elements}
use Rattle.cordyceps_stack.specs.Shared.Plays.{to_hand_out}
use Rattle.cordyceps_stack.specs.Shared.Slots.{start, rooms_of, link_or, filled, vacant, in_use, all_vacant, last_link}
use Rattle.cordyceps_stack.specs.Shared.View.{held_rooms}
use Rattle.cordyceps_stack.proofs.SharedTheory.Batching.{filled_up, fills_none, fills_next}
use Rattle.cordyceps_stack.proofs.SharedTheory.PartsJoin.{hands_first, next_of, next_hand, hands_next, handed_out, handed_rooms, handed_back, tracks_back, first_or_none, first_low, tracks_linked, vacant_back, back_joins}
use Rattle.cordyceps_stack.proofs.SharedTheory.StepTells.{told}
use Rattle.cordyceps_stack.proofs.SharedTheory.StepsKeep.{returns}
use Rattle.cordyceps_stack.proofs.shared.batch.hand_out.Goals as goal

pub link_to_first-after-requires : goal.link_to_first-after-requires
link_to_first-after-requires g c some_of =
    let low = first_low c.args.words.now.table_id.slots c.args.free.now c.args.seat.now.me.0.free c.requires.tracks c.requires.taken.walks.near some_of in
    let many = c.requires.table.1.1 in
    omega arith

pub loop-at-init : goal.loop-at-init
loop-at-init g c =
    let h = hands_first _ c.args.at c.link_to_first-after.result 0 c.args.seat.now.me c.requires.taken in
    let o = not (eqb g.row.OLDEST_FIRST 0) in let f = g.T.Linked.element in let all = to_hand_out c.args.seat.now.me.0.doing in
    (refl, (h.0, ap (λ l. filled_up o c.new-batch.result (map f (room_elements l))) h.1 ∙ ap (λ b. filled_up o b (map f (room_elements all))) c.new-batch.ensures ∙ fills_none o (map f (room_elements all))))

pub empty-item-requires-clause-filled : goal.empty-item-requires-clause-filled
empty-item-requires-clause-filled g c =
    let h = c.loop-at.invariant.1.0 in
    let n = next_of c.loop-at.at c.link_to_first-after.result h.left h.at_is c.loop-at-test.true in
    let at = n.at_is in
    let here : n.here.0 ≡ c.loop-at.at - 1 = omega arith in
    let rest = in_use n.others ++ all_vacant (rooms_of h.done) (suc n.here.0) in
    (n.here.1, start n.others, rest, next_hand _ _ _ _ _ c.args.seat.now.me c.loop-at.seat.me h n ∙ ap (λ r. (r, filled n.here.1 (start n.others)) ∷ rest) here)

pub loop-at-preserved : goal.loop-at-preserved
loop-at-preserved g c =
    let i = c.loop-at.invariant in
    let h = i.1.0 in
    let after = c.link_to_first-after.result in
    let all = to_hand_out c.args.seat.now.me.0.doing in
    let m = c.args.seat.now.me in
    let w = c.loop-at.seat.me in
    let k = c.empty-item.new.seat.me in
    let n = next_of c.loop-at.at after h.left h.at_is c.loop-at-test.true in
    let at = n.at_is in
    let here : c.loop-at.at - 1 ≡ n.here.0 = omega arith in
    let rest = in_use n.others ++ all_vacant (rooms_of h.done) (suc n.here.0) in
    let slot = filled n.here.1 (start n.others) in
    let e = c.empty-item.ensures.emptied n.here.1 (start n.others) rest (next_hand _ _ _ _ _ m w h n ∙ ap (λ r. (r, slot) ∷ rest) (sym here)) in
    let t = hands_next c.loop-at.at after c.loop-at.last c.loop-at.count all m w k h n (e.1 ∙ ap (λ r. (w.0, rest ++ (r, vacant (link_or (start n.others) after)) ∷ [])) here)
    (c.loop-at.at - 1) (c.loop-at.count + 1) c.empty-item.result.1 here (add-one c.loop-at.count) (ap (λ r. r.1) e.0) in
    let item = ap (λ r. r.0) e.0 in
    let f = g.T.Linked.element in let o = not (eqb g.row.OLDEST_FIRST 0) in (
      search rules,
      (
        t.0,
        ap (λ l. filled_up o c.add.new.batch (map f (room_elements l))) t.1
            ∙ (ap (λ b. filled_up o b (map f (room_elements n.others))) c.add.ensures
            ∙ (fills_next o c.loop-at.batch (f c.empty-item.result.0) (map f (room_elements n.others))
            ∙ (ap (λ x. filled_up o c.loop-at.batch (f x ∷ map f (room_elements n.others))) item
            ∙ (ap (λ l. filled_up o c.loop-at.batch (map f (room_elements l))) (sym n.is) ∙ i.1.1)))),
      ),
    )

pub load-requires : goal.load-requires
load-requires g c =
    let taken = c.requires.taken in
    let m = c.args.seat.now.me in
    let w = c.loop-at.seat.me in
    let slots = c.args.words.now.table_id.slots in
    let all = to_hand_out m.0.doing in
    let after = c.link_to_first-after.result in
    let h = handed_out c.loop-at.at after c.loop-at.last c.loop-at.count all m w c.loop-at.invariant.1.0 c.loop-at-test.false in
    let rooms = sym (handed_rooms slots c.args.at after c.loop-at.last c.loop-at.count m w taken h) in (
      search rules,
      search rules,
      returns _ _ _ w (subst (λ l. w.1 ≡ all_vacant l (last_link w.1)) rooms (vacant_back (rooms_of all) after w.1 h.hand)) (subst (Near slots) rooms taken.walks.chain)
          (subst (λ v. MayJoin record { rooms = held_rooms w.0.doing; end = last_link w.1 } v.free) (sym h.view_is)
          (subst (λ l. MayJoin record { rooms = l; end = last_link w.1 } m.0.free) rooms (back_joins (rooms_of all) after w.1 m.0.free h.hand (first_or_none record c.args.free.now { first = after } m.0.free (tracks_linked after c.args.free.now m.0.free c.link_to_first-after.ensures c.requires.tracks))))),
    )

pub returns-clause-seat : goal.returns-clause-seat
returns-clause-seat g c =
    let m = c.args.seat.now.me in
    let w = c.loop-at.seat.me in
    let all = to_hand_out m.0.doing in
    let h = handed_out c.loop-at.at c.link_to_first-after.result c.loop-at.last c.loop-at.count all m w c.loop-at.invariant.1.0 c.loop-at-test.false in
    let l = told c.load.ensures in
    handed_back c.args.words.now.table_id.slots c.args.at c.link_to_first-after.result c.loop-at.last c.loop-at.count m w c.load.new.seat.me c.requires.taken h l.view_is l.hand

pub returns-clause-tracks : goal.returns-clause-tracks
returns-clause-tracks g c =
    let m = c.args.seat.now.me in
    let w = c.loop-at.seat.me in
    let k = c.load.new.seat.me in
    let free = c.args.free.now in
    let h = handed_out c.loop-at.at c.link_to_first-after.result c.loop-at.last c.loop-at.count (to_hand_out m.0.doing) m w c.loop-at.invariant.1.0 c.loop-at-test.false in
    let back = tracks_back c.args.words.now.table_id.slots c.args.at c.link_to_first-after.result c.loop-at.last c.loop-at.count m w k free c.requires.taken c.if-at-eq0.false h (told c.load.ensures).view_is c.requires.tracks in
    let front = c.put_in_front.ensures in
    let all = c.put_in_front.new.free in
    let same : record { first = c.args.at; last = all.last; count = free.count + c.loop-at.count } ≡ all = λ i. record { first = sym front.first i; last = all.last; count = sym front.count i } in
    subst (λ z. Tracks z k.0.free) same (back all.last front.alone front.last)
