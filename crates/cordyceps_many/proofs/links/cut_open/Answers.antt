use Rattle.std.proofs.Common.{◌≡◌, ◌-◌, true, sym, subst}
use Rattle.cordyceps_many.specs.Rows.{hook_at, Reaches}
use Rattle.cordyceps_many.specs.Threads.{is_in, without, IsOpen, IsFollowedBy, IsPrecededBy}
use Rattle.cordyceps_many.proofs.Reached.{reach_moved, all_in, solid, prev_reached, next_reached}
use Rattle.cordyceps_many.proofs.Threads as threads
use Rattle.cordyceps_many.proofs.Threads.{thread_goes}
use Rattle.cordyceps_many.proofs.links.cut_open.Goals as goal

pub hook_of-requires-clause-there : goal.hook_of-requires-clause-there
hook_of-requires-clause-there g c =
    let ns = c.args.row.now.boxes.blocks in let i = c.args.i in let e = c.args.ends in let (s, w, has) = c.requires.thread in
    all_in ns c.requires.comparable i e s (thread_goes (hook_at ns i) e s w) c.address_of-at.result.ptr (subst (λ z. is_in z s ≡ true) (sym c.address_of-at.ensures) has)

pub followed_by-first-requires-clause-reaches : goal.followed_by-first-requires-clause-reaches
followed_by-first-requires-clause-reaches g c =
    let ns = c.args.row.now.boxes.blocks in let i = c.args.i in let e = c.args.ends in let p = c.address_of-at.result.ptr in let (s, w, has) = c.requires.thread in
    let there = subst (λ z. is_in z s ≡ true) (sym c.address_of-at.ensures) has in
    subst (λ h. Reaches h.prev.ptr ns) (sym c.hook_of.ensures) (prev_reached ns c.requires.comparable i e s (thread_goes (hook_at ns i) e s w) p there)

pub preceded_by-last-requires-clause-reaches : goal.preceded_by-last-requires-clause-reaches
preceded_by-last-requires-clause-reaches g c =
    let ns = c.args.row.now.boxes.blocks in let i = c.args.i in let e = c.args.ends in let p = c.address_of-at.result.ptr in let (s, w, has) = c.requires.thread in let l = c.followed_by-first.ensures.rest in
    let there = subst (λ z. is_in z s ≡ true) (sym c.address_of-at.ensures) has in
    reach_moved c.hook_of.result.next.ptr ns c.followed_by-first.new.row.boxes.blocks l.addresses (subst (λ h. Reaches h.next.ptr ns) (sym c.hook_of.ensures) (next_reached ns c.requires.comparable i e s (thread_goes (hook_at ns i) e s w) p there))

pub returns-clause-around : goal.returns-clause-around
returns-clause-around g c = λ s w has.
    let ns = c.args.row.now.boxes.blocks in let i = c.args.i in let a = c.address_of-at.result.ptr in let e = c.args.ends in
    let there = subst (λ z. is_in z s ≡ true) (sym c.address_of-at.ensures) has in
    let f0 = hook_at ns i in let f2 = hook_at c.followed_by-first.new.row.boxes.blocks i in let f3 = hook_at c.preceded_by-last.new.row.boxes.blocks i in
    subst (λ q. IsOpen f3 (record { first = c.followed_by-first.result; last = c.preceded_by-last.result; len = e.len - 1 }) (without q s) q) c.address_of-at.ensures
    (threads.cut_open f0 f2 f3 e s a c.followed_by-first.result c.preceded_by-last.result w there (solid ns c.requires.comparable i e s (thread_goes (hook_at ns i) e s w))
    (subst (λ h. IsFollowedBy f0 h.prev.ptr h.next e.first.ptr f2 c.followed_by-first.result.ptr) c.hook_of.ensures c.followed_by-first.ensures.followed)
    (subst (λ h. IsPrecededBy f2 h.next.ptr h.prev e.last.ptr f3 c.preceded_by-last.result.ptr) c.hook_of.ensures c.preceded_by-last.ensures.preceded))
