use Rattle.std.proofs.Common.{◌+◌, [], ◌∷◌, ◌++◌, sym, subst}
use Rattle.cordyceps_many.specs.Rows.{hook_at}
use Rattle.cordyceps_many.specs.Threads.{IsThread, IsOpen}
use Rattle.cordyceps_many.proofs.Reached.{reach_moved, solid, last_reached}
use Rattle.cordyceps_many.proofs.Threads.{open_goes, thread_last}
use Rattle.cordyceps_many.proofs.links.put_last.Goals as goal

pub followed_by-first-requires-clause-reaches : goal.followed_by-first-requires-clause-reaches
followed_by-first-requires-clause-reaches g c =
    let ns = c.args.row.now.boxes.blocks in let i = c.args.i in let e = c.args.ends in let (s, w) = c.requires.around in let k = c.set_hook.ensures.rest in
    reach_moved e.last.ptr ns c.set_hook.new.row.boxes.blocks k.addresses (last_reached ns c.requires.comparable i e s (open_goes (hook_at ns i) e s c.args.at w))

pub returns-clause-thread : goal.returns-clause-thread
returns-clause-thread g c = λ s w.
    let ns = c.args.row.now.boxes.blocks in let i = c.args.i in let p = c.address_of-at.result in let is = c.address_of-at.ensures in let f = hook_at c.followed_by-first.new.row.boxes.blocks i in
    subst (λ q. IsThread f (record { first = c.followed_by-first.result; last = p; len = c.args.ends.len + 1 }) (s ++ q ∷ [])) is
    (thread_last (hook_at ns i) (hook_at c.set_hook.new.row.boxes.blocks i) f c.args.ends s p c.null.result c.followed_by-first.result (subst (IsOpen (hook_at ns i) c.args.ends s) (sym is) w) (solid ns c.requires.comparable i c.args.ends s (open_goes (hook_at ns i) c.args.ends s c.args.at w)) c.null.ensures c.set_hook.ensures.set c.followed_by-first.ensures.followed)
