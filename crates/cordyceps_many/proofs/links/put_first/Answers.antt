use Rattle.std.proofs.Common.{◌+◌, ◌∷◌, sym, subst}
use Rattle.cordyceps_many.specs.Rows.{hook_at}
use Rattle.cordyceps_many.specs.Threads.{IsThread, IsOpen}
use Rattle.cordyceps_many.proofs.Reached.{reach_moved, solid, first_reached}
use Rattle.cordyceps_many.proofs.Threads.{open_goes, thread_first}
use Rattle.cordyceps_many.proofs.links.put_first.Goals as goal

pub preceded_by-last-requires-clause-reaches : goal.preceded_by-last-requires-clause-reaches
preceded_by-last-requires-clause-reaches g c =
    let ns = c.args.row.now.boxes.blocks in let i = c.args.i in let e = c.args.ends in let (s, w) = c.requires.around in let k = c.set_hook.ensures.rest in
    reach_moved e.first.ptr ns c.set_hook.new.row.boxes.blocks k.addresses (first_reached ns c.requires.comparable i e s (open_goes (hook_at ns i) e s c.args.at w))

pub returns-clause-thread : goal.returns-clause-thread
returns-clause-thread g c = λ s w.
    let ns = c.args.row.now.boxes.blocks in let i = c.args.i in let p = c.address_of-at.result in let is = c.address_of-at.ensures in let f = hook_at c.preceded_by-last.new.row.boxes.blocks i in
    subst (λ q. IsThread f (record { first = p; last = c.preceded_by-last.result; len = c.args.ends.len + 1 }) (q ∷ s)) is
    (thread_first (hook_at ns i) (hook_at c.set_hook.new.row.boxes.blocks i) f c.args.ends s p c.null.result c.preceded_by-last.result (subst (IsOpen (hook_at ns i) c.args.ends s) (sym is) w) (solid ns c.requires.comparable i c.args.ends s (open_goes (hook_at ns i) c.args.ends s c.args.at w)) c.null.ensures c.set_hook.ensures.set c.preceded_by-last.ensures.preceded)
