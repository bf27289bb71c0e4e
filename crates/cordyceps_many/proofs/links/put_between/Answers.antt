use Rattle.std.proofs.Common.{◌++◌, ◌∙◌}
use Rattle.cordyceps_many.specs.Rows.{hook_at}
use Rattle.cordyceps_many.proofs.Between.{thread_between}
use Rattle.cordyceps_many.proofs.Reached.{reach_moved, solid, before_reached, after_reached}
use Rattle.cordyceps_many.proofs.Threads.{open_goes}
use Rattle.cordyceps_many.proofs.links.put_between.Goals as goal

pub followed_by-first-requires-clause-reaches : goal.followed_by-first-requires-clause-reaches
followed_by-first-requires-clause-reaches g c =
    let ns = c.args.row.now.boxes.blocks in let (s, t, w, d) = c.requires.around in let k = c.set_hook.ensures.rest in
    reach_moved c.args.prev.ptr ns c.set_hook.new.row.boxes.blocks k.addresses (before_reached ns c.requires.comparable c.args.i c.args.ends s t c.args.prev.ptr c.args.next.ptr (open_goes (hook_at ns c.args.i) c.args.ends (s ++ t) c.args.at.ptr w) d)

pub preceded_by-last-requires-clause-reaches : goal.preceded_by-last-requires-clause-reaches
preceded_by-last-requires-clause-reaches g c =
    let ns = c.args.row.now.boxes.blocks in let (s, t, w, d) = c.requires.around in let k = c.set_hook.ensures.rest in let l = c.followed_by-first.ensures.rest in
    reach_moved c.args.next.ptr ns c.followed_by-first.new.row.boxes.blocks (l.addresses ∙ k.addresses) (after_reached ns c.requires.comparable c.args.i c.args.ends s t c.args.prev.ptr c.args.next.ptr (open_goes (hook_at ns c.args.i) c.args.ends (s ++ t) c.args.at.ptr w) d)

pub returns-clause-thread : goal.returns-clause-thread
returns-clause-thread g c = λ s t w d.
    let ns = c.args.row.now.boxes.blocks in let i = c.args.i in
    thread_between (hook_at ns i) (hook_at c.set_hook.new.row.boxes.blocks i) (hook_at c.followed_by-first.new.row.boxes.blocks i) (hook_at c.preceded_by-last.new.row.boxes.blocks i) c.args.ends s t c.args.at c.args.prev c.args.next c.followed_by-first.result c.preceded_by-last.result w d
    (solid ns c.requires.comparable i c.args.ends (s ++ t) (open_goes (hook_at ns i) c.args.ends (s ++ t) c.args.at.ptr w)) c.set_hook.ensures.set c.followed_by-first.ensures.followed c.preceded_by-last.ensures.preceded
