use Rattle.std.proofs.Common.{◌≡◌, true, refl, sym, subst}
use Rattle.cordyceps_base.specs.Boxes.{box_addresses}
use Rattle.cordyceps_many.specs.Rows.{hook_at}
use Rattle.cordyceps_many.specs.Threads.{is_in, without, unmarked, Wrote}
use Rattle.cordyceps_many.proofs.HookRows.{keeps_both}
use Rattle.cordyceps_many.proofs.Reached.{all_in}
use Rattle.cordyceps_many.proofs.Threads.{thread_goes, closed}
use Rattle.cordyceps_many.proofs.links.cut_out.Goals as goal

pub unmark-requires-clause-there : goal.unmark-requires-clause-there
unmark-requires-clause-there g c =
    let ns = c.args.row.now.boxes.blocks in let i = c.args.i in let e = c.args.ends in let (s, w, has) = c.requires.thread in
    let here = all_in ns c.requires.comparable i e s (thread_goes (hook_at ns i) e s w) c.args.at has in
    subst (λ q. is_in q (box_addresses c.cut_open-ends.new.row.boxes.blocks) ≡ true) (sym c.address_of.ensures) (subst (λ a. is_in c.args.at a ≡ true) (sym c.cut_open-ends.ensures.rest.addresses) here)

pub returns-clause-thread : goal.returns-clause-thread
returns-clause-thread g c = λ s w has.
    let i = c.args.i in let r = c.cut_open-ends in let f = hook_at r.new.row.boxes.blocks i in let h = hook_at c.unmark.new.row.boxes.blocks i in
    closed f h r.result (without c.args.at s) c.args.at (unmarked (f c.args.at)) (r.ensures.around s w has) (subst (λ q. Wrote f q (unmarked (f q)) h) c.address_of.ensures c.unmark.ensures.set) refl

pub returns-clause-rest : goal.returns-clause-rest
returns-clause-rest g c = keeps_both c.args.i c.args.row.now.boxes.blocks c.cut_open-ends.new.row.boxes.blocks c.unmark.new.row.boxes.blocks c.cut_open-ends.ensures.rest c.unmark.ensures.rest
