use Rattle.std.proofs.Common.{ℕ, ◌+◌, ◌^◌, ◌<◌, ◌≤◌, length, sym, subst, arith}
use Rattle.cordyceps_base.specs.Nodes.{Nodes}
use Rattle.cordyceps_tree.specs.Bounds.{IsPutWhere, SaysAfterEquals}
use Rattle.cordyceps_tree.specs.Heights.{IsAtMostLog}
use Rattle.cordyceps_tree.specs.Rows.{hook_at, nodes_of}
use Rattle.cordyceps_tree.specs.Trees.{height_at}
use Rattle.cordyceps_tree.proofs.Saying.{put_said, put_whole, root_log}
use Rattle.cordyceps_tree.proofs.rooted.Rooted.put.Goals as goal

pub invariant_of-self : goal.invariant_of-self
invariant_of-self g c =
    let (e, alone) = c.requires.alone in let place = c.place_of-place.ensures.place in
    put_whole (SaysAfterEquals (g.O.Order.compares_by c.args.order.now) c.value-value.result.now) c.self.inside.row.boxes.blocks c.put_in-self-inside.new.row.boxes.blocks c.self.inside.root.ptr c.put_in-self-inside.result.ptr c.self.inside.first c.args.one.at c.chosen-self-inside.result c.self.inside.len c.place_of-place.result e
    c.self.invariant place c.put_in-self-inside.ensures.tree (c.put_in-self-inside.ensures.nodes e place.gap alone) c.chosen-self-inside.ensures

pub returns-clause-put : goal.returns-clause-put
returns-clause-put g c = λ e alone.
    let place = c.place_of-place.ensures.place in let says = SaysAfterEquals (g.O.Order.compares_by c.args.order.now) in let ns = c.self.inside.row.boxes.blocks in let ms = c.put_in-self-inside.new.row.boxes.blocks in let at = c.args.one.at.ptr in
    let said = put_said (says c.value-value.result.now) ns c.self.inside.root.ptr c.place_of-place.result c.self.invariant.tree place at e (nodes_of ms) (c.put_in-self-inside.ensures.nodes e place.gap alone) in
    subst (λ (n : Nodes g.row.T.Denot). IsPutWhere (says e.value) n at e (nodes_of ms)) c.self.view_is (subst (λ v. IsPutWhere (says v) (nodes_of ns) at e (nodes_of ms)) (c.value-value.ensures e alone) said)

pub returns-clause-few : goal.returns-clause-few
returns-clause-few g c = λ k.
    let fits = c.requires.fits in
    subst (λ (n : Nodes g.row.T.Denot). (h : ℕ) × (g.C.Counter.counted c.place_of-place.new.steps ≤ g.C.Counter.counted c.args.steps.now + h) × IsAtMostLog h (length n)) c.self.view_is
    (height_at (hook_at c.self.inside.row.boxes.blocks) c.self.inside.root.ptr, c.place_of-place.ensures.few k, root_log c.self.inside.root.ptr c.self.inside.row.boxes.blocks c.self.invariant.tree (subst (λ (n : Nodes g.row.T.Denot). length n < 2 ^ 64) (sym c.self.view_is) (omega (arith, fits))))
