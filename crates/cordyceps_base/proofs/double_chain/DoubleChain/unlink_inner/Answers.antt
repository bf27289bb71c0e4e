use Rattle.std.proofs.Common.{◌≡◌, ◌+◌, ◌++◌, length, take, drop, slice_get, Some, length-append, length-drop, ap, ◌∙◌, subst, arith}
use Rattle.std.proofs.lemmas.List.{length-take}
use Rattle.cordyceps_base.specs.Nodes.{nodes_of}
use Rattle.cordyceps_base.proofs.Nodes.{at_place, length_is, length-nodes_of}
use Rattle.cordyceps_base.proofs.double_chain.DoubleChain.unlink_inner.Goals as goal

pub cut_out-node-requires-clause-inner : goal.cut_out-node-requires-clause-inner
cut_out-node-requires-clause-inner g c =
    let seen = length_is c.self.inside.boxes.blocks c.args.self.now c.self.view_is in let more = c.requires.inner.1 in
    (c.requires.inner.0, rw (c.replace-row.ensures.value) (omega (arith, seen, more)))

pub cut_out-node-requires-clause-on : goal.cut_out-node-requires-clause-on
cut_out-node-requires-clause-on g c = rw (c.replace-row.ensures.value) (at_place c.self.inside.boxes.blocks c.args.self.now c.self.view_is c.args.k c.args.at.ptr c.requires.on)

pub cut_out-node-requires-clause-linked : goal.cut_out-node-requires-clause-linked
cut_out-node-requires-clause-linked g c = (c.self.inside.head.ptr, c.self.inside.tail.ptr, rw (c.replace-row.ensures.value) c.self.invariant.segment)

pub invariant_of-self : goal.invariant_of-self
invariant_of-self g c =
    let i = c.self.inside in let k = c.args.k in let row = c.replace-row.result.blocks in let v = nodes_of row in let long = c.self.invariant.long in let more = c.requires.inner.1 in
    let seen = length_is i.boxes.blocks c.args.self.now c.self.view_is in let left = c.cut_out-node.result.1.blocks in
    let count = ap length c.cut_out-node.ensures.others ∙ length-append (take k v) (drop (k + 1) v) in
    rw (c.replace-empty.ensures.after, c.null_comparable.ensures.0) (record {
      long = omega (arith, long, more, seen, count, length-take k v, length-drop (k + 1) v, ap (λ b. length b.blocks) c.replace-row.ensures.value, length-nodes_of row, length-nodes_of left);
      comparable = c.null_comparable.ensures.1;
      segment = c.cut_out-node.ensures.linked i.head.ptr i.tail.ptr (rw (c.replace-row.ensures.value) c.self.invariant.segment);
    })

pub returns-clause-node : goal.returns-clause-node
returns-clause-node g c =
    let seen = ap (λ b. nodes_of b.blocks) c.replace-row.ensures.value ∙ c.self.view_is in
    subst (λ v. slice_get v c.args.k ≡ Some (c.args.at.ptr, c.cut_out-node.result.0)) seen c.cut_out-node.ensures.node

pub returns-clause-others : goal.returns-clause-others
returns-clause-others g c =
    let k = c.args.k in let seen = ap (λ b. nodes_of b.blocks) c.replace-row.ensures.value ∙ c.self.view_is in
    ap (λ b. nodes_of b.blocks) c.replace-empty.ensures.after ∙ ap nodes_of c.null_comparable.ensures.0 ∙ c.cut_out-node.ensures.others ∙ ap (λ v. take k v ++ drop (k + 1) v) seen
