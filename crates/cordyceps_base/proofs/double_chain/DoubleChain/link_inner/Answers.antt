use Rattle.std.proofs.Common.{◌∷◌, ◌++◌, length, take, drop, length-append, length-drop, ap, ◌∙◌, arith}
use Rattle.std.proofs.lemmas.List.{length-take}
use Rattle.cordyceps_base.specs.Nodes.{nodes_of}
use Rattle.cordyceps_base.proofs.Nodes.{at_place, length-nodes_of}
use Rattle.cordyceps_base.proofs.double_chain.DoubleChain.link_inner.Goals as goal

pub put_in-requires-clause-on : goal.put_in-requires-clause-on
put_in-requires-clause-on g c = rw (c.replace-row.ensures.value) (at_place c.self.inside.boxes.blocks c.args.self.now c.self.view_is c.args.k c.args.at.ptr c.requires.on)

pub put_in-requires-clause-linked : goal.put_in-requires-clause-linked
put_in-requires-clause-linked g c = (c.self.inside.head.ptr, c.self.inside.tail.ptr, rw (c.replace-row.ensures.value) c.self.invariant.segment)

pub invariant_of-self : goal.invariant_of-self
invariant_of-self g c =
    let i = c.self.inside in let k = c.args.k in let row = c.replace-row.result.blocks in let v = nodes_of row in let long = c.self.invariant.long in
    let (address, holds) = c.put_in.ensures.holds in
    let count = ap length holds ∙ length-append (take k v) ((address, c.args.node) ∷ drop k v) in
    rw (c.replace-empty.ensures.after, c.null_comparable-whole.ensures.0) (record {
      long = omega (arith, long, count, length-take k v, length-drop k v, ap (λ b. length b.blocks) c.replace-row.ensures.value, length-nodes_of row, length-nodes_of c.put_in.result.blocks);
      comparable = c.null_comparable-whole.ensures.1;
      segment = c.put_in.ensures.linked i.head.ptr i.tail.ptr (rw (c.replace-row.ensures.value) c.self.invariant.segment);
    })

pub returns : goal.returns
returns g c =
    let k = c.args.k in let (address, holds) = c.put_in.ensures.holds in
    let seen = ap (λ b. nodes_of b.blocks) c.replace-row.ensures.value ∙ c.self.view_is in
    (address, ap (λ b. nodes_of b.blocks) c.replace-empty.ensures.after ∙ ap nodes_of c.null_comparable-whole.ensures.0 ∙ holds ∙ ap (λ v. take k v ++ (address, c.args.node) ∷ drop k v) seen)
