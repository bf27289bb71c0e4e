use Rattle.std.proofs.Common.{◌-◌, ap, ◌∙◌, sym, subst, refl, arith}
use denote.RawPtr.{null_ptr}
use Rattle.cordyceps_base.specs.Boxes.{box_addresses}
use Rattle.cordyceps_base.specs.DoubleChain.{Segment}
use Rattle.cordyceps_base.specs.Nodes.{nodes_of, block_of}
use Rattle.cordyceps_base.specs.Spots.{AreNullComparable}
use Rattle.cordyceps_base.proofs.DoubleChain.{segment_join}
use Rattle.cordyceps_base.proofs.Nodes.{length-nodes_of, length_is}
use Rattle.cordyceps_base.proofs.Segments.{cut, one_is, front_linked, rest_linked, front_comparable, rest_comparable, some, left_length, taken_is, left_is}
use Rattle.cordyceps_base.proofs.double_chain.DoubleChain.separate.Goals as goal

pub get-requires : goal.get-requires
get-requires g c =
    let u = cut c.self.view_is c.requires c.self.invariant c.cut_at-front.ensures in
    u.there

pub get-requires-2 : goal.get-requires-2
get-requires-2 g c =
    let u = cut c.self.view_is c.requires c.self.invariant c.cut_at-front.ensures in
    u.there

pub followed_by-front-requires-clause-linked : goal.followed_by-front-requires-clause-linked
followed_by-front-requires-clause-linked g c =
    let u = cut c.self.view_is c.requires c.self.invariant c.cut_at-front.ensures in
    front_linked u c.get-2.result.now c.get-2.ensures

pub followed_by-front-requires-clause-null_comparable : goal.followed_by-front-requires-clause-null_comparable
followed_by-front-requires-clause-null_comparable g c =
    let u = cut c.self.view_is c.requires c.self.invariant c.cut_at-front.ensures in
    front_comparable u c.self.invariant.comparable

pub preceded_by-rest-requires-clause-linked : goal.preceded_by-rest-requires-clause-linked
preceded_by-rest-requires-clause-linked g c =
    let u = cut c.self.view_is c.requires c.self.invariant c.cut_at-front.ensures in
    rest_linked u c.get.result.now c.cut-one.result.1.blocks c.get.ensures c.cut-one.ensures.1

pub preceded_by-rest-requires-clause-null_comparable : goal.preceded_by-rest-requires-clause-null_comparable
preceded_by-rest-requires-clause-null_comparable g c =
    let u = cut c.self.view_is c.requires c.self.invariant c.cut_at-front.ensures in
    rest_comparable u c.cut-one.result.1.blocks c.cut-one.ensures.1 c.self.invariant.comparable

pub overflow_sub-left : goal.overflow_sub-left
overflow_sub-left g c =
    let u = cut c.self.view_is c.requires c.self.invariant c.cut_at-front.ensures in
    let l = c.len-len.ensures ∙ length_is c.self.inside.boxes.blocks c.args.self c.self.view_is in let m = some u in omega (arith, l, m)

pub invariant_of-left : goal.invariant_of-left
invariant_of-left g c =
    let u = cut c.self.view_is c.requires c.self.invariant c.cut_at-front.ensures in
    let f = c.followed_by-front.result.1.blocks in let r = c.preceded_by-rest.result.1.blocks in let js = c.null_comparable.ensures.0 ∙ c.join.ensures in record {
      long = ap (λ l. l - 1) (c.len-len.ensures ∙ length_is c.self.inside.boxes.blocks c.args.self c.self.view_is) ∙ left_length u c.cut-one.result.1.blocks f r c.null_comparable.result.blocks c.cut-one.ensures.1 c.followed_by-front.ensures.same c.preceded_by-rest.ensures.same js;
      comparable = subst (λ ls. AreNullComparable (box_addresses ls)) (sym c.null_comparable.ensures.0) c.null_comparable.ensures.1;
      segment = subst (λ ls. Segment null_ptr c.followed_by-front.result.0.ptr ls c.preceded_by-rest.result.0.ptr null_ptr) (sym js)
          (segment_join null_ptr c.followed_by-front.result.0.ptr f c.get-2.result.now.links.prev.ptr c.get.result.now.links.next.ptr r c.preceded_by-rest.result.0.ptr null_ptr c.followed_by-front.ensures.linked c.preceded_by-rest.ensures.linked);
    }

pub returns-clause-parts : goal.returns-clause-parts
returns-clause-parts g c =
    let u = cut c.self.view_is c.requires c.self.invariant c.cut_at-front.ensures in
    let f = c.followed_by-front.result.1.blocks in let r = c.preceded_by-rest.result.1.blocks in (
      u.node.1,
      (block_of u.node),
      (
        nodes_of c.cut_at-front.result.0.blocks,
        nodes_of u.after,
        taken_is u c.args.self (block_of u.node) c.self.view_is refl,
        left_is u c.cut-one.result.1.blocks f r c.null_comparable.result.blocks c.cut-one.ensures.1 c.followed_by-front.ensures.same c.preceded_by-rest.ensures.same (c.null_comparable.ensures.0 ∙ c.join.ensures),
      ),
      one_is u c.cut-one.result.0.blocks u.node.1 c.cut-one.ensures.0,
    )

pub returns-clause-fits : goal.returns-clause-fits
returns-clause-fits g c =
    let u = cut c.self.view_is c.requires c.self.invariant c.cut_at-front.ensures in
    let f = c.followed_by-front.result.1.blocks in let r = c.preceded_by-rest.result.1.blocks in let l = c.len-len.ensures ∙ length_is c.self.inside.boxes.blocks c.args.self c.self.view_is in let m = some u in
    let left = left_length u c.cut-one.result.1.blocks f r c.null_comparable.result.blocks c.cut-one.ensures.1 c.followed_by-front.ensures.same c.preceded_by-rest.ensures.same (c.null_comparable.ensures.0 ∙ c.join.ensures) in
    let seen = length-nodes_of c.null_comparable.result.blocks in omega (arith, l, m, left, seen)
