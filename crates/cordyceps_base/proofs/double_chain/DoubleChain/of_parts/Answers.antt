use Rattle.std.proofs.Common.{◌+◌, ◌++◌, ap, ◌∙◌, sym, subst}
use denote.RawPtr.{null_ptr}
use Rattle.cordyceps_base.specs.Boxes.{box_addresses}
use Rattle.cordyceps_base.specs.DoubleChain.{Segment}
use Rattle.cordyceps_base.specs.Nodes.{nodes_of}
use Rattle.cordyceps_base.specs.Spots.{AreNullComparable}
use Rattle.cordyceps_base.proofs.Segments.{put_length}
use Rattle.cordyceps_base.proofs.double_chain.DoubleChain.of_parts.Goals as goal

pub invariant_of-result : goal.invariant_of-result
invariant_of-result g c =
    let whole = c.between-whole.result in let (a, x, one) = c.requires.one in let front = c.args.front.row.blocks in let back = c.args.back.row.blocks in record {
      long = ap (λ l. l + 1) c.requires.len ∙ put_length c.null_comparable.result.blocks front back _ (ap nodes_of c.null_comparable.ensures.0 ∙ c.between-whole.ensures.holds ∙ (λ i. nodes_of front ++ (nodes_of (one i) ++ nodes_of back)));
      comparable = subst (λ ls. AreNullComparable (box_addresses ls)) (sym c.null_comparable.ensures.0) c.null_comparable.ensures.1;
      segment = subst (λ ls. Segment null_ptr whole.first.ptr ls whole.last.ptr null_ptr) (sym c.null_comparable.ensures.0) c.between-whole.ensures.linked;
    }

pub returns : goal.returns
returns g c = ap nodes_of c.null_comparable.ensures.0 ∙ c.between-whole.ensures.holds
