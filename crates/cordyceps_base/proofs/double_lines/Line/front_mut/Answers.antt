use Rattle.std.proofs.Common.{subst, refl, sym, ap, ◌∙◌}
use denote.RawPtr.{null_ptr}
use Rattle.cordyceps_base.specs.Spots.{AreNullComparable}
use Rattle.std.specs.Prelude.{◌≡◌, slice_get, Some}
use Rattle.cordyceps_base.specs.Element.{values}
use Rattle.cordyceps_base.specs.Nodes.{elements, with_item}
use Rattle.cordyceps_base.proofs.DoubleChain.{segment_keep}
use Rattle.cordyceps_base.proofs.LineEnds.{line_first}
use Rattle.cordyceps_base.proofs.Nodes.{with_content, item_on, nodes_of-item, box_addresses-set}
use Rattle.cordyceps_base.proofs.double_lines.Line.front_mut.Goals as goal

pub get_mut-block-requires : goal.get_mut-block-requires
get_mut-block-requires g c = line_first c.self.inside.first.ptr c.self.inside.row.blocks c.args.self.now c.self.view_is c.self.invariant c.requires

pub invariant_of-self-lent : goal.invariant_of-self-lent
invariant_of-self-lent g c =
    λ w. let i = c.self.inside in let l = c.self.invariant in let b = c.get_mut-block.result.now in
    record {
      comparable = subst AreNullComparable (sym (box_addresses-set i.row.blocks 0 (with_content b w))) l.comparable;
      prev = l.prev;
      last = l.last;
      linked = segment_keep l.prev i.first.ptr i.row.blocks l.last null_ptr 0 b w l.linked c.get_mut-block.ensures.value;
    }

pub returns : goal.returns
returns g c =
    let ns = c.self.inside.row.blocks in let b = c.get_mut-block.result.now in (
      (refl, λ w. nodes_of-item ns 0 b w c.get_mut-block.ensures.value ∙ ap (λ v. with_item v 0 w) c.self.view_is),
      record { writes_back = tt; value = subst (λ v. slice_get (values (elements v)) 0 ≡ Some b.value) c.self.view_is (item_on ns 0 b c.get_mut-block.ensures.value) },
    )
