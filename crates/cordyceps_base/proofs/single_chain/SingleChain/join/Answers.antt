use Rattle.std.proofs.Common.{◌++◌, refl, ap, ◌∙◌, sym, subst}
use Rattle.cordyceps_base.specs.Nodes.{nodes_of}
use Rattle.cordyceps_base.specs.Boxes.{box_addresses}
use Rattle.cordyceps_base.specs.SingleChain.{IsLed, EndsAt, with_next_of_last, unless_null}
use Rattle.cordyceps_base.specs.Spots.{AreNullComparable}
use Rattle.cordyceps_base.proofs.Nodes.{nodes_of-append}
use Rattle.cordyceps_base.proofs.SingleChain.{line_join, nodes_of-with_next_of_last, some_nodes}
use Rattle.cordyceps_base.proofs.single_chain.SingleChain.join.Goals as goal

pub invariant_of-result-2 : goal.invariant_of-result-2
invariant_of-result-2 g c =
    let a = c.self.inside in let o = c.other.inside in let is = c.null_comparable.ensures.0 ∙ c.join-boxes.ensures ∙ ap (λ l. l ++ o.boxes.blocks) c.with_last_link.ensures in
    let some = some_nodes a.boxes.blocks (λ e. let empty = c.if-is_empty.ensures.1 (sym c.self.view_is ∙ e) in cc) in
    let more = some_nodes o.boxes.blocks (λ e. let empty = c.if-is_empty-2.ensures.1 (sym c.other.view_is ∙ e) in cc) in
    let line = line_join (unless_null a.head) (unless_null o.head) o.head a.tail.ptr o.tail.ptr a.boxes.blocks o.boxes.blocks refl c.self.invariant c.other.invariant some more in record {
      led = subst (IsLed (unless_null a.head)) (sym is) line.0;
      ends = subst (λ l. EndsAt l o.tail.ptr) (sym is) line.1;
      comparable = subst (λ l. AreNullComparable (box_addresses l)) (sym c.null_comparable.ensures.0) c.null_comparable.ensures.1;
    }

pub returns : goal.returns
returns g c =
    let xs = c.self.inside.boxes.blocks in let ys = c.other.inside.boxes.blocks in let next = c.other.inside.head in
    ap nodes_of c.null_comparable.ensures.0 ∙ ap nodes_of c.join-boxes.ensures ∙ (λ i. nodes_of (c.with_last_link.ensures i ++ ys)) ∙ nodes_of-append (with_next_of_last xs next) ys ∙ (λ i. nodes_of-with_next_of_last xs next i ++ nodes_of ys) ∙ (λ i. c.self.view_is i ++ c.other.view_is i)
