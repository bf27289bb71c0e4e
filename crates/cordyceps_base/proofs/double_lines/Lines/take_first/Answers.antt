use Rattle.std.proofs.Common.{get_or, ℕ, ◌+◌, ◌<◌, arith, ap, sym, ◌∙◌, subst, take, ◌++◌}
use denote.RawPtr.{null_ptr}
use Rattle.cordyceps_base.specs.Boxes.{box_addresses}
use Rattle.cordyceps_base.specs.DoubleChain.{Segment}
use Rattle.cordyceps_base.specs.DoubleLines.{flat}
use Rattle.cordyceps_base.specs.Nodes.{nodes_of, block_of, block_element}
use Rattle.cordyceps_base.specs.Spots.{AreDistinct, AreNullComparable}
use Rattle.cordyceps_base.proofs.LineReads.{none, read_at, at_line, at_node, at_cut, at_there, at_read, out_rest, out_one, out_led, out_lines, out_shown}
use Rattle.cordyceps_base.proofs.LineTables.{table_count, set_long, cut_of}
use Rattle.cordyceps_base.proofs.double_lines.Lines.take_first.Goals as goal

takes_space : (x y s : ℕ) → 0 < 24 + x + s + y
takes_space x y s = omega arith

pub get-requires : goal.get-requires
get-requires g c =
    let i = c.self.inside in let ns = i.row.blocks in let w = c.self.invariant in let h = get_or i.firsts c.args.k none in
    let n = table_count i.firsts i.count ns c.args.self.now w c.self.view_is in let within = c.requires.within in let long = w.long in let most = w.within in
    let u = at_line (take i.count i.firsts) ns c.args.k h w.lines (read_at i.firsts i.count c.args.k (omega (arith, n, within)) (omega (arith, long, most))) in
    let (x, l, there) = c.requires.some in let f = at_node u c.args.self.now x l c.self.view_is there in
    at_there u f c.cut_at-front.result.1.blocks w.lines.distinct (cut_of _ _ _ _ _ c.taken.ensures.0 c.cut_at-front.ensures).1

pub front_preceded_by-rest-requires-clause-linked : goal.front_preceded_by-rest-requires-clause-linked
front_preceded_by-rest-requires-clause-linked g c =
    let i = c.self.inside in let ns = i.row.blocks in let w = c.self.invariant in let h = get_or i.firsts c.args.k none in
    let n = table_count i.firsts i.count ns c.args.self.now w c.self.view_is in let within = c.requires.within in let long = w.long in let most = w.within in
    let u = at_line (take i.count i.firsts) ns c.args.k h w.lines (read_at i.firsts i.count c.args.k (omega (arith, n, within)) (omega (arith, long, most))) in
    let (x, l, there) = c.requires.some in let f = at_node u c.args.self.now x l c.self.view_is there in
    let cut = at_cut u f c.cut_at-front.result.0.blocks c.cut_at-front.result.1.blocks w.lines.distinct (cut_of _ _ _ _ _ c.taken.ensures.0 c.cut_at-front.ensures) in
    (f.rest, flat u.after, c.null_comparable.ensures.0 ∙ out_rest i.firsts i.count u f c.cut_at-front.result.1.blocks c.cut-one.result.1.blocks cut.1 c.cut-one.ensures.1, out_led i.firsts i.count u f c.get.result.now (at_read u f c.cut_at-front.result.1.blocks c.get.result.now w.lines.distinct (cut_of _ _ _ _ _ c.taken.ensures.0 c.cut_at-front.ensures).1 c.get.ensures))

pub alone-requires : goal.alone-requires
alone-requires g c =
    let i = c.self.inside in let ns = i.row.blocks in let w = c.self.invariant in let h = get_or i.firsts c.args.k none in
    let n = table_count i.firsts i.count ns c.args.self.now w c.self.view_is in let within = c.requires.within in let long = w.long in let most = w.within in
    let u = at_line (take i.count i.firsts) ns c.args.k h w.lines (read_at i.firsts i.count c.args.k (omega (arith, n, within)) (omega (arith, long, most))) in
    let (x, l, there) = c.requires.some in let f = at_node u c.args.self.now x l c.self.view_is there in
    let cut = at_cut u f c.cut_at-front.result.0.blocks c.cut_at-front.result.1.blocks w.lines.distinct (cut_of _ _ _ _ _ c.taken.ensures.0 c.cut_at-front.ensures) in
    (f.node.1, block_of f.node, out_one i.firsts i.count u f c.cut_at-front.result.1.blocks c.cut-one.result.0.blocks cut.1 c.cut-one.ensures.0)

pub invariant_of-self : goal.invariant_of-self
invariant_of-self g c =
    let i = c.self.inside in let ns = i.row.blocks in let w = c.self.invariant in let h = get_or i.firsts c.args.k none in
    let n = table_count i.firsts i.count ns c.args.self.now w c.self.view_is in let within = c.requires.within in let long = w.long in let most = w.within in
    let u = at_line (take i.count i.firsts) ns c.args.k h w.lines (read_at i.firsts i.count c.args.k (omega (arith, n, within)) (omega (arith, long, most))) in
    let (x, l, there) = c.requires.some in let f = at_node u c.args.self.now x l c.self.view_is there in
    let cut = at_cut u f c.cut_at-front.result.0.blocks c.cut_at-front.result.1.blocks w.lines.distinct (cut_of _ _ _ _ _ c.taken.ensures.0 c.cut_at-front.ensures) in
    let next = c.get.result.now.links.next in
    let (m, is, same, (t, led)) = c.front_preceded_by-rest.ensures f.rest (flat u.after) (c.null_comparable.ensures.0 ∙ out_rest i.firsts i.count u f c.cut_at-front.result.1.blocks c.cut-one.result.1.blocks cut.1 c.cut-one.ensures.1)
    (out_led i.firsts i.count u f c.get.result.now (at_read u f c.cut_at-front.result.1.blocks c.get.result.now w.lines.distinct (cut_of _ _ _ _ _ c.taken.ensures.0 c.cut_at-front.ensures).1 c.get.ensures)) in record {
      long = set_long i.firsts c.args.k next ∙ long;
      within = most;
      lines = out_lines i.firsts i.count u f next m c.put_back.new.row.blocks (t, subst (λ p. Segment p next.ptr m t null_ptr) c.null.ensures led)
          (c.put_back.ensures ∙ c.null_comparable-2.ensures.0 ∙ c.distinct.ensures.0 ∙ c.join.ensures ∙ (λ j. cut.0 j ++ is j))
          (subst (λ ls. AreNullComparable (box_addresses ls)) (sym (c.put_back.ensures ∙ c.null_comparable-2.ensures.0)) c.null_comparable-2.ensures.1)
          (subst (λ ls. AreDistinct (box_addresses ls)) (sym (c.put_back.ensures ∙ c.null_comparable-2.ensures.0 ∙ c.distinct.ensures.0)) (c.distinct.ensures.1 (takes_space _ _ _)));
    }

pub returns : goal.returns
returns g c =
    let i = c.self.inside in let ns = i.row.blocks in let w = c.self.invariant in let h = get_or i.firsts c.args.k none in
    let n = table_count i.firsts i.count ns c.args.self.now w c.self.view_is in let within = c.requires.within in let long = w.long in let most = w.within in
    let u = at_line (take i.count i.firsts) ns c.args.k h w.lines (read_at i.firsts i.count c.args.k (omega (arith, n, within)) (omega (arith, long, most))) in
    let (x, l, there) = c.requires.some in let f = at_node u c.args.self.now x l c.self.view_is there in
    let cut = at_cut u f c.cut_at-front.result.0.blocks c.cut_at-front.result.1.blocks w.lines.distinct (cut_of _ _ _ _ _ c.taken.ensures.0 c.cut_at-front.ensures) in
    let next = c.get.result.now.links.next in
    let (m, is, same, (t, led)) = c.front_preceded_by-rest.ensures f.rest (flat u.after) (c.null_comparable.ensures.0 ∙ out_rest i.firsts i.count u f c.cut_at-front.result.1.blocks c.cut-one.result.1.blocks cut.1 c.cut-one.ensures.1)
    (out_led i.firsts i.count u f c.get.result.now (at_read u f c.cut_at-front.result.1.blocks c.get.result.now w.lines.distinct (cut_of _ _ _ _ _ c.taken.ensures.0 c.cut_at-front.ensures).1 c.get.ensures)) in (
      h.ptr,
      block_element (block_of f.node),
      c.alone.ensures ∙ ap nodes_of (out_one i.firsts i.count u f c.cut_at-front.result.1.blocks c.cut-one.result.0.blocks cut.1 c.cut-one.ensures.0),
      out_shown i.firsts i.count u f next m c.put_back.new.row.blocks (t, subst (λ p. Segment p next.ptr m t null_ptr) c.null.ensures led)
          (c.put_back.ensures ∙ c.null_comparable-2.ensures.0 ∙ c.distinct.ensures.0 ∙ c.join.ensures ∙ (λ j. cut.0 j ++ is j))
          (subst (λ ls. AreNullComparable (box_addresses ls)) (sym (c.put_back.ensures ∙ c.null_comparable-2.ensures.0)) c.null_comparable-2.ensures.1)
          (subst (λ ls. AreDistinct (box_addresses ls)) (sym (c.put_back.ensures ∙ c.null_comparable-2.ensures.0 ∙ c.distinct.ensures.0)) (c.distinct.ensures.1 (takes_space _ _ _)))
          c.args.self.now c.self.view_is same,
    )

pub bounds-self-inside-k : goal.bounds-self-inside-k
bounds-self-inside-k g c =
    let i = c.self.inside in let n = table_count i.firsts i.count i.row.blocks c.args.self.now c.self.invariant c.self.view_is in let within = c.requires.within in let most = c.self.invariant.within in omega (arith, n, within, most)

pub offset_bounds-self-inside-k : goal.offset_bounds-self-inside-k
offset_bounds-self-inside-k g c =
    let i = c.self.inside in let n = table_count i.firsts i.count i.row.blocks c.args.self.now c.self.invariant c.self.view_is in let within = c.requires.within in let most = c.self.invariant.within in
    let less : c.args.k < 64 = omega (arith, n, within, most) in record { fits = omega (arith, less) }

pub bounds-firsts-k : goal.bounds-firsts-k
bounds-firsts-k g c =
    let i = c.self.inside in let n = table_count i.firsts i.count i.row.blocks c.args.self.now c.self.invariant c.self.view_is in let within = c.requires.within in let most = c.self.invariant.within in omega (arith, n, within, most)

pub offset_bounds-firsts-k : goal.offset_bounds-firsts-k
offset_bounds-firsts-k g c =
    let i = c.self.inside in let n = table_count i.firsts i.count i.row.blocks c.args.self.now c.self.invariant c.self.view_is in let within = c.requires.within in let most = c.self.invariant.within in
    let less : c.args.k < 64 = omega (arith, n, within, most) in record { fits = omega (arith, less) }
