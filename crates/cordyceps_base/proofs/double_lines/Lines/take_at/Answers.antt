use Rattle.std.proofs.Common.{◌≡◌, List, Some, ℕ, ◌+◌, ◌<◌, arith, ap, sym, ◌∙◌, subst, refl, take, drop, [], ◌∷◌, ◌++◌}
use Rattle.cordyceps_base.specs.Boxes.{box_addresses}
use denote.RawPtr.{Ptr, InBlock}
use Rattle.cordyceps_base.specs.DoubleLines.{flat, lines_in, AreLines, IsTable, IsTakenOut}
use Rattle.cordyceps_base.specs.Nodes.{Nodes, nodes_of, block_of, block_element}
use Rattle.cordyceps_base.specs.Spots.{AreDistinct, AreNullComparable}
use Rattle.cordyceps_base.proofs.LineSpots.{at_spot, spot_cut, spot_there, spot_read, prev_testable, first_there, later_there, front_led, front_is_led, back_led, left_lines, left_shown, spot_joined, spot_begins, spot_in_block, first_is_taken, first_at_is, within_get}
use Rattle.cordyceps_base.proofs.LineReads.{at_line, at_some, at_shown}
use Rattle.cordyceps_base.proofs.LineTables.{lines_long, cut_of}
use Rattle.cordyceps_base.proofs.double_lines.Lines.take_at.Goals as goal

takes_space : (x y s : ℕ) → 0 < 24 + x + s + y
takes_space x y s = omega arith

pub get-requires : goal.get-requires
get-requires g c =
    let i = c.self.inside in
    let u = at_spot (take i.count i.firsts) i.row.blocks c.args.self.now c.args.at.ptr c.self.invariant.lines c.self.view_is c.requires in
    spot_there u c.cut_at-front.result.0.blocks c.cut_at-front.result.1.blocks (cut_of _ _ _ _ _ c.taken.ensures.0 c.cut_at-front.ensures)

pub get-requires-2 : goal.get-requires-2
get-requires-2 g c =
    let i = c.self.inside in
    let u = at_spot (take i.count i.firsts) i.row.blocks c.args.self.now c.args.at.ptr c.self.invariant.lines c.self.view_is c.requires in
    spot_there u c.cut_at-front.result.0.blocks c.cut_at-front.result.1.blocks (cut_of _ _ _ _ _ c.taken.ensures.0 c.cut_at-front.ensures)

pub is_null-requires : goal.is_null-requires
is_null-requires g c =
    let i = c.self.inside in
    let u = at_spot (take i.count i.firsts) i.row.blocks c.args.self.now c.args.at.ptr c.self.invariant.lines c.self.view_is c.requires in
    prev_testable u c.get-2.result.now (spot_read u c.cut_at-front.result.0.blocks c.cut_at-front.result.1.blocks c.get-2.result.now (cut_of _ _ _ _ _ c.taken.ensures.0 c.cut_at-front.ensures) c.get-2.ensures)

pub end_followed_by-front-requires : goal.end_followed_by-front-requires
end_followed_by-front-requires g c =
    let i = c.self.inside in
    let u = at_spot (take i.count i.firsts) i.row.blocks c.args.self.now c.args.at.ptr c.self.invariant.lines c.self.view_is c.requires in
    let cut = spot_cut u c.cut_at-front.result.0.blocks c.cut_at-front.result.1.blocks (cut_of _ _ _ _ _ c.taken.ensures.0 c.cut_at-front.ensures) in
    let b = c.get-2.result.now in let same = spot_read u c.cut_at-front.result.0.blocks c.cut_at-front.result.1.blocks b (cut_of _ _ _ _ _ c.taken.ensures.0 c.cut_at-front.ensures) c.get-2.ensures in
    (flat u.before, u.front, cut.0, later_there u b same c.if-is_null.ensures, front_led u b same)

pub front_preceded_by-rest-requires-clause-linked : goal.front_preceded_by-rest-requires-clause-linked
front_preceded_by-rest-requires-clause-linked g c =
    let i = c.self.inside in
    let u = at_spot (take i.count i.firsts) i.row.blocks c.args.self.now c.args.at.ptr c.self.invariant.lines c.self.view_is c.requires in
    let cut = spot_cut u c.cut_at-front.result.0.blocks c.cut_at-front.result.1.blocks (cut_of _ _ _ _ _ c.taken.ensures.0 c.cut_at-front.ensures) in
    let b = c.get.result.now in let same = spot_read u c.cut_at-front.result.0.blocks c.cut_at-front.result.1.blocks b (cut_of _ _ _ _ _ c.taken.ensures.0 c.cut_at-front.ensures) c.get.ensures in
    (u.back, flat u.after, c.null_comparable.ensures.0 ∙ c.cut-one.ensures.1 ∙ ap (drop 1) cut.1, back_led u b same)

pub alone-requires : goal.alone-requires
alone-requires g c =
    let i = c.self.inside in
    let u = at_spot (take i.count i.firsts) i.row.blocks c.args.self.now c.args.at.ptr c.self.invariant.lines c.self.view_is c.requires in
    let cut = spot_cut u c.cut_at-front.result.0.blocks c.cut_at-front.result.1.blocks (cut_of _ _ _ _ _ c.taken.ensures.0 c.cut_at-front.ensures) in
    (u.node.1, block_of u.node, c.cut-one.ensures.0 ∙ ap (take 1) cut.1 ∙ (λ j. (u.at j, u.node.1, block_of u.node) ∷ []))

pub number_of-k-requires-clause-table : goal.number_of-k-requires-clause-table
number_of-k-requires-clause-table g c =
    let i = c.self.inside in
    let u = at_spot (take i.count i.firsts) i.row.blocks c.args.self.now c.args.at.ptr c.self.invariant.lines c.self.view_is c.requires in
    subst (IsTable i.firsts i.count) (sym (spot_joined u c.cut_at-front.result.0.blocks c.cut_at-front.result.1.blocks c.join.result.blocks (cut_of _ _ _ _ _ c.taken.ensures.0 c.cut_at-front.ensures) c.join.ensures)) c.self.invariant

pub number_of-k-requires-clause-first : goal.number_of-k-requires-clause-first
number_of-k-requires-clause-first g c =
    let i = c.self.inside in
    let u = at_spot (take i.count i.firsts) i.row.blocks c.args.self.now c.args.at.ptr c.self.invariant.lines c.self.view_is c.requires in
    let b = c.get-2.result.now in let same = spot_read u c.cut_at-front.result.0.blocks c.cut_at-front.result.1.blocks b (cut_of _ _ _ _ _ c.taken.ensures.0 c.cut_at-front.ensures) c.get-2.ensures in
    spot_begins u c.join.result.blocks (spot_joined u c.cut_at-front.result.0.blocks c.cut_at-front.result.1.blocks c.join.result.blocks (cut_of _ _ _ _ _ c.taken.ensures.0 c.cut_at-front.ensures) c.join.ensures) (first_there u b same c.if-is_null.ensures)

pub invariant_of-self : goal.invariant_of-self
invariant_of-self g c =
    let i = c.self.inside in
    let u = at_spot (take i.count i.firsts) i.row.blocks c.args.self.now c.args.at.ptr c.self.invariant.lines c.self.view_is c.requires in
    let is = c.put_back.ensures ∙ c.number_of-k.ensures.same ∙ spot_joined u c.cut_at-front.result.0.blocks c.cut_at-front.result.1.blocks c.join.result.blocks (cut_of _ _ _ _ _ c.taken.ensures.0 c.cut_at-front.ensures) c.join.ensures in
    subst (IsTable i.firsts i.count) (sym is) c.self.invariant

pub take_first-requires-clause-within : goal.take_first-requires-clause-within
take_first-requires-clause-within g c =
    let i = c.self.inside in let row = c.put_back.new.row.blocks in let hs = take i.count i.firsts in
    let (h, there, at) = c.number_of-k.ensures.number in
    let long = lines_long hs (nodes_of row) in let in_it = within_get hs c.number_of-k.result.0 h there in omega (arith, long, in_it)

pub take_first-requires-clause-some : goal.take_first-requires-clause-some
take_first-requires-clause-some g c =
    let i = c.self.inside in let row = c.put_back.new.row.blocks in let hs = take i.count i.firsts in let k = c.number_of-k.result.0 in
    let v = at_spot hs i.row.blocks c.args.self.now c.args.at.ptr c.self.invariant.lines c.self.view_is c.requires in
    let is = c.put_back.ensures ∙ c.number_of-k.ensures.same ∙ spot_joined v c.cut_at-front.result.0.blocks c.cut_at-front.result.1.blocks c.join.result.blocks (cut_of _ _ _ _ _ c.taken.ensures.0 c.cut_at-front.ensures) c.join.ensures in
    let (h, there, at) = c.number_of-k.ensures.number in
    let u = at_line hs row k h (subst (AreLines hs) (sym is) c.self.invariant.lines) there in
    let f = at_some u (subst InBlock (sym at) (spot_in_block v)) in
    ((f.node.0, block_element (block_of f.node)), nodes_of f.rest, at_shown u (lines_in hs (nodes_of row)) refl ∙ ap (λ l. Some (nodes_of l)) f.parts)

pub returns-then-is_null : goal.returns-then-is_null
returns-then-is_null g c =
    let i = c.self.inside in let row = c.put_back.new.row.blocks in let hs = take i.count i.firsts in let k = c.number_of-k.result.0 in
    let v = at_spot hs i.row.blocks c.args.self.now c.args.at.ptr c.self.invariant.lines c.self.view_is c.requires in
    let is = c.put_back.ensures ∙ c.number_of-k.ensures.same ∙ spot_joined v c.cut_at-front.result.0.blocks c.cut_at-front.result.1.blocks c.join.result.blocks (cut_of _ _ _ _ _ c.taken.ensures.0 c.cut_at-front.ensures) c.join.ensures in
    let (h, there, at) = c.number_of-k.ensures.number in
    let u = at_line hs row k h (subst (AreLines hs) (sym is) c.self.invariant.lines) there in
    let f = at_some u (subst InBlock (sym at) (spot_in_block v)) in
    let shown = at_shown u (lines_in hs (nodes_of row)) refl ∙ ap (λ l. Some (nodes_of l)) f.parts in
    let (p, e, one, out) = c.take_first.ensures in
    let same : p ≡ c.args.at.ptr = first_at_is (lines_in hs (nodes_of row)) c.take_first.new.self k p f.node.0 e (block_element (block_of f.node)) (nodes_of f.rest) out shown ∙ f.at ∙ at in
    let whole : lines_in hs (nodes_of row) ≡ c.args.self.now = ap (λ ls. lines_in hs (nodes_of ls)) is ∙ c.self.view_is in
    (e, one ∙ ap (λ q. (q, e) ∷ []) same, subst (λ (s : List (Nodes _) × Ptr). IsTakenOut s.0 s.1 e c.take_first.new.self) (λ j. (whole j, same j)) (first_is_taken (lines_in hs (nodes_of row)) c.take_first.new.self k p e out))

pub invariant_of-self-2 : goal.invariant_of-self-2
invariant_of-self-2 g c =
    let i = c.self.inside in let hs = take i.count i.firsts in
    let u = at_spot hs i.row.blocks c.args.self.now c.args.at.ptr c.self.invariant.lines c.self.view_is c.requires in
    let cut = spot_cut u c.cut_at-front.result.0.blocks c.cut_at-front.result.1.blocks (cut_of _ _ _ _ _ c.taken.ensures.0 c.cut_at-front.ensures) in
    let b = c.get.result.now in let same = spot_read u c.cut_at-front.result.0.blocks c.cut_at-front.result.1.blocks b (cut_of _ _ _ _ _ c.taken.ensures.0 c.cut_at-front.ensures) c.get.ensures in
    let o = c.get-2.result.now in let same' = spot_read u c.cut_at-front.result.0.blocks c.cut_at-front.result.1.blocks o (cut_of _ _ _ _ _ c.taken.ensures.0 c.cut_at-front.ensures) c.get-2.ensures in
    let (l, is_l, shown_l, first) = c.end_followed_by-front.ensures (flat u.before) u.front _ _ _ cut.0 (later_there u o same' c.if-is_null.ensures) (front_is_led u o same') in
    let (r, is_r, shown_r, second) = c.front_preceded_by-rest.ensures u.back (flat u.after) (c.null_comparable.ensures.0 ∙ c.cut-one.ensures.1 ∙ ap (drop 1) cut.1) (back_led u b same) in record {
      long = c.self.invariant.long;
      within = c.self.invariant.within;
      lines = left_lines u c.put_back-2.new.row.blocks l r o.links.prev.ptr b.links.next.ptr
          (c.put_back-2.ensures ∙ c.null_comparable-2.ensures.0 ∙ c.distinct.ensures.0 ∙ c.join-2.ensures ∙ (λ j. is_l j ++ is_r j)) first second
          (subst (λ ls. AreNullComparable (box_addresses ls)) (sym (c.put_back-2.ensures ∙ c.null_comparable-2.ensures.0)) c.null_comparable-2.ensures.1)
          (subst (λ ls. AreDistinct (box_addresses ls)) (sym (c.put_back-2.ensures ∙ c.null_comparable-2.ensures.0 ∙ c.distinct.ensures.0)) (c.distinct.ensures.1 (takes_space _ _ _)));
    }

pub returns : goal.returns
returns g c =
    let i = c.self.inside in let hs = take i.count i.firsts in
    let u = at_spot hs i.row.blocks c.args.self.now c.args.at.ptr c.self.invariant.lines c.self.view_is c.requires in
    let cut = spot_cut u c.cut_at-front.result.0.blocks c.cut_at-front.result.1.blocks (cut_of _ _ _ _ _ c.taken.ensures.0 c.cut_at-front.ensures) in
    let b = c.get.result.now in let same = spot_read u c.cut_at-front.result.0.blocks c.cut_at-front.result.1.blocks b (cut_of _ _ _ _ _ c.taken.ensures.0 c.cut_at-front.ensures) c.get.ensures in
    let o = c.get-2.result.now in let same' = spot_read u c.cut_at-front.result.0.blocks c.cut_at-front.result.1.blocks o (cut_of _ _ _ _ _ c.taken.ensures.0 c.cut_at-front.ensures) c.get-2.ensures in
    let (l, is_l, shown_l, first) = c.end_followed_by-front.ensures (flat u.before) u.front _ _ _ cut.0 (later_there u o same' c.if-is_null.ensures) (front_is_led u o same') in
    let (r, is_r, shown_r, second) = c.front_preceded_by-rest.ensures u.back (flat u.after) (c.null_comparable.ensures.0 ∙ c.cut-one.ensures.1 ∙ ap (drop 1) cut.1) (back_led u b same) in (
      block_element (block_of u.node),
      c.alone.ensures ∙ ap nodes_of (c.cut-one.ensures.0 ∙ ap (take 1) cut.1 ∙ (λ j. (u.at j, u.node.1, block_of u.node) ∷ [])),
      left_shown u c.put_back-2.new.row.blocks l r o.links.prev.ptr b.links.next.ptr
          (c.put_back-2.ensures ∙ c.null_comparable-2.ensures.0 ∙ c.distinct.ensures.0 ∙ c.join-2.ensures ∙ (λ j. is_l j ++ is_r j)) first second
          (subst (λ ls. AreNullComparable (box_addresses ls)) (sym (c.put_back-2.ensures ∙ c.null_comparable-2.ensures.0)) c.null_comparable-2.ensures.1)
          (subst (λ ls. AreDistinct (box_addresses ls)) (sym (c.put_back-2.ensures ∙ c.null_comparable-2.ensures.0 ∙ c.distinct.ensures.0)) (c.distinct.ensures.1 (takes_space _ _ _)))
          c.args.self.now c.self.view_is shown_l shown_r,
    )
