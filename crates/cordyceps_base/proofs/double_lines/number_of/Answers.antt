use Rattle.std.proofs.Common.{◌∷◌, ◌++◌, length, take, refl}
use Rattle.cordyceps_base.proofs.LineNumbers.{marked_node, begun_there, marked_comparable, marked_distinct, marked_lines, marked_at, again_there, unmarked, begun_number}
use Rattle.cordyceps_base.proofs.double_lines.number_of.Goals as goal

pub get_mut-requires : goal.get_mut-requires
get_mut-requires g c =
    let u = c.requires.first in let w = c.requires.table.lines in
    begun_there (take c.args.count c.args.firsts.now) c.args.row.blocks c.args.at.ptr u w.comparable w.distinct c.cut_at-front.result.0.blocks c.cut_at-front.result.1.blocks c.cut_at-front.ensures

pub marked-k-requires-clause-long : goal.marked-k-requires-clause-long
marked-k-requires-clause-long g c = (c.requires.table.long, c.requires.table.within)

pub marked-k-requires-clause-row : goal.marked-k-requires-clause-row
marked-k-requires-clause-row g c =
    let u = c.requires.first in let w = c.requires.table.lines in let fr = c.cut_at-front.result.0.blocks in let bk = c.cut_at-front.result.1.blocks in (
      marked_comparable (take c.args.count c.args.firsts.now) c.args.row.blocks c.args.at.ptr u w.comparable w.distinct fr bk c.join-row.result.blocks c.get_mut.result.now c.args.at refl c.cut_at-front.ensures c.get_mut.ensures.value c.join-row.ensures,
      marked_distinct (take c.args.count c.args.firsts.now) c.args.row.blocks c.args.at.ptr u w.comparable w.distinct fr bk c.join-row.result.blocks c.get_mut.result.now c.args.at refl c.cut_at-front.ensures c.get_mut.ensures.value c.join-row.ensures,
    )

pub marked-k-requires-clause-marked : goal.marked-k-requires-clause-marked
marked-k-requires-clause-marked g c =
    let u = c.requires.first in let w = c.requires.table.lines in let fr = c.cut_at-front.result.0.blocks in let bk = c.cut_at-front.result.1.blocks in (
      u.before ++ (marked_node u c.args.at ∷ u.back) ∷ u.after,
      length u.before,
      marked_lines (take c.args.count c.args.firsts.now) c.args.row.blocks c.args.at.ptr u w.comparable w.distinct fr bk c.join-row.result.blocks c.get_mut.result.now c.args.at refl c.cut_at-front.ensures c.get_mut.ensures.value c.join-row.ensures,
      marked_at (take c.args.count c.args.firsts.now) c.args.row.blocks c.args.at.ptr u w.comparable w.distinct fr bk c.join-row.result.blocks c.get_mut.result.now c.args.at refl c.cut_at-front.ensures c.get_mut.ensures.value c.join-row.ensures,
    )

pub get_mut-requires-2 : goal.get_mut-requires-2
get_mut-requires-2 g c =
    let u = c.requires.first in let w = c.requires.table.lines in let fr = c.cut_at-front.result.0.blocks in let bk = c.cut_at-front.result.1.blocks in
    again_there (take c.args.count c.args.firsts.now) c.args.row.blocks c.args.at.ptr u w.comparable w.distinct fr bk c.join-row.result.blocks c.get_mut.result.now c.args.at refl c.cut_at-front.ensures c.get_mut.ensures.value c.join-row.ensures c.cut_at-front-2.result.0.blocks c.cut_at-front-2.result.1.blocks c.join-row.result.blocks c.cut_at-front-2.ensures

pub returns-clause-same : goal.returns-clause-same
returns-clause-same g c =
    let u = c.requires.first in let w = c.requires.table.lines in let fr = c.cut_at-front.result.0.blocks in let bk = c.cut_at-front.result.1.blocks in
    unmarked (take c.args.count c.args.firsts.now) c.args.row.blocks c.args.at.ptr u w.comparable w.distinct fr bk c.join-row.result.blocks c.get_mut.result.now c.args.at refl c.cut_at-front.ensures c.get_mut.ensures.value c.join-row.ensures c.cut_at-front-2.result.0.blocks c.cut_at-front-2.result.1.blocks c.join.result.blocks c.cut_at-front-2.ensures
    c.get_mut-2.result.now c.null.result c.get_mut-2.ensures.value c.null.ensures c.join.ensures

pub returns-clause-number : goal.returns-clause-number
returns-clause-number g c =
    let u = c.requires.first in let w = c.requires.table.lines in let fr = c.cut_at-front.result.0.blocks in let bk = c.cut_at-front.result.1.blocks in
    begun_number (take c.args.count c.args.firsts.now) c.args.row.blocks c.args.at.ptr u w.comparable w.distinct c.marked-k.result (c.marked-k.ensures (u.before ++ (marked_node u c.args.at ∷ u.back) ∷ u.after) (length u.before)
    (marked_lines (take c.args.count c.args.firsts.now) c.args.row.blocks c.args.at.ptr u w.comparable w.distinct fr bk c.join-row.result.blocks c.get_mut.result.now c.args.at refl c.cut_at-front.ensures c.get_mut.ensures.value c.join-row.ensures)
    (marked_at (take c.args.count c.args.firsts.now) c.args.row.blocks c.args.at.ptr u w.comparable w.distinct fr bk c.join-row.result.blocks c.get_mut.result.now c.args.at refl c.cut_at-front.ensures c.get_mut.ensures.value c.join-row.ensures))
