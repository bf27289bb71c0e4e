use Rattle.cordyceps_stable.proofs.Valid.{first_out_keeps}
use Rattle.std.proofs.Common.{sym, ◌∙◌}
use Rattle.cordyceps_tree.proofs.tree_map.TreeMap.pop_first.Goals as goal

pub returns-clause-kept : goal.returns-clause-kept
returns-clause-kept g c =
    let (e, was, one) = c.take_first.ensures in
    first_out_keeps c.args.self.now c.take_first.new.self c.take_first.result.at.ptr e (sym c.self.view_is ∙ was)
