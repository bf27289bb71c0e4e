use Rattle.cordyceps.proofs.Spots.Members.{has_in}
use Rattle.cordyceps.proofs.Spots.ValueAt.{in_value}
use Rattle.cordyceps_uses.proofs.Tabled.{readied, readied_table}
use Rattle.cordyceps_uses.proofs.task_table.make_ready.Goals as goal

pub returns-clause-ready : goal.returns-clause-ready
returns-clause-ready g c =
    let m = c.args.map.now in let a = c.ensure_unlinked.ensures in let r = in_value m.nodes c.args.at (has_in m.nodes c.args.at c.requires.there) in
    record { entry = r.0; value = r.1; holds = readied m c.lists_agree.ensures c.requires.table c.args.at r.0 r.1 c.ensure_unlinked.new.self a.nodes a.list a.others.lists c.link_by_rank.new.map c.link_by_rank.ensures }

pub returns-clause-table : goal.returns-clause-table
returns-clause-table g c =
    let m = c.args.map.now in let a = c.ensure_unlinked.ensures in let r = in_value m.nodes c.args.at (has_in m.nodes c.args.at c.requires.there) in
    readied_table m c.lists_agree.ensures c.requires.table c.args.at r.0 r.1 c.ensure_unlinked.new.self a.nodes a.list a.others.lists c.link_by_rank.new.map c.link_by_rank.ensures
