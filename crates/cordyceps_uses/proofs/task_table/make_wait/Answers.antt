use Rattle.std.proofs.Common.{[], ◌∷◌, ◌++◌, ap, ◌∙◌}
use Rattle.cordyceps.proofs.Spots.Members.{has_in}
use Rattle.cordyceps.proofs.Spots.ValueAt.{in_value}
use Rattle.cordyceps_uses.proofs.Tabled.{waited, waited_table}
use Rattle.cordyceps_uses.proofs.task_table.make_wait.Goals as goal

pub returns-clause-waits : goal.returns-clause-waits
returns-clause-waits g c =
    let m = c.args.map.now in let a = c.unlink.ensures in let b = c.link_back.ensures in let r = in_value m.nodes c.args.at (has_in m.nodes c.args.at c.requires.there) in
    record {
      entry = r.0;
      value = r.1;
      holds = waited m c.lists_agree.ensures c.requires.table c.args.at r.0 r.1 c.link_back.new.self (b.nodes ∙ a.nodes) (b.others.lists 0 (λ e. absurd cc) ∙ a.others.lists 0 (λ e. absurd cc))
          (b.others.lists 1 (λ e. absurd cc) ∙ a.list) (b.list ∙ ap (λ l. l ++ c.args.at ∷ []) (a.others.lists 2 (λ e. absurd cc)));
    }

pub returns-clause-table : goal.returns-clause-table
returns-clause-table g c =
    let m = c.args.map.now in let a = c.unlink.ensures in let b = c.link_back.ensures in let r = in_value m.nodes c.args.at (has_in m.nodes c.args.at c.requires.there) in
    waited_table m c.lists_agree.ensures c.requires.table c.args.at r.0 r.1 c.link_back.new.self (b.nodes ∙ a.nodes) (b.others.lists 0 (λ e. absurd cc) ∙ a.others.lists 0 (λ e. absurd cc))
    (b.others.lists 1 (λ e. absurd cc) ∙ a.list) (b.list ∙ ap (λ l. l ++ c.args.at ∷ []) (a.others.lists 2 (λ e. absurd cc)))
