use Rattle.std.proofs.Common.{ap, ◌∙◌}
use Rattle.cordyceps_many.specs.declared.hook.Ends.{Ends}
use Rattle.cordyceps_many.proofs.Shared.{linked}
use Rattle.cordyceps_many.proofs.multi_list.MultiList.len.Goals as goal

pub returns : goal.returns
returns g c =
    let ns = c.self.inside.row.boxes.blocks in let es = c.self.inside.ends in let v = c.args.self.now in let inv = c.self.invariant in let seen = c.self.view_is in let k = g.H.Rows.count in
    ap (λ (e : Ends). e.len) c.at.ensures ∙ (linked k es ns v inv seen c.args.i).long
