use Rattle.std.proofs.Common.{◌≡◌, true, sym, subst, ap, ◌∙◌}
use Rattle.cordyceps_base.specs.Boxes.{box_addresses}
use Rattle.cordyceps_many.specs.declared.hook.Hook.{Hook}
use Rattle.cordyceps_many.specs.Rows.{hook_at}
use Rattle.cordyceps_many.specs.Threads.{is_in}
use Rattle.cordyceps_many.proofs.Shared.{linked, spot_in}
use Rattle.cordyceps_many.proofs.multi_list.MultiList.is_linked.Goals as goal

pub hook_of-requires : goal.hook_of-requires
hook_of-requires g c =
    let ns = c.self.inside.row.boxes.blocks in let es = c.self.inside.ends in let v = c.args.self.now in let inv = c.self.invariant in let seen = c.self.view_is in let k = g.H.Rows.count in
    record { there = subst (λ q. is_in q (box_addresses ns) ≡ true) (sym c.address_of.ensures) (spot_in k es ns v inv seen c.args.at c.requires.there); within = c.requires.within }

pub returns : goal.returns
returns g c =
    let ns = c.self.inside.row.boxes.blocks in let es = c.self.inside.ends in let v = c.args.self.now in let inv = c.self.invariant in let seen = c.self.view_is in let k = g.H.Rows.count in
    ap (λ (h : Hook). h.linked) (c.hook_of.ensures ∙ ap (hook_at ns c.args.i) c.address_of.ensures) ∙ (linked k es ns v inv seen c.args.i).marks c.args.at
