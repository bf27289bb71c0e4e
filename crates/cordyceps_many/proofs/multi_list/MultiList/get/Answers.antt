use Rattle.std.proofs.Common.{◌≡◌, true, slice_get, Some, sym, ap, subst}
use Rattle.cordyceps_base.specs.Boxes.{box_addresses, box_values}
use Rattle.cordyceps_base.specs.BySpot.{HoldsAt}
use Rattle.cordyceps_many.specs.Threads.{is_in}
use Rattle.cordyceps_many.proofs.HookRows.{found_there}
use Rattle.cordyceps_many.proofs.Shared.{spot_in, shown_at}
use Rattle.cordyceps_many.proofs.multi_list.MultiList.get.Goals as goal

pub get-requires : goal.get-requires
get-requires g c =
    let ns = c.self.inside.row.boxes.blocks in let es = c.self.inside.ends in let v = c.args.self.now in let inv = c.self.invariant in let seen = c.self.view_is in let k = g.H.Rows.count in
    let p = c.address_of-at.result.ptr in let here = subst (λ q. is_in q (box_addresses ns) ≡ true) (sym c.address_of-at.ensures) (spot_in k es ns v inv seen c.args.at c.requires) in
    subst (λ ls. slice_get (box_addresses ls) 0 ≡ Some p) (sym c.from_address.ensures) (found_there ns p here)

pub returns : goal.returns
returns g c =
    let ns = c.self.inside.row.boxes.blocks in let es = c.self.inside.ends in let v = c.args.self.now in let inv = c.self.invariant in let seen = c.self.view_is in let k = g.H.Rows.count in
    let p = c.address_of-at.result.ptr in let here = subst (λ q. is_in q (box_addresses ns) ≡ true) (sym c.address_of-at.ensures) (spot_in k es ns v inv seen c.args.at c.requires) in
    let b = c.get.result.now in let u = shown_at ns v.nodes (ap (λ m. m.nodes) seen) p here b (subst (λ ls. slice_get (box_values ls) 0 ≡ Some b) c.from_address.ensures c.get.ensures) in
    subst (λ q. HoldsAt v.nodes q b.value) c.address_of-at.ensures (u.before, b.id, u.behind, u.whole)
