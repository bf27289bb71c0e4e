use Rattle.std.proofs.Common.{◌≡◌, true, slice_get, Some, sym, subst}
use Rattle.cordyceps_base.specs.Boxes.{box_addresses, box_values}
use Rattle.cordyceps_base.specs.BySpot.{HoldsAt}
use Rattle.cordyceps_tree.specs.Trees.{is_in}
use Rattle.cordyceps_tree.proofs.HookRows.{found_there}
use Rattle.cordyceps_tree.proofs.Placing.{spot_in, read_at}
use Rattle.cordyceps_tree.proofs.rooted.Rooted.get.Goals as goal

pub get-requires : goal.get-requires
get-requires g c =
    let ns = c.self.inside.row.boxes.blocks in let p = c.address_of-at.result.ptr in
    let on = subst (λ q. is_in q (box_addresses ns) ≡ true) (sym c.address_of-at.ensures) (spot_in ns c.args.self.now c.args.at c.self.view_is c.requires) in
    subst (λ ls. slice_get (box_addresses ls) 0 ≡ Some p) (sym c.from_address.ensures) (found_there ns p on)

pub returns : goal.returns
returns g c =
    let ns = c.self.inside.row.boxes.blocks in let p = c.address_of-at.result.ptr in let b = c.get.result.now in
    let on = subst (λ q. is_in q (box_addresses ns) ≡ true) (sym c.address_of-at.ensures) (spot_in ns c.args.self.now c.args.at c.self.view_is c.requires) in
    let here = subst (λ ls. slice_get (box_values ls) 0 ≡ Some b) c.from_address.ensures c.get.ensures in
    subst (λ q. HoldsAt c.args.self.now q b.value) c.address_of-at.ensures (subst (λ n. HoldsAt n p b.value) c.self.view_is (read_at ns p b on here))
