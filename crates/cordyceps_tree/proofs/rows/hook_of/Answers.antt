use Rattle.std.proofs.Common.{◌≡◌, slice_get, Some, sym, subst}
use Rattle.cordyceps_base.specs.Boxes.{box_addresses, box_values}
use Rattle.cordyceps_tree.proofs.HookRows.{found_there, hook_read}
use Rattle.cordyceps_tree.proofs.rows.hook_of.Goals as goal

pub get-requires : goal.get-requires
get-requires g c = subst (λ ls. slice_get (box_addresses ls) 0 ≡ Some c.args.at.ptr) (sym c.from_address.ensures) (found_there c.args.row.now.boxes.blocks c.args.at.ptr c.requires)

pub returns : goal.returns
returns g c =
    sym (hook_read c.args.row.now.boxes.blocks c.args.at.ptr c.get.result.now (subst (λ ls. slice_get (box_values ls) 0 ≡ Some c.get.result.now) c.from_address.ensures c.get.ensures))
