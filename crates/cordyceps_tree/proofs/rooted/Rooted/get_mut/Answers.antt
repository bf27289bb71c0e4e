use Rattle.std.proofs.Common.{◌≡◌, true, refl, sym, subst}
use Rattle.cordyceps_base.specs.Boxes.{box_addresses}
use Rattle.cordyceps_base.specs.Spots.{index_of}
use Rattle.cordyceps_tree.specs.Trees.{is_in}
use Rattle.cordyceps_tree.proofs.HookRows.{place_of}
use Rattle.cordyceps_tree.proofs.Placing.{spot_in}
use Rattle.cordyceps_tree.proofs.Written.{written_whole, written_view, shown_value}
use Rattle.cordyceps_tree.proofs.rooted.Rooted.get_mut.Goals as goal

pub at_mut-block-requires : goal.at_mut-block-requires
at_mut-block-requires g c =
    let ns = c.self.inside.row.boxes.blocks in let p = c.address_of-at.result.ptr in
    let here = subst (λ q. is_in q (box_addresses ns) ≡ true) (sym c.address_of-at.ensures) (spot_in ns c.args.self.now c.args.at c.self.view_is c.requires) in
    (index_of p (box_addresses ns), place_of (box_addresses ns) p here)

pub invariant_of-self-lent : goal.invariant_of-self-lent
invariant_of-self-lent g c =
    let ns = c.self.inside.row.boxes.blocks in let p = c.address_of-at.result.ptr in
    λ w. written_whole ns (index_of p (box_addresses ns)) c.at_mut-block.result.now c.at_mut-block.ensures.value w c.self.inside.root.ptr c.self.inside.first.ptr c.self.inside.len c.self.invariant

pub returns : goal.returns
returns g c =
    let ns = c.self.inside.row.boxes.blocks in let v = c.args.self.now in let p = c.address_of-at.result.ptr in let is = c.address_of-at.ensures in let b = c.at_mut-block.result.now in let at = c.at_mut-block.ensures.value in (
      (refl, written_view ns v c.self.view_is p c.args.at is b at),
      record { writes_back = tt; value = shown_value ns v c.self.view_is p c.args.at is b at },
    )
