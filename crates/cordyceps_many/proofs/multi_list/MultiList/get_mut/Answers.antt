use Rattle.std.proofs.Common.{◌≡◌, true, refl, sym, subst}
use Rattle.cordyceps_base.specs.Boxes.{box_addresses}
use Rattle.cordyceps_base.specs.Nodes.{spots}
use Rattle.cordyceps_base.specs.Spots.{index_of}
use Rattle.cordyceps_many.specs.Threads.{is_in}
use Rattle.cordyceps_many.proofs.HookRows.{place_of}
use Rattle.cordyceps_many.proofs.Shared.{spot_in}
use Rattle.cordyceps_many.proofs.Written.{written_keeps, written_multi, written_view, shown_value}
use Rattle.cordyceps_many.proofs.multi_list.MultiList.get_mut.Goals as goal

pub at_mut-block-requires : goal.at_mut-block-requires
at_mut-block-requires g c =
    let ns = c.self.inside.row.boxes.blocks in let p = c.address_of-at.result.ptr in
    let here = subst (λ q. is_in q (box_addresses ns) ≡ true) (sym c.address_of-at.ensures) (spot_in g.H.Rows.count c.self.inside.ends ns c.args.self.now c.self.invariant c.self.view_is c.args.at c.requires) in
    (index_of p (box_addresses ns), place_of (box_addresses ns) p here)

pub invariant_of-self-lent : goal.invariant_of-self-lent
invariant_of-self-lent g c =
    let ns = c.self.inside.row.boxes.blocks in let p = c.address_of-at.result.ptr in
    λ w. written_multi ns (index_of p (box_addresses ns)) c.at_mut-block.result.now c.at_mut-block.ensures.value w g.H.Rows.count c.self.inside.ends c.self.invariant

pub returns : goal.returns
returns g c =
    let ns = c.self.inside.row.boxes.blocks in let es = c.self.inside.ends in let v = c.args.self.now in let p = c.address_of-at.result.ptr in let is = c.address_of-at.ensures in let b = c.at_mut-block.result.now in let at = c.at_mut-block.ensures.value in (
      (refl, written_view ns es v c.self.view_is p c.args.at is b at),
      record { writes_back = tt; value = shown_value ns es v c.self.view_is p c.args.at is b at; kept = λ w. written_keeps v.nodes (index_of c.args.at (spots v.nodes)) w },
    )
