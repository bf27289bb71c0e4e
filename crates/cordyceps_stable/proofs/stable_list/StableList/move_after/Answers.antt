use Rattle.std.proofs.Common.{sym, ◌∙◌, subst}
use denote.RawPtr.{Ptr}
use Rattle.cordyceps_base.specs.BySpot.{HasSpot}
use Rattle.cordyceps_base.specs.Nodes.{Nodes}
use Rattle.cordyceps_stable.proofs.Holding.{others_stay}
use Rattle.cordyceps_stable.proofs.Spots.{moved_after_said}
use Rattle.cordyceps_stable.proofs.Valid.{moved_after_has, moved_after_keeps}
use Rattle.cordyceps_stable.proofs.stable_list.StableList.move_after.Goals as goal

pub move_after-requires-clause-other : goal.move_after-requires-clause-other
move_after-requires-clause-other g c e rest taken =
    let has = subst (λ (l : Nodes g.row.T.Denot × Ptr). HasSpot l.0 l.1) (λ i. (sym c.self.view_is i, sym c.to.view_is i)) c.requires.target in
    others_stay c.self.inside.chain rest c.at.inside.address.ptr c.to.inside.address.ptr e taken has (λ same. c.requires.other (sym c.at.view_is ∙ same ∙ c.to.view_is))

pub returns-clause-moved : goal.returns-clause-moved
returns-clause-moved g c = let X = g.row.T.Denot in search (moved_after_said {X = X})

pub returns-clause-kept : goal.returns-clause-kept
returns-clause-kept g c = moved_after_keeps _ _ _ _ (returns-clause-moved g c)

pub returns-clause-there : goal.returns-clause-there
returns-clause-there g c = moved_after_has _ _ _ _ (returns-clause-moved g c)
