use Rattle.std.proofs.Common.{ap}
use Rattle.cordyceps_base.specs.BySpot.{IsFirst}
use Rattle.cordyceps_stable.specs.Arranged.{Sorted}
use Rattle.cordyceps_stable.proofs.Spots.{end_told}
use Rattle.cordyceps_stable.proofs.stable_sorted_list.StableSortedList.is_first.Goals as goal

pub returns : goal.returns
returns g c =
    let view = ap (λ (s : Sorted g.row.T.Denot g.row.O.Denot). s.nodes) c.self.view_is in
    end_told IsFirst c.is_first_at.result c.self.inside.chain c.args.self.now.nodes c.at.inside.address.ptr c.args.at c.is_first_at.ensures view c.at.view_is
