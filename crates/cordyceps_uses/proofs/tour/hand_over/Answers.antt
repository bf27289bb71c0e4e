use Rattle.std.proofs.Common.{suc, map, ap, ◌∙◌}
use Rattle.cordyceps.specs.Parties.Standings.{keeping, giving}
use Rattle.cordyceps_uses.proofs.HandedOver.{Seat, came}
use Rattle.cordyceps_uses.proofs.tour.hand_over.Goals as goal

pub returns : goal.returns
returns g c =
    let a = c.args in
    let new = c.in_ok-shared.ensures.0 in
    let kept = c.split-pusher.ensures.0 ∙ ap (λ (z : Seat). keeping 4 z) new in
    let given = c.split-pusher.ensures.1 ∙ ap (λ (z : Seat). giving 4 z) new in
    let one = c.push.ensures.pushed in
    let two = c.push-2.ensures.pushed in
    let took = c.take_all.ensures in
    took.1 ∙ ap (map (λ e. e))
    (came c.in_ok-shared.shared c.split-pusher.new.party c.split-pusher.result c.push.new.party c.push-2.new.party c.absorb.new.party c.take_all.new.party (suc one.0) (suc two.0) one.1 two.1 a.first a.second took.0
    kept given one.2 two.2 c.absorb.ensures took.2)
