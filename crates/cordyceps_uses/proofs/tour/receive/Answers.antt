use Rattle.std.proofs.Common.{◌≡◌, suc, List, [], ◌∷◌, map, reverse, Option, Some, None, ap, ◌∙◌, subst}
use Rattle.cordyceps.specs.Elements.Element.{Element}
use Rattle.cordyceps.specs.Parties.Standings.{keeping, giving}
use Rattle.cordyceps.specs.Transfers.Calls.{Takes}
use Rattle.cordyceps.specs.Transfers.Inboxes.{InboxOf, IsFirstOut, ReceivesFrom}
use Rattle.cordyceps_uses.specs.declared.job.Job.{Job}
use Rattle.cordyceps_uses.proofs.HandedOver.{Seat, came}
use Rattle.cordyceps_uses.proofs.tour.receive.Goals as goal

-- the first of two comes out
first_of_two : (a b : Element Job) (result : Option (Element Job)) (left : List (Element Job)) → IsFirstOut (λ e. e) (a ∷ b ∷ []) result left → result ≡ Some a
first_of_two a b None left f = absurd cc
first_of_two a b (Some x) left f = let e = f in cc

-- an inbox that had nothing took two, and the one that was pushed first came out
received : (u : Seat) (taken : List (Element Job)) (a b : Element Job) (result : Option (Element Job)) (after : InboxOf Job (Element Job)) → taken ≡ []
    → ((batch : List (Element Job)) → Takes batch u after.party → batch ≡ b ∷ a ∷ []) → ReceivesFrom (λ e. e) taken u result after → result ≡ Some a
received u [] a b result after none both r = first_of_two a b result after.taken (subst (λ l. IsFirstOut (λ e. e) (reverse (map (λ e. e) l)) result after.taken) (both r.0 r.1) r.2)
received u (x ∷ xs) a b result after none both r = absurd cc

pub returns : goal.returns
returns g c =
    let a = c.args in
    let new = c.in_ok-shared.ensures.0 in
    let kept = c.split-pusher.ensures.0 ∙ ap (λ (z : Seat). keeping 4 z) new in
    let given = c.split-pusher.ensures.1 ∙ ap (λ (z : Seat). giving 4 z) new in
    let one = c.push.ensures.pushed in
    let two = c.push-2.ensures.pushed in
    let both : (batch : List (Element Job)) → Takes batch c.new-inbox.result.party c.pop-came.new.self.party → batch ≡ a.second ∷ a.first ∷ [] = λ batch took.
    came c.in_ok-shared.shared c.split-pusher.new.party c.split-pusher.result c.push.new.party c.push-2.new.party c.absorb.new.party c.pop-came.new.self.party (suc one.0) (suc two.0) one.1 two.1 a.first a.second batch
    kept given one.2 two.2 c.absorb.ensures (subst (λ z. Takes batch z c.pop-came.new.self.party) c.new-inbox.ensures.party took) in
    received c.new-inbox.result.party c.new-inbox.result.taken a.first a.second c.pop-came.result c.pop-came.new.self c.new-inbox.ensures.taken both c.pop-came.ensures.popped
