use Rattle.std.proofs.Common.{◌+◌, ◌<◌, ap, ◌∙◌, arith}
use Rattle.cordyceps_stack.specs.Shared.Order.{leads_before}
use Rattle.cordyceps_stack.proofs.SharedTheory.OrderHolds.{leads_one_before}
use Rattle.cordyceps_stack.proofs.shared.parting.first_link.Goals as goal

pub returns : goal.returns
returns c =
    let place = c.crosswise-place.result in
    let some : 0 < place = (let not = c.if-place-eq0.false in omega (arith, not)) in
    ap (λ r. r + 1) c.crosswise.ensures ∙ leads_one_before c.args.rooms place some ∙ ap (leads_before c.args.rooms) c.crosswise-place.ensures
