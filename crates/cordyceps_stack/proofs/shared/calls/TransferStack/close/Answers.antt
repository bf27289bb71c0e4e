use Rattle.std.proofs.Common.{map, ap, ◌∙◌}
use Rattle.cordyceps_stack.proofs.SharedTheory.CallsHold.{takes_held}
use Rattle.cordyceps_stack.proofs.shared.calls.TransferStack.close.Goals as goal

pub returns : goal.returns
returns g c =
    let (batch, stack, takes) = c.take_all.ensures in
    stack ∙ ap (map g.T.Linked.element) (takes_held c.args.party c.take_all.new.party batch c.requires.whole takes)
