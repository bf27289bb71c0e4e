use Rattle.freelist.proofs.Calls.{both_first, both_second}
use Rattle.freelist.proofs.laws.take_turn.Goals as goal

pub returns-in-First : goal.returns-in-First
returns-in-First g c =
    both_first g.T.Linked.element c.args.turn c.in-First.command c.args.first.now c.step.new.self c.args.second.now c.in-First.is c.step.ensures

pub returns-in-Second : goal.returns-in-Second
returns-in-Second g c =
    both_second g.T.Linked.element c.args.turn c.in-Second.command c.args.first.now c.args.second.now c.step-in-Second.new.self c.in-Second.is c.step-in-Second.ensures
