use Rattle.std.proofs.Common.{take}
use Rattle.freelist.specs.Users.{BothCarryOut}
use Rattle.freelist.proofs.laws.take_turns.Given as goal

abbrev pub invariant-loop-turn : goal.invariant-loop-turn
invariant-loop-turn g l =
    BothCarryOut g.T.Linked.element (take l.turn-index l.turns) l.initial.first l.first l.initial.second l.second
