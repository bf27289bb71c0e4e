use Rattle.std.proofs.Common.{take}
use Rattle.freelist.specs.Users.{CarriesOut}
use Rattle.freelist.proofs.laws.carry_out.Given as goal

abbrev pub invariant-loop-command : goal.invariant-loop-command
invariant-loop-command g l =
    CarriesOut g.T.Linked.element (take l.command-index l.commands) l.initial.user l.user
