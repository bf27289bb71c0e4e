use Rattle.std.proofs.Common.{arith}
use Rattle.cordyceps_list.proofs.list.node_before.Goals.{then-before-len, else-before-len}
use Rattle.cordyceps_list.proofs.list.node_before.Goals as goal

pub returns-clause-counted : goal.returns-clause-counted
returns-clause-counted g c =
    elim c.if-before-len.branch [
      | then-before-len w ↦
          omega (arith, w.steps-is, w.walked_on_in-finger.ensures.counted, w.at_head.ensures.first, w.if-before-len.true, c.len.ensures, c.requires.inside.0, c.requires.inside.1)
      | else-before-len w ↦
          omega (arith, w.steps-is, w.walked_back_in-finger.ensures.counted, w.at_tail.ensures.last, w.if-before-len.false, c.len.ensures, c.requires.inside.0, c.requires.inside.1)
    ]
