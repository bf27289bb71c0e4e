use Rattle.std.proofs.Common.{arith, ◌<◌}
use Rattle.cordyceps_base.specs.Nodes.{elements}
use Rattle.cordyceps_list.proofs.Left.{last_left}
use Rattle.cordyceps_list.proofs.iter.IterDoubleEndedIterator.next_back.Goals as goal

pub returns-clause-steps : goal.returns-clause-steps
returns-clause-steps g c =
    let i = c.self.inside in
    let some : i.front < i.back = omega arith in
    rw (← c.self.view_is) (last_left (elements i.chain.now) i.front i.back c.get-item.result.now some c.get-item.ensures)
