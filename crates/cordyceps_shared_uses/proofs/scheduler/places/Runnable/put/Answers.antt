use Rattle.std.proofs.Common.{rules}
use Rattle.cordyceps_shared_uses.proofs.Scheduling.{open_got, holds_put}
use Rattle.cordyceps_shared_uses.proofs.scheduler.places.Runnable.put.Goals as goal

pub invariant_of-self : goal.invariant_of-self
invariant_of-self g c =
    let was = c.args.self.now in
    record {
      of = open_got was.of c.give.ensures.got;
      counted = holds_put c.args.task was.tasks c.push_back.new.self was.counted c.give.ensures.got c.of.ensures c.push_back.ensures;
    }

pub returns-clause-last : goal.returns-clause-last
returns-clause-last g c = search rules
