use Rattle.std.proofs.Common.{◌∙◌}
use Rattle.cordyceps_shared_uses.proofs.Scheduling.{came_none, came_then, open_moved}
use Rattle.cordyceps_shared_uses.proofs.scheduler.threads.dispatch.Goals as goal

pub loop-init : goal.loop-init
loop-init g c = came_none c.args.mine.now c.args.party.now

pub dispatch_one-requires-clause-table : goal.dispatch_one-requires-clause-table
dispatch_one-requires-clause-table g c = c.loop.invariant.took.acts.table ∙ c.requires.table

pub dispatch_one-requires-clause-of : goal.dispatch_one-requires-clause-of
dispatch_one-requires-clause-of g c = open_moved c.requires.of c.loop.invariant.moved

pub loop-preserved : goal.loop-preserved
loop-preserved g c = came_then c.loop.invariant c.dispatch_one.ensures

pub returns-then-is_end : goal.returns-then-is_end
returns-then-is_end g c = came_then c.loop.invariant c.dispatch_one.ensures

pub loop-preserved-in-Err : goal.loop-preserved-in-Err
loop-preserved-in-Err g c = came_then c.loop.invariant c.dispatch_one.ensures
