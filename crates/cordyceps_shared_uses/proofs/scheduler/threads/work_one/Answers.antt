use Rattle.cordyceps_shared_uses.specs.Names.{names}
use Rattle.cordyceps_shared_uses.proofs.Scheduling.{ran_settled}
use Rattle.cordyceps_shared_uses.proofs.scheduler.threads.work_one.Goals as goal

pub returns-clause-ran : goal.returns-clause-ran
returns-clause-ran g c =
    λ h. ran_settled c.run_round.new.task (names c.args.done.now) (names c.args.kept.now) (names c.settle.new.done) (names c.settle.new.kept) h c.in-Some.ensures.mine c.run_round.ensures.name c.settle.ensures.settles
