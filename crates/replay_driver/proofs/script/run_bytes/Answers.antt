use Rattle.replay_driver.proofs.Whole.{gave_all, ran_whole, ran_over}
use Rattle.replay_driver.proofs.script.run_bytes.Goals as goal

pub returns-clause-all : goal.returns-clause-all
returns-clause-all g c =
    ran_whole c.args.script.now c.run_script.result c.run_script.ensures.runs
    (λ bytes gave at_end. gave_all c.args.script.now c.run_script.new.input.rest.now bytes _ _ (rw c.new-input.ensures.bytes at gave) at_end.1)

pub returns-clause-runs : goal.returns-clause-runs
returns-clause-runs g c = (
  c.run_script.new.input.rest.now,
  ran_over c.run_script.result c.run_script.ensures.runs (λ bytes gave. (rw c.new-input.ensures.bytes at gave).0) (λ at_end. at_end.1),
)
