-- Jobs that were run, and what a worker did.
use Rattle.std.specs.Prelude.{◌*◌, List, []}
use Rattle.cordyceps.specs.Elements.Element.{Element}
use Rattle.cordyceps.specs.Parties.Counts.{Same}
use Rattle.cordyceps.specs.Transfers.Calls.{PartyOf}
use Rattle.cordyceps.specs.Transfers.Moves.{Moves}
use Rattle.cordyceps_shared_uses.specs.declared.run_queue.Job.{Job}

-- a job after it was run
abbrev pub ran : Element Job → Element Job
ran e = record { id = e.id; value = record { number = e.value.number; square = e.value.number * e.value.number } }

-- from u to w a worker's party took some jobs, and put none in; these were run, and are done now
pub record Worked (done : List (Element Job)) (u w : PartyOf (Element Job)) : Type 0 where
  pub jobs : List (Element Job)
  pub took : Moves ran [] jobs u w
  pub each : Same jobs done
