use Rattle.replay_sharing.proofs.Workers.{works}
use Rattle.replay_sharing.proofs.share.work.Goals as goal

pub returns : goal.returns
returns g c = works _ _ _ _ _ c.requires.1 c.push.ensures.pushed c.push-2.ensures.pushed
