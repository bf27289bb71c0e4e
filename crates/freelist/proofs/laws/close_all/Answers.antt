use Rattle.freelist.proofs.Meetings.{met_once}
use Rattle.freelist.proofs.laws.close_all.Goals as goal

pub returns-clause-once : goal.returns-clause-once
returns-clause-once g c = λ lives met. met_once g.T.Linked.element lives c.args.party c.close.result met c.rooms.ensures.knows c.requires.whole c.close.ensures
