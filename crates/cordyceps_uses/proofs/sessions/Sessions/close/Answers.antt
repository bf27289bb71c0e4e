use Rattle.cordyceps_uses.proofs.Indexed.{perhaps_left}
use Rattle.cordyceps_uses.proofs.sessions.Sessions.close.Goals as goal

pub invariant_of-self : goal.invariant_of-self
invariant_of-self c = perhaps_left _ c.self.inside.map c.remove.new.self c.args.id c.remove.result c.remove.ensures.removed c.lists_agree.ensures c.self.invariant
