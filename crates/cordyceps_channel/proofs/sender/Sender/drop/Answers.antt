use Rattle.std.proofs.Common.{[], refl}
use Rattle.cordyceps_channel.proofs.Registering.{still_opened}
use Rattle.cordyceps_channel.proofs.sender.Sender.drop.Goals as goal

pub put-requires-clause-fits : goal.put-requires-clause-fits
put-requires-clause-fits g c =
    (still_opened _ _ c.self.inside.party c.give_all_back.new.party [] c.self.inside.home c.self.invariant.opened c.give_all_back.ensures.nothing tt refl).back
