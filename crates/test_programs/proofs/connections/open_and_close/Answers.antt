use Rattle.cordyceps.proofs.Spots.Reached.{taken_has}
use Rattle.test_programs.proofs.connections.open_and_close.Goals as goal

pub close-closed-requires : goal.close-closed-requires
close-closed-requires g c = taken_has _ _ _ _ c.open-opened.ensures.opened.opened
