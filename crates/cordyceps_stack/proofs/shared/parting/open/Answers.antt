use Rattle.std.proofs.Common.{refl}
use Rattle.cordyceps_stack.proofs.SharedTheory.PartingKeeps.{opens}
use Rattle.cordyceps_stack.proofs.shared.parting.open.Goals as goal

pub new-requires : goal.new-requires
new-requires g c = opens c.args.rooms _ _ refl refl refl c.in_ok-slots.ensures
