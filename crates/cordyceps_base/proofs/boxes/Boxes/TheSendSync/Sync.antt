use denote.RattleType.{RattleType}
use denote.Param.Send.{IsSync}
use Rattle.core.specs.declared.alloc.Allocator.{Ghosts}
use Rattle.cordyceps_base.proofs.Crosses.{Boxes-sync}
use Rattle.cordyceps_base.specs.contracts.boxes.Boxes.{the_row}

pub sync : (B A : RattleType) (g : Ghosts A.Denot) → IsSync B → IsSync (the_row B A g)
sync B A g y = Boxes-sync B A g y
