-- What the handle of a node holds, as the logic has it.
use denote.RattleType.{RattleType}
use Rattle.cordyceps_base.specs.contracts.node.Block as block
use Rattle.cordyceps_c_base.specs.contracts.carried.Carried as carried

abbrev pub block_row : RattleType
block_row = block.the_row carried.the_row
