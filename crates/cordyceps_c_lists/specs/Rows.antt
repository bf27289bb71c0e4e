-- What a handle holds, as the logic has it.
use denote.RattleType.{RattleType}
use Rattle.cordyceps_stable.specs.contracts.stable_list.StableList as stable_list
use Rattle.cordyceps_c_base.specs.contracts.carried.Carried as carried
use Rattle.cordyceps_c_lists.specs.contracts.list.List as list

abbrev pub list_row : RattleType
list_row = list.the_row

abbrev pub node_list_row : RattleType
node_list_row = stable_list.the_row carried.the_row
