use denote.Param.Send.{IsSend}
use Rattle.cordyceps_c_lists.proofs.ListSent.{handle-send}
use Rattle.cordyceps_c_lists.specs.contracts.list_handle.ListHandle.{the_row}

pub send : IsSend the_row
send = handle-send
