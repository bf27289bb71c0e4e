use denote.Param.Send.{IsSend}
use Rattle.cordyceps_c_shared.proofs.InboxSent.{handle-send}
use Rattle.cordyceps_c_shared.specs.contracts.inbox_handle.InboxHandle.{the_row}

pub send : IsSend the_row
send = handle-send
