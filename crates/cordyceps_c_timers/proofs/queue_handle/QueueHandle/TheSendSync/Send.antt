use denote.Param.Send.{IsSend}
use Rattle.cordyceps_c_timers.proofs.QueueSent.{handle-send}
use Rattle.cordyceps_c_timers.specs.contracts.queue_handle.QueueHandle.{the_row}

pub send : IsSend the_row
send = handle-send
