use denote.Param.Send.{IsSend}
use Rattle.cordyceps_c_timers.proofs.TimersSent.{handle-send}
use Rattle.cordyceps_c_timers.specs.contracts.timers_handle.TimersHandle.{the_row}

pub send : IsSend the_row
send = handle-send
