use denote.Param.Send.{IsSend}
use Rattle.cordyceps_c_shared.proofs.PileSent.{handle-send}
use Rattle.cordyceps_c_shared.specs.contracts.pile_handle.PileHandle.{the_row}

pub send : IsSend the_row
send = handle-send
