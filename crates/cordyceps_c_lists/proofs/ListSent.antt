-- A handle of a list may go to another thread, as the list may.
use denote.Struct.Struct.{exits_of}
use denote.Struct.Owning.{shape, fields, to}
use denote.Param.Send.{IsSend, AllSend, owning_send, struct_send, sendable}
use Rattle.std_alloc.proofs.SendSync.{quiet}
use Rattle.cordyceps_c_lists.specs.Rows.{list_row}
use Rattle.cordyceps_c_lists.specs.contracts.list_handle.ListHandle as handle
use Rattle.cordyceps_c_base.proofs.Held.{held-Keyless}
use Rattle.cordyceps_c_lists.proofs.list.List.TheSendSync as list

pub handle-send : IsSend handle.the_row
handle-send =
    let O = handle.the_type in let all : AllSend (fields O) = (search sendable, tt) in
    owning_send O all (λ d. held-Keyless list_row list.the_send d.at d.held) (λ k. quiet (to O) (exits_of k (fields O)) ((struct_send (shape O) all).leaving k))
