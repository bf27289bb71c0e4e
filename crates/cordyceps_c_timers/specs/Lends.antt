-- What a handle ends as, once a `&mut` to what it holds has ended.
use Rattle.std.specs.Prelude.{Some}
use Rattle.std.specs.Borrow.{Fml, MutBor, Lends}
use Rattle.cordyceps_base.specs.Nodes.{Nodes}
use Rattle.cordyceps_c_base.specs.declared.carried.Carried.{Carried}
use Rattle.cordyceps_c_timers.specs.Timers.{Running}
use Rattle.cordyceps_c_timers.specs.Queues.{Queued}
use Rattle.cordyceps_c_timers.specs.Rows.{timers_row, queue_row, node_queue_row}
use Rattle.cordyceps_c_timers.specs.declared.timers_handle.TimersHandle.{TimersHandle}
use Rattle.cordyceps_c_timers.specs.contracts.timers_handle.TimersHandle as timers_handle
use Rattle.cordyceps_c_timers.specs.declared.queue_handle.QueueHandle.{QueueHandle}
use Rattle.cordyceps_c_timers.specs.contracts.queue_handle.QueueHandle as queue_handle
use Rattle.cordyceps_c_timers.specs.declared.node_queue_handle.NodeQueueHandle.{NodeQueueHandle}
use Rattle.cordyceps_c_timers.specs.contracts.node_queue_handle.NodeQueueHandle as node_queue_handle

abbrev pub with_timers : TimersHandle → Running → TimersHandle
with_timers h w = record { at = h.at; held = Some w }

abbrev pub lends_timers : MutBor TimersHandle → MutBor Running → Fml
lends_timers h r = Lends timers_handle.the_row timers_row h r (with_timers h.now)

abbrev pub with_queue : QueueHandle → Queued → QueueHandle
with_queue h w = record { at = h.at; held = Some w }

abbrev pub lends_queue : MutBor QueueHandle → MutBor Queued → Fml
lends_queue h r = Lends queue_handle.the_row queue_row h r (with_queue h.now)

abbrev pub with_node_queue : NodeQueueHandle → Nodes Carried → NodeQueueHandle
with_node_queue h w = record { at = h.at; held = Some w }

abbrev pub lends_node_queue : MutBor NodeQueueHandle → MutBor (Nodes Carried) → Fml
lends_node_queue h r = Lends node_queue_handle.the_row node_queue_row h r (with_node_queue h.now)
