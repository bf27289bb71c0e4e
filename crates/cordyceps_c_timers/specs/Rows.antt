-- What a handle holds, as the logic has it.
use denote.RattleType.{RattleType}
use Rattle.cordyceps_c_timers.specs.contracts.node_queue.NodeQueue as node_queue
use Rattle.cordyceps_c_timers.specs.contracts.queue.Queue as queue
use Rattle.cordyceps_c_timers.specs.contracts.timers.Timers as timers

abbrev pub timers_row : RattleType
timers_row = timers.the_row

abbrev pub queue_row : RattleType
queue_row = queue.the_row

abbrev pub node_queue_row : RattleType
node_queue_row = node_queue.the_row
