use Rattle.cordyceps_channel.specs.Selects.{RowFindsNone}
use Rattle.cordyceps_channel.proofs.select.Select.try_row.Given as goal

abbrev pub invariant-loop-index : goal.invariant-loop-index
invariant-loop-index g l = RowFindsNone l.none l.fn.first l.index l.initial.self-inside.receivers.items l.self-inside.receivers.items
