use Rattle.cordyceps_many.proofs.Marking.{long_none, off_but_first}
use Rattle.cordyceps_many.proofs.marked.Marked.none.Goals as goal
use lib.ListN.{replicate}

pub returns-clause-long : goal.returns-clause-long
returns-clause-long g c = long_none g.row.N g.row.M (record { next = c.null.result; prev = c.null-2.result }) c.requires

pub returns-clause-off : goal.returns-clause-off
returns-clause-off g c = off_but_first (replicate g.row.N (record { next = c.null.result; prev = c.null-2.result })) g.row.M
