use Rattle.std.proofs.Common.{[], rules}
use Rattle.cordyceps_tables.proofs.Ends.{all_empty}
use Rattle.cordyceps_tables.proofs.replay.lists.Lists.new.Goals as goal

pub returns : goal.returns
returns c =
    let made = c.from_fn.ensures.items in
    all_empty c.from_fn.result 16 made.long (λ i below. let called = (made.at i [] below).2 in search rules)
