use Rattle.cordyceps_tables.proofs.Blocks.{cuts_after}
use Rattle.cordyceps_tables.proofs.replay.blocks.cut.Goals as goal

pub returns-in-After : goal.returns-in-After
returns-in-After c =
    let old = c.args.cursor.now in
    let s = c.split_after.ensures in
    rw c.in-After.is (cuts_after old c.split_after.new.self c.split_after.result s.within s.inside s.inside_stands s.null s.null_stands)
