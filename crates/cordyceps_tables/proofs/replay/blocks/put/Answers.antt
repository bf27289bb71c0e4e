use Rattle.cordyceps_tables.proofs.Blocks.{is_after}
use Rattle.cordyceps_tables.proofs.replay.blocks.put.Goals as goal

pub returns-in-After : goal.returns-in-After
returns-in-After c =
    let old = c.args.cursor.now in
    let s = c.splice_after.ensures in
    rw c.in-After.is (is_after old c.splice_after.new.self c.args.more s.within s.inside s.null)
