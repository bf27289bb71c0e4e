use Rattle.cordyceps_list.specs.Cursor.{elements, place}
use Rattle.cordyceps_tables.proofs.Blocks.{goes_on}
use Rattle.cordyceps_tables.proofs.replay.blocks.step.Goals as goal

pub returns : goal.returns
returns c =
    let was = c.args.cursor.now in
    let stands = rw c.in-Some.is at (c.next.follows.holds c.in-Some.item.now) in
    goes_on was _ (elements was) (place was) c.in-Some.item.now c.reply_of.result stands c.in-Some.ensures.value c.reply_of.ensures
