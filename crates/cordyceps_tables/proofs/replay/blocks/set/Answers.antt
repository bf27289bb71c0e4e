use Rattle.cordyceps_list.specs.Cursor.{elements, place}
use Rattle.cordyceps_commands.specs.declared.item.Item.{Item}
use Rattle.cordyceps_tables.proofs.Blocks.{goes_written}
use Rattle.cordyceps_tables.proofs.replay.blocks.set.Goals as goal

pub returns : goal.returns
returns c =
    let was = c.args.cursor.now in
    let w : Item = record c.in-Some.item.now { value = c.args.value } in
    let stands = rw c.in-Some.is at (c.current_mut.follows.holds w) in
    goes_written was _ (elements was) (place was) (place was) _ c.in-Some.item.now c.args.value c.done.result stands c.in-Some.ensures.value c.done.ensures
