use Rattle.cordyceps_tables.proofs.Blocks.{split_steps}
use Rattle.cordyceps_tables.proofs.replay.blocks.split.Goals as goal

pub returns : goal.returns
returns c =
    split_steps c.args.list c.args.other c.args.lists.now c.args.cursor.now c.cut.new.cursor c.done.result c.requires.list c.args.side c.cut.result c.if-not-is_free.ensures c.cut.ensures c.done.ensures
