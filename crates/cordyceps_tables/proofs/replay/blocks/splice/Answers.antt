use Rattle.std.proofs.Common.{[], ◌≡◌, ◌∙◌, sym}
use Rattle.std.proofs.lemmas.List.{get_or_read}
use Rattle.cordyceps_tables.specs.Tables.{held_at}
use Rattle.cordyceps_tables.proofs.Blocks.{splice_steps}
use Rattle.cordyceps_tables.proofs.replay.blocks.splice.Goals as goal

pub returns : goal.returns
returns c =
    let held : c.replace-more.result ≡ held_at c.args.lists.now c.args.other = c.replace-more.ensures.value ∙ (sym c.index-lists-other.is ∙ get_or_read c.args.lists.now _ _ c.requires.other c.index-lists-other.is []) in
    rw (c.replace-more.ensures.after, c.new.ensures) (splice_steps c.args.list c.args.other c.args.lists.now c.args.cursor.now c.put.new.cursor c.done.result c.requires.list c.args.side (rw c.len.ensures at c.if-not-fits_in.ensures) (rw held at c.put.ensures) c.done.ensures)
