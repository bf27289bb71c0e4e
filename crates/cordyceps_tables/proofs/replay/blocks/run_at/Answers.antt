use Rattle.std.proofs.Common.{[], ◌≡◌, ◌∙◌, sym, rules, ap, length}
use Rattle.std.specs.List.{flat_map}
use Rattle.std.proofs.lemmas.List.{get_or_read}
use Rattle.cordyceps_list.specs.Cursor.{elements, place}
use Rattle.cordyceps_commands.specs.Replies.{lines_of}
use Rattle.cordyceps_tables.specs.Tables.{held_at}
use Rattle.cordyceps_tables.specs.Blocks.{first_place}
use Rattle.cordyceps_tables.proofs.Blocks.{block_done}
use Rattle.cordyceps_tables.proofs.replay.blocks.run_at.Goals as goal

pub returns : goal.returns
returns c =
    let held : c.replace-held.result ≡ held_at c.args.lists.now c.args.list = c.replace-held.ensures.value ∙ (sym c.index-lists-list.is ∙ get_or_read c.args.lists.now _ _ c.requires.list c.index-lists-list.is []) in
    let first = c.cursor_at-cursor.result in
    let last = c.run_lines.new.cursor in
    let began : elements first ≡ held_at c.args.lists.now c.args.list = c.cursor_at-cursor.ensures.elements ∙ held in
    let at : place first ≡ first_place c.args.end (length (held_at c.args.lists.now c.args.list)) = c.cursor_at-cursor.ensures.place ∙ ap (λ s. first_place c.args.end (length s)) held in
    let ran = c.run_lines.ensures in
    let done = block_done c.args.list c.args.lists.now c.run_lines.new.lists first last c.args.end c.args.lines.now (flat_map lines_of c.args.replies.now.items) (flat_map lines_of c.run_lines.new.replies.items)
    c.requires.list began at (rw (c.replace-held.ensures.after, c.new.ensures) at ran.state) (rw (c.replace-held.ensures.after, c.new.ensures) at ran.told) in
    let same = ran.same_reference ∙ c.cursor_at-cursor.ensures.same_reference in
    let left = c.drop.ensures in
    search (rules, left, same, done)
