-- What the lines of the modes transfer and queue reply.
use Rattle.std.specs.Prelude.{ℕ, Bool, true, false, List, ◌++◌, map, Some, codes, decimal}
use Rattle.cordyceps_commands.specs.declared.item.Item.{Item}
use Rattle.cordyceps_commands.specs.Replies.{Line}
use Rattle.replay_lines.specs.ReplyText.{line_text}
use Rattle.replay_lines.specs.declared.core_reply.CoreReply.{CoreReply}
use Rattle.replay_lines.specs.declared.core_reply.CoreReply.TheVariants as replies

pub data CoreLine : Type 0 where
  -- the number of the party that was added
  party : ℕ → CoreLine
  done : CoreLine
  -- whether the core had no item
  truth : Bool → CoreLine
  -- an item that came out, the last one of what was taken, and one whose push failed
  found : Item → CoreLine
  last : Item → CoreLine
  failed : Item → CoreLine
  taken : CoreLine
  nothing : CoreLine
  busy : CoreLine
  empty : CoreLine
  inconsistent : CoreLine
  -- what came out at once: newest first of a transfer stack, oldest first of a queue
  show : List Item → CoreLine
  not_there : CoreLine

-- the line that a reply is
abbrev pub line_of_reply : CoreReply → CoreLine
line_of_reply (replies.Party n) = party n
line_of_reply replies.Done = done
line_of_reply (replies.Truth b) = truth b
line_of_reply (replies.Found item) = found item
line_of_reply (replies.Last item) = last item
line_of_reply (replies.Failed item) = failed item
line_of_reply replies.Taken = taken
line_of_reply replies.Nothing = nothing
line_of_reply replies.Busy = busy
line_of_reply replies.Empty = empty
line_of_reply replies.Inconsistent = inconsistent
line_of_reply (replies.Show items) = show items.items
line_of_reply replies.NotThere = not_there

-- a word and an item
abbrev pub item_text : List ℕ → Item → List ℕ
item_text word item = word ++ codes " " ++ decimal item.id ++ codes " " ++ decimal item.value ++ codes "\n"

-- the reply line
abbrev pub core_text : CoreLine → List ℕ
core_text (party n) = codes "party " ++ decimal n ++ codes "\n"
core_text done = codes "ok\n"
core_text (truth true) = codes "true\n"
core_text (truth false) = codes "false\n"
core_text (found item) = item_text (codes "some") item
core_text (last item) = item_text (codes "last") item
core_text (failed item) = item_text (codes "failed") item
core_text taken = codes "taken\n"
core_text nothing = codes "none\n"
core_text busy = codes "busy\n"
core_text empty = codes "empty\n"
core_text inconsistent = codes "inconsistent\n"
core_text (show items) = line_text (Line.show (map Some items))
core_text not_there = codes "not there\n"
