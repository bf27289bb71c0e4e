-- The text of replies.
use Rattle.std.specs.Prelude.{ℕ, true, false, List, [], ◌++◌, Option, None, Some, codes, decimal}
use Rattle.std.specs.List.{flat_map}
use Rattle.cordyceps_commands.specs.declared.item.Item.{Item}
use Rattle.cordyceps_commands.specs.Replies.{Line, block_begins, done, found, nothing, len, index, truth, show}
use Rattle.cordyceps_commands.specs.Replies.{not_there}

-- an item as a line of items shows it
abbrev pub shown_text : Option Item → List ℕ
shown_text None = codes " -"
shown_text (Some item) = codes " " ++ decimal item.id ++ codes ":" ++ decimal item.value

-- the reply line; the mark of a block has no text
abbrev pub line_text : Line → List ℕ
line_text block_begins = []
line_text done = codes "ok\n"
line_text (found item) = codes "some " ++ decimal item.id ++ codes " " ++ decimal item.value ++ codes "\n"
line_text nothing = codes "none\n"
line_text (len n) = codes "len " ++ decimal n ++ codes "\n"
line_text (index n) = codes "index " ++ decimal n ++ codes "\n"
line_text (truth true) = codes "true\n"
line_text (truth false) = codes "false\n"
line_text (show items) = codes "show" ++ flat_map shown_text items ++ codes "\n"
line_text not_there = codes "not there\n"

-- the reply lines of a command, one for each of its lines
abbrev pub text_of : List Line → List ℕ
text_of replies = flat_map line_text replies
