-- What commands reply.
use Rattle.std.specs.Prelude.{ℕ, Bool, List, [], ◌∷◌, Option, Some, None}
use Rattle.std.specs.List.{flat_map}
use Rattle.cordyceps_commands.specs.declared.item.Item.{Item}
use Rattle.cordyceps_commands.specs.declared.reply.Reply.{Reply, fold-Reply}
use Rattle.cordyceps_commands.specs.declared.reply.Reply.TheOpen.{Reply-F}

-- The reply to one line of a script, or the mark before those to the lines of a block. The mark is no line of text.
pub data Line : Type 0 where
  block_begins : Line
  done : Line
  found : Item → Line
  nothing : Line
  len : ℕ → Line
  index : ℕ → Line
  truth : Bool → Line
  -- the items that were asked for, each if there is one
  show : List (Option Item) → Line
  not_there : Line

abbrev pub lines_step : Reply-F (List Line) → List Line
lines_step Reply-F.Done = done ∷ []
lines_step (Reply-F.Found item) = found item ∷ []
lines_step Reply-F.Nothing = nothing ∷ []
lines_step (Reply-F.Len n) = len n ∷ []
lines_step (Reply-F.Index n) = index n ∷ []
lines_step (Reply-F.Truth b) = truth b ∷ []
lines_step (Reply-F.Show items) = show items.items ∷ []
lines_step Reply-F.NotThere = not_there ∷ []
lines_step (Reply-F.Block replies) = block_begins ∷ flat_map (λ lines. lines) replies.items

-- the replies to the lines of a command; of a block, and of nothing else, a mark comes first, then its lines' replies
abbrev pub lines_of : Reply → List Line
lines_of = fold-Reply (List Line) lines_step

abbrev pub found_or_nothing : Option Item → Line
found_or_nothing None = nothing
found_or_nothing (Some item) = found item

abbrev pub index_or_nothing : Option ℕ → Line
index_or_nothing None = nothing
index_or_nothing (Some n) = index n
