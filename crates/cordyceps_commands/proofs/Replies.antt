-- The lines of each reply.
use Rattle.std.proofs.Common.{◌≡◌, ℕ, Bool, Option, List, [], ◌∷◌, sym, ◌∙◌, ap}
use Rattle.std.proofs.lemmas.List.Folds.{flat_map-map}
use Rattle.std.specs.List.{flat_map}
use Rattle.std.specs.declared.vec.Vec.{Vec}
use Rattle.std.specs.declared.alloc.Global.{Global}
use Rattle.cordyceps_commands.specs.declared.item.Item.{Item}
use Rattle.cordyceps_commands.specs.declared.reply.Reply.{Reply, fold-roll-Reply}
use Rattle.cordyceps_commands.specs.declared.reply.Reply.TheOpen.{Reply-F}
use Rattle.cordyceps_commands.specs.declared.reply.Reply.TheVariants.{Block, Found, Len, Index, Truth, Show, rolls-Block, rolls-Found, rolls-Len, rolls-Index, rolls-Truth, rolls-Show}
use Rattle.cordyceps_commands.specs.Replies.{Line, block_begins, found, len, index, truth, show, lines_of, lines_step}

pub block_lines : (replies : Vec Reply Global) → lines_of (Block replies) ≡ block_begins ∷ flat_map lines_of replies.items
block_lines replies =
    ap lines_of (sym (rolls-Block replies)) ∙ fold-roll-Reply (List Line) lines_step (Reply-F.Block replies) ∙ ap (λ (ls : List Line). block_begins ∷ ls) (flat_map-map (λ lines. lines) lines_of replies.items)

pub found_line : (item : Item) → lines_of (Found item) ≡ found item ∷ []
found_line item = ap lines_of (sym (rolls-Found item)) ∙ fold-roll-Reply (List Line) lines_step (Reply-F.Found item)

pub len_line : (n : ℕ) → lines_of (Len n) ≡ len n ∷ []
len_line n = ap lines_of (sym (rolls-Len n)) ∙ fold-roll-Reply (List Line) lines_step (Reply-F.Len n)

pub index_line : (n : ℕ) → lines_of (Index n) ≡ index n ∷ []
index_line n = ap lines_of (sym (rolls-Index n)) ∙ fold-roll-Reply (List Line) lines_step (Reply-F.Index n)

pub truth_line : (b : Bool) → lines_of (Truth b) ≡ truth b ∷ []
truth_line b = ap lines_of (sym (rolls-Truth b)) ∙ fold-roll-Reply (List Line) lines_step (Reply-F.Truth b)

pub show_line : (items : Vec (Option Item) Global) → lines_of (Show items) ≡ show items.items ∷ []
show_line items = ap lines_of (sym (rolls-Show items)) ∙ fold-roll-Reply (List Line) lines_step (Reply-F.Show items)
