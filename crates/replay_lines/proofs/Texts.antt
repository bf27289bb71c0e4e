-- The text of a reply.
use Rattle.std.proofs.Common.{◌≡◌, ℕ, List, [], ◌∷◌, ◌++◌, Result, Ok, Err, OnOk, is_ok, Some, if◌then◌else◌, refl, ◌∙◌, ap, append_assoc}
use Rattle.std.proofs.lemmas.List.{append-nil}
use Rattle.std.proofs.lemmas.List.Concat.{flat_map-append}
use Rattle.std.specs.List.{flat_map}
use Rattle.std.specs.declared.vec.Vec.{Vec}
use Rattle.std.specs.declared.alloc.Global.{Global}
use Rattle.std.specs.Prelude.{codes, decimal}
use Rattle.cordyceps_commands.specs.declared.item.Item.{Item}
use Rattle.cordyceps_commands.specs.declared.reply.Reply.{Reply}
use Rattle.cordyceps_commands.specs.declared.reply.Reply.TheVariants.{Block}
use Rattle.cordyceps_commands.specs.Replies.{Line, found, lines_of}
use Rattle.cordyceps_commands.proofs.Replies.{block_lines}
use Rattle.replay_lines.specs.ReplyText.{line_text, shown_text, text_of}

text_by_reply : (replies : List Reply) → text_of (flat_map lines_of replies) ≡ flat_map (λ r. text_of (lines_of r)) replies
text_by_reply [] = refl
text_by_reply (reply ∷ replies) =
    flat_map-append line_text (lines_of reply) (flat_map lines_of replies) ∙ ap (λ (t : List ℕ). text_of (lines_of reply) ++ t) (text_by_reply replies)

-- the text of a block is its replies' texts
pub block_text : (replies : Vec Reply Global) → text_of (lines_of (Block replies)) ≡ flat_map (λ r. text_of (lines_of r)) replies.items
block_text replies = ap text_of (block_lines replies) ∙ text_by_reply replies.items

-- a single line was added
pub line_pushed : {T E : Type 0} (result : Result T E) (old new added : List ℕ) (line : Line) → new ≡ (if is_ok result then old ++ added else old) → added ≡ line_text line →
    OnOk result (new ≡ old ++ text_of (line ∷ []))
line_pushed (Ok x) old new added line is same = rw append-nil (is ∙ ap (λ (t : List ℕ). old ++ t) same)
line_pushed (Err e) old new added line is same = tt

pub found_text : (item : Item) → codes "some " ++ (decimal item.id ++ (codes " " ++ (decimal item.value ++ codes "\n"))) ≡ line_text (found item)
found_text item = rw (append_assoc, append_assoc) refl

pub shown_item : (item : Item) → codes " " ++ (decimal item.id ++ (codes ":" ++ decimal item.value)) ≡ shown_text (Some item)
shown_item item = rw append_assoc refl

pub bytes_pushed : {T E : Type 0} (result : Result T E) (old new added text : List ℕ) → new ≡ (if is_ok result then old ++ added else old) → added ≡ text → OnOk result (new ≡ old ++ text)
bytes_pushed (Ok x) old new added text is same = is ∙ ap (λ (t : List ℕ). old ++ t) same
bytes_pushed (Err e) old new added text is same = tt
