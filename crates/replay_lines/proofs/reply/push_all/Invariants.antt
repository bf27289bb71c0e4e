use Rattle.std.proofs.Common.{◌≡◌, ◌++◌, take, codes}
use Rattle.std.specs.List.{flat_map}
use Rattle.replay_lines.specs.ReplyText.{shown_text}
use Rattle.replay_lines.proofs.reply.push_all.Given as goal

abbrev pub invariant-loop-item : goal.invariant-loop-item
invariant-loop-item l = l.text.items ≡ l.fn.text.items ++ (codes "show" ++ flat_map shown_text (take l.item-index l.items))
