use Rattle.std.proofs.Common.{◌≡◌, ◌++◌, length, take}
use Rattle.std.specs.List.{flat_map}
use Rattle.cordyceps_commands.specs.Replies.{lines_of}
use Rattle.replay_lines.specs.ReplyText.{text_of}
use Rattle.replay_lines.proofs.reply.+push_reply.Given as goal

abbrev pub invariant-loop-reply : goal.invariant-loop-reply
invariant-loop-reply l = record {
  start : l.start ≡ length l.fn.text.items;
  said : l.text.items ≡ l.fn.text.items ++ flat_map (λ r. text_of (lines_of r)) (take l.reply-index l.reply-items);
}
