use Rattle.std.proofs.Common.{◌≡◌, ℕ, List, ◌++◌, ◌∙◌, ap, sym, arith, take}
use Rattle.std.proofs.lemmas.List.{take_all}
use Rattle.std.specs.List.{flat_map}
use Rattle.cordyceps_commands.specs.declared.reply.Reply.{Reply}
use Rattle.cordyceps_commands.specs.Replies.{lines_of, found, len, index}
use Rattle.cordyceps_commands.proofs.Replies.{found_line, len_line, index_line}
use Rattle.replay_lines.specs.ReplyText.{line_text, text_of}
use Rattle.replay_lines.proofs.Texts.{block_text, found_text, line_pushed}
use Rattle.replay_lines.proofs.reply.+push_reply.Goals as goal

pub returns-after-loop-reply-clause-ok : goal.returns-after-loop-reply-clause-ok
returns-after-loop-reply-clause-ok n c =
    let text = c.args.text.now.items in
    let items = c.deref-reply-items.result.now in
    let all : take c.loop-reply.reply-index items ≡ items = take_all c.loop-reply.reply-index items (omega (arith, c.loop-reply-test.false)) in
    let whole = c.loop-reply.invariant.said ∙ ap (λ (rs : List Reply). text ++ flat_map (λ r. text_of (lines_of r)) rs) (all ∙ c.deref-reply-items.ensures.value) in
    rw c.in-Block.is (whole ∙ ap (λ (t : List ℕ). text ++ t) (sym (block_text c.in-Block.replies)))

pub returns-in_ok-line-in-Found-clause-ok : goal.returns-in_ok-line-in-Found-clause-ok
returns-in_ok-line-in-Found-clause-ok n c =
    let line = found c.in-Found.item in
    let same : c.as_bytes.result.now ≡ line_text line = c.as_bytes.ensures.value ∙ c.in_ok-line-in-Found.ensures.ok ∙ found_text c.in-Found.item in
    rw (c.in-Found.is, found_line) (line_pushed c.extend_from_slice-in-Found.result c.args.text.now.items c.extend_from_slice-in-Found.new.self.items c.as_bytes.result.now line c.extend_from_slice-in-Found.ensures.items same)

pub returns-in_ok-line-in-Len-clause-ok : goal.returns-in_ok-line-in-Len-clause-ok
returns-in_ok-line-in-Len-clause-ok n c =
    let line = len c.in-Len.len in
    let same : c.as_bytes-in-Len.result.now ≡ line_text line = c.as_bytes-in-Len.ensures.value ∙ c.in_ok-line-in-Len.ensures.ok in
    rw (c.in-Len.is, len_line) (line_pushed c.extend_from_slice-in-Len.result c.args.text.now.items c.extend_from_slice-in-Len.new.self.items c.as_bytes-in-Len.result.now line c.extend_from_slice-in-Len.ensures.items same)

pub returns-in_ok-line-in-Index-clause-ok : goal.returns-in_ok-line-in-Index-clause-ok
returns-in_ok-line-in-Index-clause-ok n c =
    let line = index c.in-Index.index in
    let same : c.as_bytes-in-Index.result.now ≡ line_text line = c.as_bytes-in-Index.ensures.value ∙ c.in_ok-line-in-Index.ensures.ok in
    rw (c.in-Index.is, index_line) (line_pushed c.extend_from_slice-in-Index.result c.args.text.now.items c.extend_from_slice-in-Index.new.self.items c.as_bytes-in-Index.result.now line c.extend_from_slice-in-Index.ensures.items same)
