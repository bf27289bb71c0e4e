use Rattle.std.proofs.Common.{◌∙◌, Some}
use Rattle.replay_lines.specs.ReplyText.{shown_text}
use Rattle.replay_lines.proofs.Texts.{shown_item, bytes_pushed}
use Rattle.replay_lines.proofs.reply.push_shown.Goals as goal

pub returns-clause-ok : goal.returns-clause-ok
returns-clause-ok c =
    let item = c.in-Some.item in
    rw c.in-Some.is (bytes_pushed c.extend_from_slice-2.result c.args.text.now.items c.extend_from_slice-2.new.self.items c.as_bytes.result.now (shown_text (Some item))
    c.extend_from_slice-2.ensures.items (c.as_bytes.ensures.value ∙ c.in_ok-shown.ensures.ok ∙ shown_item item))
