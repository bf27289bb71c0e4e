use Rattle.std.proofs.Common.{◌++◌, ◌∷◌, [], refl, sym, ◌∙◌, ap, inl, inr}
use Rattle.std.proofs.lemmas.List.{append-nil}
use Rattle.std.proofs.lemmas.Result.{err_from_is_err_and}
use Rattle.cordyceps_commands.specs.Replies.{lines_of}
use Rattle.replay_lines.specs.ReplyText.{text_of}
use Rattle.replay_lines.specs.ListScript.{meaning_of}
use Rattle.replay_sessions.proofs.ListLines.{some_meaning, outside, entered, entered_as, ran_outside}
use Rattle.replay_sessions.proofs.list_session.ListSession.take_outside.Goals as goal

pub returns-in_err-command-clause-taken : goal.returns-in_err-command-clause-taken
returns-in_err-command-clause-taken c =
    let p = err_from_is_err_and c.from_residual.result c.from_residual.ensures.1 in
    let (meaning, is) = some_meaning (meaning_of c.args.line.now) c.in_err-command.ensures.err in
    rw (p.1, c.requires) (_, _, [], outside c.args.self.now.lists c.args.line.now meaning is, (0, inl refl, refl), sym (append-nil c.args.text.now.items), inl refl)

pub returns-in_err-reply-in_default-command : goal.returns-in_err-reply-in_default-command
returns-in_err-reply-in_default-command c =
    let p = err_from_is_err_and c.from_residual-in_err-reply-in_default-command.result c.from_residual-in_err-reply-in_default-command.ensures.1 in
    let command = c.in-Some.command in
    let means = rw c.in-Some.is at c.in_ok-command.ensures.value in
    let none = c.in_err-reply-in_default-command.ensures.block ∙ c.requires in
    record {
      taken = rw (p.1, c.requires) (
        _,
        _,
        [],
        entered c.args.self.now.lists c.args.line.now command means c.in_default-command.not-Cursor,
        (0, inl refl, refl),
        sym (append-nil c.args.text.now.items),
        inl (rw (c.in_err-reply-in_default-command.ensures.err, none) refl),
      );
      ready = rw none tt;
    }

pub returns-in_err-push_reply-in_default-command : goal.returns-in_err-push_reply-in_default-command
returns-in_err-push_reply-in_default-command c =
    let p = err_from_is_err_and c.from_residual-in_err-push_reply-in_default-command.result c.from_residual-in_err-push_reply-in_default-command.ensures.1 in
    let command = c.in-Some.command in
    let means = rw c.in-Some.is at c.in_ok-command.ensures.value in
    let none = c.in_ok-reply-in_default-command.ensures.block ∙ c.requires in
    record {
      taken = rw (p.1, c.requires) (
        _,
        _,
        [],
        entered c.args.self.now.lists c.args.line.now command means c.in_default-command.not-Cursor,
        (0, inl refl, refl),
        c.in_err-push_reply-in_default-command.ensures.err ∙ sym (append-nil c.args.text.now.items),
        inr (ran_outside c.args.self.now.lists c.play.new.self.lists c.play.new.self.block _ (lines_of c.in_ok-reply-in_default-command.reply) none c.in_ok-reply-in_default-command.ensures.reply),
      );
      ready = rw none tt;
    }

pub returns-in_ok-push_reply-in_default-command : goal.returns-in_ok-push_reply-in_default-command
returns-in_ok-push_reply-in_default-command c =
    let command = c.in-Some.command in
    let means = rw c.in-Some.is at c.in_ok-command.ensures.value in
    let reply = c.in_ok-reply-in_default-command.reply in
    let none = c.in_ok-reply-in_default-command.ensures.block ∙ c.requires in
    record {
      taken = rw (none, c.requires) (
        text_of (lines_of reply) ∷ [],
        entered_as c.args.self.now.lists c.play.new.self.lists c.args.line.now command (lines_of reply) means c.in_default-command.not-Cursor c.in_ok-reply-in_default-command.ensures.reply,
        c.in_ok-push_reply-in_default-command.ensures.ok ∙ ap (λ xs. c.args.text.now.items ++ xs) (sym (append-nil (text_of (lines_of reply)))),
      );
      ready = rw none tt;
    }
