use Rattle.std.proofs.Common.{◌++◌, ◌∷◌, [], refl, sym, ◌∙◌, ap, inl, inr}
use Rattle.std.proofs.lemmas.List.{append-nil}
use Rattle.std.proofs.lemmas.Result.{err_from_is_err_and}
use Rattle.cordyceps_commands.specs.Replies.{lines_of}
use Rattle.cordyceps_tables.specs.Stacks.{step}
use Rattle.replay_lines.specs.ReplyText.{text_of}
use Rattle.replay_lines.specs.StackScript.{command_of}
use Rattle.replay_sessions.proofs.Lines.{taken, taken_as, ran}
use Rattle.replay_sessions.proofs.stack_session.StackSessionSession.take.Goals as goal

pub returns-in_err-reply-clause-taken : goal.returns-in_err-reply-clause-taken
returns-in_err-reply-clause-taken c =
    let p = err_from_is_err_and c.from_residual.result c.from_residual.ensures.1 in
    rw p.1 (_, _, [], taken command_of step c.args.self.now.stacks c.args.line.now c.in-Some.command c.in-Some.ensures.value, (0, inl refl, refl), sym (append-nil c.args.text.now.items), inl c.in_err-reply.ensures.err)

pub returns-in_err-push_reply-clause-taken : goal.returns-in_err-push_reply-clause-taken
returns-in_err-push_reply-clause-taken c =
    let p = err_from_is_err_and c.from_residual-in_err-push_reply.result c.from_residual-in_err-push_reply.ensures.1 in
    rw p.1 (_, _, [], taken command_of step c.args.self.now.stacks c.args.line.now c.in-Some.command c.in-Some.ensures.value, (0, inl refl, refl), c.in_err-push_reply.ensures.err ∙ sym (append-nil c.args.text.now.items), inr (ran (step c.args.self.now.stacks c.in-Some.command) c.play.new.self.stacks (lines_of c.in_ok-reply.reply) c.in_ok-reply.ensures.reply))

pub returns-clause-taken : goal.returns-clause-taken
returns-clause-taken c =
    let reply = c.in_ok-reply.reply in (
      text_of (lines_of reply) ∷ [],
      taken_as command_of step c.args.self.now.stacks c.play.new.self.stacks c.args.line.now c.in-Some.command (lines_of reply) c.in-Some.ensures.value c.in_ok-reply.ensures.reply,
      c.in_ok-push_reply.ensures.ok ∙ ap (λ xs. c.args.text.now.items ++ xs) (sym (append-nil (text_of (lines_of reply)))),
    )
